-- Wrong versions, each refuted by a sentence of the promise, on every table or on a small one that is named.
use mathlib.Core.Path.{◌≡◌, refl, sym, ap, ◌∙◌}
use mathlib.Core.Logic.{◌≢◌, ◌⊎◌, inl, inr, ⊎_elim}
use mathlib.Core.Bool.{Bool, true, ◌||◌}
use mathlib.Core.List.{List, [], ◌∷◌}
use Prim.Native.Nat.{ℕ, suc, ◌+◌, ◌-◌, ◌/◌, ◌%◌, ◌≤◌, ◌<◌}
use native.Mathlib.Decide.{ℕ_discrete}
use native.Mathlib.Nat.{mod-lt}
use native.Mathlib.Omega.{arith}
use lib.Arith.{digits_div, digits_mod}
use lib.ListN.{length}
use borrow.Author.Tests.{eqb-true, ne_eqb}
use lib.Dec.{eqb}
use Rattle.search.specs.Test.{all}
use Rattle.search.proofs.LawTest.{either_way, all_at}
use Rattle.std.specs.Prelude.{Err}
use Rattle.settle.specs.Grid.{grid}
use Rattle.settle.specs.declared.Grid.{Grid}
use Rattle.settle.specs.Shown.{at, sum}
use Rattle.settle.specs.Step.{loose, end_column, twin, step_round}
use Rattle.settle.specs.Moves.{twins, round_cells, Among, OneRound}
use Rattle.settle.proofs.LawLine.{by_dec}
use Rattle.settle.proofs.LawOneRound.{among_left, among_right, among_either}
use Rattle.answers.specs.declared.step.StepFault.TheVariants.{TableOff}
use Rattle.steps.specs.Table.{can_settle, CanSettle}
use Rattle.steps.specs.Step.{WholeTable, SettlingStep, step_answer}
use Rattle.steps.specs.Count.{StepCount, count_answer}
use Rattle.steps.proofs.LawTable.{can_settle_lem}
use Rattle.steps.proofs.LawOnce.{one_count}

-- ---- the step

-- how far a cell went, up or down
abbrev moved : (t s : List ℕ) (v : ℕ) → ℕ
moved t s v = at s v - at t v + (at t v - at s v)

module _ {g : Grid} {t s cells : List ℕ} {d : ℕ} (h : OneRound g t s cells d) where
  -- a cell of the round went by the round's amount
  moved_amount : (v : ℕ) → Among v cells → moved t s v ≡ d
  moved_amount v a = ⊎_elim (λ e. omega (arith, e)) (λ e. omega (arith, e)) (h.moved v a)

  -- two cells that moved by different amounts
  pub two_amounts : (v w : ℕ) → moved t s v ≢ 0 → moved t s w ≢ 0 → moved t s v ≢ moved t s w → ⊥
  two_amounts v w p q differ =
      let still : (i : ℕ) → moved t s i ≢ 0 → (Among i cells → ⊥) → ⊥ = λ i n a. n (omega (arith, h.others i a)) in
      still v p (λ a. still w q (λ b. differ (moved_amount v a ∙ sym (moved_amount w b))))

-- ---- a second round, moved with the first

-- two rings of four loose cells, in units of ten: lines 1 and 2 in R and U, lines 3 and 4 in D and F. Moved by 7 both, they keep all sums, and
-- two cells move in each row and column: what is wrong is that they are two
abbrev two_rings : List ℕ
two_rings = 10 ∷ 3 ∷ 7 ∷ 0 ∷ 0 ∷ 10 ∷ 7 ∷ 3 ∷ 0 ∷ 0 ∷ 10 ∷ 0 ∷ 0 ∷ 3 ∷ 7 ∷ 10 ∷ 0 ∷ 0 ∷ 7 ∷ 3 ∷ 40 ∷ 10 ∷ 10 ∷ 10 ∷ 10 ∷ []

abbrev both_moved : List ℕ
both_moved = 10 ∷ 10 ∷ 0 ∷ 0 ∷ 0 ∷ 10 ∷ 0 ∷ 10 ∷ 0 ∷ 0 ∷ 10 ∷ 0 ∷ 0 ∷ 10 ∷ 0 ∷ 10 ∷ 0 ∷ 0 ∷ 0 ∷ 10 ∷ 40 ∷ 10 ∷ 10 ∷ 10 ∷ 10 ∷ []

abbrev Loose : (v : ℕ) → Type 0
Loose v = (v < 25) × (at two_rings v % 10 ≢ 0)

-- the two rows of a ring and its two columns have one number
abbrev row_ring : (v : ℕ) → ℕ
row_ring v = v / 5 / 2

abbrev column_ring : (column : ℕ) → ℕ
column_ring column = (column - 1) / 2

in_one_ring : (v : ℕ) → Bool
in_one_ring v = eqb (at two_rings v % 10) 0 || eqb (row_ring v) (column_ring (v % 5))

rings : all 25 in_one_ring ≡ true
unfolding all in_one_ring
rings = refl

loose_ring : (v : ℕ) → Loose v → row_ring v ≡ column_ring (v % 5)
unfolding in_one_ring
loose_ring v h =
    let e : in_one_ring v ≡ true = all_at in_one_ring 25 v rings h.0 in
    eqb-true (row_ring v) (column_ring (v % 5)) (rw (ne_eqb (at two_rings v % 10) 0 h.1) at e)

-- a path whose cells and twins are loose stays in the ring of the column by which it is left
module _ (ring : ℕ) where
  path_ring : (x : ℕ) (us : List ℕ) → x < 5 → column_ring x ≡ ring → ((v : ℕ) → Among v us → Loose v)
      → ((v : ℕ) → Among v (twins 5 x us) → Loose v) → (v : ℕ) → Among v us ⊎ Among v (twins 5 x us) → row_ring v ≡ ring
  unfolding twins
  path_ring x [] l e p q v a = ⊎_elim (λ b. absurd b) (λ b. absurd b) a
  path_ring x (u ∷ us) l e p q v a =
      let i = twin 5 x u in
      let there : row_ring i ≡ ring = loose_ring i (q i (inl refl)) ∙ ap column_ring (digits_mod (u / 5) l) ∙ e in
      let here : row_ring u ≡ ring = sym (ap (λ (r : ℕ). r / 2) (digits_div (u / 5) l)) ∙ there in
      let next : column_ring (u % 5) ≡ ring = sym (loose_ring u (p u (inl refl))) ∙ here in
      let rest = path_ring (u % 5) us (mod-lt u (omega arith)) next (λ w b. p w (inr b)) (λ w b. q w (inr b)) v in
      ⊎_elim (λ b. ⊎_elim (λ z. rw (← z) here) (λ z. rest (inl z)) b) (λ b. ⊎_elim (λ z. rw (← z) there) (λ z. rest (inr z)) b) a

end_small : (x : ℕ) (us : List ℕ) → x < 5 → end_column 5 x us < 5
unfolding end_column
end_small x [] l = l
end_small x (u ∷ us) l = end_small (u % 5) us (mod-lt u (omega arith))

-- no closed round, whichever it is, has the cells of both
pub two_rings_no_round : (us : List ℕ) (d : ℕ) → OneRound (grid 10 5 5 3) two_rings both_moved (round_cells 5 us) d → ⊥
two_rings_no_round us d h =
    let x = end_column 5 0 us in
    let back = twins 5 x us in
    let ring = column_ring x in
    let within =
    path_ring ring x us (end_small 0 us (omega arith)) refl (λ v a. h.inside v (among_left v us back a)) (λ v a. h.inside v (among_right v us back a)) in
    let stays : (v : ℕ) → row_ring v ≢ ring → at both_moved v ≡ at two_rings v = λ v n. h.others v (λ a. n (within v (among_either v us back a))) in
    by_dec (ℕ_discrete ring 0)
    (λ e. let m : ◌≡◌ {A = ℕ} 10 3 = stays 13 (λ z. omega (arith, z, e)) in omega arith)
    (λ e. let m : ◌≡◌ {A = ℕ} 10 3 = stays 1 (λ z. e (sym z)) in omega arith)

eight_loose : loose 10 two_rings ≡ 8
unfolding loose ℕ_discrete
eight_loose = refl

pub second_round : SettlingStep (grid 10 5 5 3) two_rings both_moved → ⊥
second_round h = two_rings_no_round (step_round (grid 10 5 5 3) two_rings) _ (h.one_round (λ z. omega (arith, z, eight_loose)))

-- ---- a whole table

-- a whole table that changes, and a table with a loose cell that does not
pub whole_changed : {g : Grid} {t s : List ℕ} → SettlingStep g t s → WholeTable g t → s ≢ t → ⊥
whole_changed h w n = n (h.whole_stays w)

pub loose_unchanged : {g : Grid} {t : List ℕ} → (WholeTable g t → ⊥) → SettlingStep g t t → ⊥
loose_unchanged n h = n (h.only_whole_stays refl)

-- ---- the count

pub one_short : {g : Grid} {t : List ℕ} (n : ℕ) → StepCount g t (suc n) → StepCount g t n → ⊥
one_short n p h = omega (arith, one_count p h)

-- ---- 22, whatever room there is: so never 3 before it

module _ (unit : ℕ) (t : List ℕ) (off : CanSettle unit t → ⊥) where
  pub off_refused : (room : ℕ) → step_answer unit t room ≡ Err TableOff
  unfolding step_answer
  off_refused room = either_way (can_settle unit t) (λ e. absurd (off (can_settle_lem unit t e))) (λ e. rw e refl)

  pub off_not_counted : count_answer unit t ≡ Err record {}
  unfolding count_answer
  off_not_counted = either_way (can_settle unit t) (λ e. absurd (off (can_settle_lem unit t e))) (λ e. rw e refl)

-- a unit that is none; no row; 130 rows
pub no_unit : (t : List ℕ) → CanSettle 0 t → ⊥
no_unit t h = omega (arith, h.unit_code.low)

pub unit_four : (t : List ℕ) → CanSettle 4 t → ⊥
unit_four t h = omega (arith, h.unit_code.high)

pub no_rows_lem : (unit : ℕ) → CanSettle unit [] → ⊥
no_rows_lem unit h = omega (arith, h.cells, h.row_count.low)

pub too_many_rows : (unit : ℕ) (t : List ℕ) → 645 < length t → CanSettle unit t → ⊥
too_many_rows unit t l h = omega (arith, h.cells, h.row_count.high)

-- a row of sums that are not 0, of no lines
pub lone_row : (unit r u d f : ℕ) → CanSettle unit ((r + u + d + f) ∷ r ∷ u ∷ d ∷ f ∷ []) → r + u + d + f ≡ 0
unfolding sum
lone_row unit r u d f h =
    let size = h.cells in
    let one : h.rows ≡ 1 = omega arith in
    rw one at (h.sums.columns 0 (omega arith))

-- a sum that is off by one
pub row_off : (unit : ℕ) → CanSettle unit (300000 ∷ 200000 ∷ 0 ∷ 100001 ∷ 0 ∷ 300000 ∷ 200000 ∷ 0 ∷ 100001 ∷ 0 ∷ []) → ⊥
unfolding sum
row_off unit h =
    let e : ◌≡◌ {A = ℕ} 300000 300001 = h.sums.rows 0 h.row_count.low in
    omega arith

pub column_off : (unit : ℕ) → CanSettle unit (300001 ∷ 200000 ∷ 0 ∷ 100001 ∷ 0 ∷ 300000 ∷ 200000 ∷ 0 ∷ 100000 ∷ 0 ∷ []) → ⊥
unfolding sum
column_off unit h =
    let size = h.cells in
    let two : h.rows ≡ 2 = omega arith in
    let e = rw two at (h.sums.columns 3 (omega arith)) in
    omega (arith, e)

-- a cell above the limit
pub over_limit : (unit : ℕ) (t : List ℕ) → 5 ≤ length t → at t 0 ≡ 16_000_000_000_000_000_001 → CanSettle unit t → ⊥
over_limit unit t l e h = omega (arith, h.most 0 (omega arith), e)

-- sums that would be right modulo 2^64: two lines of 16 · 10^18, and 32 · 10^18 less 2^64 as their total
abbrev wrapped : (line total : ℕ) → List ℕ
wrapped line total = line ∷ 0 ∷ 0 ∷ line ∷ 0 ∷ line ∷ 0 ∷ 0 ∷ line ∷ 0 ∷ total ∷ 0 ∷ 0 ∷ total ∷ 0 ∷ []

pub wrapped_sum : (unit : ℕ) → CanSettle unit (wrapped 16_000_000_000_000_000_000 13_553_255_926_290_448_384) → ⊥
unfolding sum
wrapped_sum unit h =
    let size = h.cells in
    let three : h.rows ≡ 3 = omega arith in
    let e = rw three at (h.sums.columns 0 (omega arith)) in
    omega (arith, e)
