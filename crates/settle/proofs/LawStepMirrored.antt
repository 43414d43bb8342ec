-- A step of the mirror moves one closed round, so that it keeps the sums and the bounds, by the round's least room, so that one cell more is
-- whole. So after as many steps as there are cells nothing is loose.
use mathlib.Core.Path.{◌≡◌, refl, sym, ap, ◌∙◌}
use mathlib.Core.Logic.{◌≢◌}
use mathlib.Core.List.{List, [], ◌∷◌}
use mathlib.Core.Bool.{Bool, not}
use Prim.Native.Nat.{ℕ, zero, suc, ◌+◌, ◌-◌, ◌*◌, ◌%◌, ◌≤◌, ◌<◌}
use native.Mathlib.Nat.{le_of_suc-le-suc, mul-one, zero-add, le_refl, le_of_eq}
use native.Mathlib.Decide.{ℕ_discrete, dec_lt}
use native.Mathlib.Omega.{arith}
use lib.Dec.{eqb}
use lib.ListN.{length, get_or}
use lib.Seq.{take_all}
use Rattle.settle.specs.Grid.{Grid}
use Rattle.settle.specs.Shown.{at, Whole, sum}
use Rattle.settle.specs.Step.{whole?, end_column, move_by, least, part, rises, move_round, first_loose, round_from, marked_cell}
use Rattle.settle.specs.Step.{step_mirrored, loose, after, changes}
use Rattle.settle.specs.Moves.{Within}
use Rattle.settle.specs.Inner.{Closed, Fit, Start, Table, Unsettled, SoughtAll, WholeTo, Bounds, Steps}
use Rattle.settle.proofs.LawLine.{pick_yes, pick_no, by_dec, seen}
use Rattle.settle.proofs.LawNear.{within_refl, within_trans, within_most}
use Rattle.settle.proofs.LawRound.{Hit, move_length, move_row, round_column, move_within, round_count, fit_least, hit_least}
use Rattle.settle.proofs.LawRound.{cell_whole, cell_loose}
use Rattle.settle.proofs.LawTable.{small_of}
use Rattle.settle.proofs.LawWalk.{free_most, way_start, walk_round, end_take}

-- what a step keeps, and the steps after it
pub record Kept (g : Grid) (t t' : List ℕ) : Type 0 where
  pub size : length t' ≡ length t
  pub rows : (i : ℕ) → sum t' (i * g.columns) 1 g.columns ≡ sum t (i * g.columns) 1 g.columns
  pub columns : (j : ℕ) → j < g.columns → sum t' j g.columns g.rows ≡ sum t j g.columns g.rows
  pub within : (i : ℕ) → Within g.unit (at t i) (at t' i)

pub last_column : (K x : ℕ) (us : List ℕ) → 0 < length us → get_or us (length us - 1) 0 % K ≡ end_column K x us
last_column K x us h =
    let e : suc (length us - 1) ≡ length us = omega arith in
    sym (ap (end_column K x) (sym (take_all (suc (length us - 1)) us (omega arith))) ∙ end_take K x (length us - 1) us (omega arith))

pub end_end : (K x y : ℕ) (us : List ℕ) → 0 < length us → end_column K x us ≡ end_column K y us
end_end K x y us h = sym (last_column K x us h) ∙ last_column K y us h

-- a move as the code has it
module _ (W K : ℕ) (lift : Bool) (mark : ℕ) (us t : List ℕ) {x d p m : ℕ} {up : Bool} (qx : x ≡ end_column K 0 us)
    (qu : up ≡ rises lift mark us) (qd : d ≡ least W K up t x us) (qp : p ≡ part up d) (qm : m ≡ part (not up) d) where
  pub move_fits : Closed W K t us → Fit W K p m t x us
  move_fits g = rw (qp, qm) (fit_least W K up t x us d (rw qx g.trail) (le_of_eq qd))

  pub move_is : move_by K p m x us t ≡ move_round W K lift mark us t
  unfolding move_round
  move_is = rw (qp, qm, qd, qu, qx)

hit_some : (W K : ℕ) (up : Bool) (t : List ℕ) (x : ℕ) (us : List ℕ) → 0 < W → 0 < length us →
    let d = least W K up t x us in
    Hit W K (part up d) (part (not up) d) t x us
hit_some W K up t x [] h l = absurd (omega arith)
hit_some W K up t x (u ∷ us) h l = hit_least W K up t x u us _ h refl

-- a round that is moved
module _ {g : Grid} {t us : List ℕ} (h : Table g t) (c : Closed g.unit g.columns t us) (lift : Bool) (mark : ℕ) where
  abbrev up : Bool
  up = rises lift mark us

  abbrev x : ℕ
  x = end_column g.columns 0 us

  abbrev d : ℕ
  d = least g.unit g.columns up t x us

  fit : Fit g.unit g.columns (part up d) (part (not up) d) t x us
  fit = fit_least g.unit g.columns up t x us d c.trail (le_refl d)

  pub round_kept : Kept g t (move_round g.unit g.columns lift mark us t)
  unfolding move_round
  round_kept =
      let p = part up d in
      let m = part (not up) d in
      let hW = h.shape.unit in
      let h_k = h.shape.wide in
      record {
        size = move_length p m hW h_k x us t fit;
        rows = move_row p m hW h_k x us t fit;
        columns = λ j. round_column p m hW h_k x us t fit (end_end g.columns x 0 us c.some) g.rows j h.even.size;
        within = move_within p m hW h_k x us t fit;
      }

  pub round_fewer : loose g.unit (move_round g.unit g.columns lift mark us t) < loose g.unit t
  unfolding move_round
  round_fewer =
      round_count (part up d) (part (not up) d) h.shape.unit h.shape.wide x us t fit
      (hit_some g.unit g.columns up t x us h.shape.unit c.some)

-- what is kept is kept on
pub kept_refl : {g : Grid} {t : List ℕ} → 0 < g.unit → Kept g t t
kept_refl h = record { size = refl; rows = λ i. refl; columns = λ j l. refl; within = λ i. within_refl h }

pub kept_trans : {g : Grid} {t t' t'' : List ℕ} → 0 < g.unit → Kept g t t' → Kept g t' t'' → Kept g t t''
kept_trans h a b =
    record {
      size = b.size ∙ a.size;
      rows = λ i. b.rows i ∙ a.rows i;
      columns = λ j l. b.columns j l ∙ a.columns j l;
      within = λ i. within_trans h (a.within i) (b.within i);
    }

pub kept_table : {g : Grid} {t t' : List ℕ} → Table g t → Kept g t t' → Table g t'
kept_table h a =
    record {
      shape = h.shape;
      even =
          record {
            size = a.size ∙ h.even.size;
            rows = λ i l. rw (a.rows i) (h.even.rows i l);
            columns = λ j l. rw (a.columns j l) (h.even.columns j l);
          };
      most = λ i. within_most h.shape.unit h.shape.whole (h.most i) (a.within i);
    }

-- the loose cells, counted
all_count : (W : ℕ) (t : List ℕ) → ((i : ℕ) → i < length t → Whole W (at t i)) → loose W t ≡ 0
unfolding loose
all_count W [] h = refl
all_count W (x ∷ xs) h = omega (arith, cell_whole W x (h 0 (omega arith)), all_count W xs (λ i l. h (suc i) (omega arith)))

pub count_all : (W : ℕ) (t : List ℕ) → loose W t ≡ 0 → (i : ℕ) → i < length t → Whole W (at t i)
unfolding loose
count_all W [] e i l = absurd (omega arith)
count_all W (x ∷ xs) e zero l = by_dec (whole? W x) (λ w. w) (λ w. absurd (omega (arith, cell_loose W x w)))
count_all W (x ∷ xs) e (suc i) l = count_all W xs (omega arith) i (le_of_suc-le-suc l)

pub count_most : (W : ℕ) (t : List ℕ) → loose W t ≤ length t
unfolding loose
count_most W [] = omega arith
count_most W (x ∷ xs) =
    by_dec (whole? W x)
    (λ w. omega (arith, cell_whole W x w, count_most W xs))
    (λ w. omega (arith, cell_loose W x w, count_most W xs))

-- the first loose cell
module _ (W : ℕ) (t : List ℕ) where
  pub first_loose_lem : first_loose W t < length t → at t (first_loose W t) % W ≢ 0
  first_loose_lem l = rw (mul-one, zero-add) at ((seen W t 0 1 (length t) (length t) 0).hit (omega arith)).1

  pub first_before : WholeTo W t (first_loose W t)
  first_before j l =
      let s = seen W t 0 1 (length t) (length t) 0 in
      rw (mul-one, zero-add) at (s.passed j (omega arith) l (omega (arith, s.most)))

  pub first_none : length t ≤ first_loose W t → loose W t ≡ 0
  first_none l = all_count W t (λ i z. first_before i (omega arith))

-- one step
module _ {g : Grid} {t : List ℕ} (h : Table g t) where
  pub round_closed : {i : ℕ} → i < length t → at t i % g.unit ≢ 0 →
      Closed g.unit g.columns t (round_from g.unit g.columns g.rows t i)
  round_closed {i} l z =
      let start = way_start g.unit g.columns g.rows t i h.shape.wide (omega (arith, h.even.size)) z in
      walk_round h.shape.wide h.even _ start (omega (arith, free_most g.columns [] g.columns, h.shape.narrow))

  pub mirrored_moves : first_loose g.unit t < length t →
      let mark = marked_cell g.columns g.rows g.marked in
      let us = round_from g.unit g.columns g.rows t (first_loose g.unit t) in
      step_mirrored g t ≡ move_round g.unit g.columns (eqb g.marked 0) mark us t
  unfolding step_mirrored
  mirrored_moves l = pick_yes (dec_lt (first_loose g.unit t) (length t)) _ _ l

  pub mirrored_rests : length t ≤ first_loose g.unit t → step_mirrored g t ≡ t
  unfolding step_mirrored
  mirrored_rests l =
      let q : first_loose g.unit t < length t → ⊥ = omega arith in
      pick_no (dec_lt (first_loose g.unit t) (length t)) _ _ q

  -- a whole table stays
  pub mirrored_stays : loose g.unit t ≡ 0 → step_mirrored g t ≡ t
  mirrored_stays z =
      by_dec (dec_lt (first_loose g.unit t) (length t))
      (λ l. absurd (first_loose_lem g.unit t l (count_all g.unit t z _ l)))
      (λ l. mirrored_rests (omega arith))

  first_closed : first_loose g.unit t < length t →
      Closed g.unit g.columns t (round_from g.unit g.columns g.rows t (first_loose g.unit t))
  first_closed l = round_closed l (first_loose_lem g.unit t l)

  pub mirrored_kept : Kept g t (step_mirrored g t)
  mirrored_kept =
      by_dec (dec_lt (first_loose g.unit t) (length t))
      (λ l. rw (mirrored_moves l) (round_kept h (first_closed l) _ _))
      (λ l. rw (mirrored_rests (omega arith)) (kept_refl h.shape.unit))

  pub mirrored_table : Table g (step_mirrored g t)
  mirrored_table = kept_table h mirrored_kept

  pub mirrored_fewer : first_loose g.unit t < length t → loose g.unit (step_mirrored g t) < loose g.unit t
  mirrored_fewer l = rw (mirrored_moves l) (round_fewer h (first_closed l) _ _)

  pub mirrored_count : loose g.unit (step_mirrored g t) ≤ loose g.unit t - 1
  mirrored_count =
      by_dec (dec_lt (first_loose g.unit t) (length t))
      (λ l. omega (arith, mirrored_fewer l))
      (λ l. rw (mirrored_rests (omega arith)) (omega (arith, first_none g.unit t (omega arith))))

  -- what the code's searches and moves ask
  pub sought_all : {f : ℕ} → f ≤ length t → WholeTo g.unit t f → SoughtAll g.unit t f
  sought_all l w =
      record { unit = h.shape.unit; few = omega (arith, h.even.size, (small_of h.shape).few); from = l; passed = w }

  pub bounds_of : Bounds g.unit g.columns t
  bounds_of = record { unit = h.shape.unit; wide = h.shape.wide; whole = h.shape.whole; most = h.most }

-- the same, of a cell that is the first loose one, and of a round that is its round
module _ {g : Grid} {t : List ℕ} {i : ℕ} (h : Unsettled g t i) where
  loose_at : at t i % g.unit ≢ 0
  loose_at = rw h.first (first_loose_lem g.unit t (rw h.first at h.inside))

  pub whole_to : WholeTo g.unit t i
  whole_to = rw h.first (first_before g.unit t)

  pub start_of : Start g.unit g.columns g.rows t i
  start_of =
      record {
        unit = h.table.shape.unit;
        small = small_of h.table.shape;
        even = h.table.even;
        inside = omega (arith, h.inside, h.table.even.size);
        loose = loose_at;
        before = whole_to;
      }

  module _ {us : List ℕ} (p : us ≡ round_from g.unit g.columns g.rows t i) where
    pub round_at : Closed g.unit g.columns t us
    round_at = rw p (round_closed h.table h.inside loose_at)

    pub moves_at : {mark : ℕ} → mark ≡ marked_cell g.columns g.rows g.marked →
        move_round g.unit g.columns (eqb g.marked 0) mark us t ≡ step_mirrored g t
    moves_at q = rw (q, p, h.first) (sym (mirrored_moves h.table (rw h.first at h.inside)))

-- steps, one after the other
module _ (next : List ℕ → List ℕ) (all i : ℕ) (t : List ℕ) where
  after_on : i < all → after next (all - i) t ≡ after next (all - (i + 1)) (next t)
  unfolding after
  after_on l = let e : all - i ≡ suc (all - (i + 1)) = omega arith in rw e refl

  changes_on : (W : ℕ) → i < all → loose W t ≢ 0 → changes next W (all - i) t ≡ suc (changes next W (all - (i + 1)) (next t))
  unfolding changes
  changes_on W l h =
      let e : all - i ≡ suc (all - (i + 1)) = omega arith in
      rw e (pick_no (ℕ_discrete (loose W t) 0) _ _ h)

after_stays : (next : List ℕ → List ℕ) (f : ℕ) (t : List ℕ) → next t ≡ t → after next f t ≡ t
unfolding after
after_stays next zero t h = refl
after_stays next (suc f) t h = ap (after next f) h ∙ after_stays next f t h

changes_none : (next : List ℕ → List ℕ) (W f : ℕ) (t : List ℕ) → loose W t ≡ 0 → changes next W f t ≡ 0
unfolding changes
changes_none next W zero t h = refl
changes_none next W (suc f) t h = pick_yes {A = ℕ} (ℕ_discrete (loose W t) 0) _ _ h

-- all steps of a table
pub settle_kept : {g : Grid} (f : ℕ) {t : List ℕ} → Table g t → Kept g t (after (step_mirrored g) f t)
unfolding after
settle_kept zero h = kept_refl h.shape.unit
settle_kept (suc f) h = kept_trans h.shape.unit (mirrored_kept h) (settle_kept f (mirrored_table h))

settle_count : {g : Grid} (f : ℕ) {t : List ℕ} → Table g t → loose g.unit (after (step_mirrored g) f t) ≤ loose g.unit t - f
unfolding after
settle_count zero h = omega arith
settle_count (suc f) h = omega (arith, settle_count f (mirrored_table h), mirrored_count h)

pub settle_whole : {g : Grid} {t : List ℕ} → Table g t → loose g.unit (after (step_mirrored g) (length t) t) ≡ 0
settle_whole {g} {t} h = omega (arith, settle_count (length t) h, count_most g.unit t)

-- of f steps from t₀ some are taken, and t is where they lead
pub record Settling (g : Grid) (f : ℕ) (t₀ t : List ℕ) (steps : ℕ) : Type 0 where
  pub table : Table g t
  pub few : steps ≤ f
  pub rest : after (step_mirrored g) (f - steps) t ≡ after (step_mirrored g) f t₀
  pub counted : steps + changes (step_mirrored g) g.unit (f - steps) t ≡ changes (step_mirrored g) g.unit f t₀

module _ {g : Grid} {f : ℕ} {t₀ t : List ℕ} {steps : ℕ} (h : Settling g f t₀ t steps) where
  -- all are taken
  pub settling_done : f ≤ steps → Steps (step_mirrored g) g.unit f t₀ t steps
  unfolding after changes
  settling_done l =
      let e : f - steps ≡ 0 = omega arith in
      let q = rw e at h.counted in
      record { table = rw e at h.rest; count = omega arith }

  -- nothing is loose
  pub settling_end : {i : ℕ} → i ≡ first_loose g.unit t → length t ≤ i → Steps (step_mirrored g) g.unit f t₀ t steps
  settling_end e l =
      let l' : length t ≤ first_loose g.unit t = rw e at l in
      record {
        table = sym (after_stays (step_mirrored g) (f - steps) t (mirrored_rests h.table l')) ∙ h.rest;
        count = omega (arith, changes_none (step_mirrored g) g.unit (f - steps) t (first_none g.unit t l'), h.counted);
      }

  module _ {i : ℕ} (e : i ≡ first_loose g.unit t) (l : i < length t) where
    pub unsettled : Unsettled g t i
    unsettled = record { table = h.table; first = e; inside = l }

    module _ {t' : List ℕ} (q : t' ≡ step_mirrored g t) where
      pub settling_next : steps < f → Settling g f t₀ t' (steps + 1)
      settling_next s =
          let c = mirrored_fewer h.table (rw e at l) in
          rw q
          (record {
            table = mirrored_table h.table;
            few = omega arith;
            rest = sym (after_on (step_mirrored g) f steps t s) ∙ h.rest;
            counted = omega (arith, changes_on (step_mirrored g) f steps t g.unit s (omega arith), h.counted);
          })

      -- what is whole stays whole, so the search goes on from there
      pub sought_on : SoughtAll g.unit t' i
      sought_on =
          let k = mirrored_kept h.table in
          rw q
          (sought_all (mirrored_table h.table) (omega (arith, k.size))
          (λ j m. let w = whole_to unsettled j m in rw ((k.within j).kept w) w))
