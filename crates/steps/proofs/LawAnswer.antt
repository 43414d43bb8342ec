-- Each answer is read off the one that `settle` gave: what was done was done to a table that can be settled, in a result that has room for it.
use mathlib.Core.Path.{◌≡◌, refl, sym, ap, ◌∙◌}
use mathlib.Core.Logic.{◌≢◌}
use mathlib.Core.Bool.{Bool, true, false, cond, ◌&&◌}
use mathlib.Core.List.{List, ◌++◌}
use Prim.Native.Nat.{ℕ, ◌/◌, ◌≤◌}
use native.Mathlib.Decide.{ℕ_discrete}
use native.Mathlib.Nat.{mul-le-mul_right}
use native.Mathlib.Omega.{arith}
use borrow.Author.Tests.{le-leb, eq-eqb, ne_eqb}
use lib.Dec.{leb}
use lib.ListN.{length, take, drop, replicate}
use lib.Seq.{take_at, drop_at}
use Rattle.std.specs.Prelude.{Result, Ok, Err, MatchResult, IsErrAnd}
use Rattle.std.proofs.lemmas.Result.{err_from_is_err_and}
use Rattle.search.proofs.LawTest.{clash, either_way}
use Rattle.headers.specs.Unit.{is_unit, unit_of}
use Rattle.settle.specs.Grid.{grid, area}
use Rattle.settle.specs.declared.Grid.{Grid}
use Rattle.settle.specs.Table.{Good, is_good}
use Rattle.settle.specs.Inner.{most_cells}
use Rattle.settle.specs.Step.{loose, step, after, changes}
use Rattle.settle.specs.Answer.{answer, result, AnswersStep}
use Rattle.settle.specs.declared.Unsettled.{Unsettled}
use Rattle.settle.specs.declared.Unsettled.TheVariants.{Off, Short}
use Rattle.settle.proofs.LawLine.{by_dec}
use Rattle.settle.proofs.LawSteps.{step_good}
use Rattle.answers.specs.declared.step.Stepped.TheVariants.{Changed, Whole}
use Rattle.answers.specs.declared.step.StepFault.TheVariants.{TableOff, ResultTooShort}
use Rattle.answers.specs.declared.step.TableOff.{TableOff as NotCounted}
use Rattle.desk.specs.Cells.{width, discharged}
use Rattle.steps.specs.Table.{lent_grid, can_settle}
use Rattle.steps.specs.Step.{step_answer, TakesStep}
use Rattle.steps.specs.Count.{count_answer, CountsSteps}
use Rattle.steps.specs.Inner.{Tried}
use Rattle.steps.proofs.LawTable.{lent_good}
use Rattle.steps.proofs.LawStep.{settling_step, step_count, changes_whole, changes_next}

-- one count is one number
count_same : {E : Type 0} {n m : ℕ} {r : Result ℕ E} → r ≡ Ok n → r ≡ Ok m → n ≡ m
count_same e f = cc

-- the tests behind each answer of `settle`: the unit, the table, the room
module _ (n : ℕ) where
  abbrev tested : (u g l : Bool) → Result ℕ Unsettled
  tested u g l = cond u (cond g (cond l (Ok n) (Err Short)) (Err Off)) (Err Off)

  off_tests : (u g l : Bool) → tested u g l ≡ Err Off → (u && g) ≡ false
  off_tests false g l e = refl
  off_tests true false l e = refl
  off_tests true true false e = clash (cc)
  off_tests true true true e = clash (cc)

  short_tests : (u g l : Bool) → tested u g l ≡ Err Short → ((u && g) ≡ true) × (l ≡ false)
  short_tests false g l e = clash (cc)
  short_tests true false l e = clash (cc)
  short_tests true true false e = (refl, refl)
  short_tests true true true e = clash (cc)

  done_tests : (u g l : Bool) {m : ℕ} → tested u g l ≡ Ok m
      → ((u && g) ≡ true) × (l ≡ true) × (n ≡ m)
  done_tests false g l e = clash (cc)
  done_tests true false l e = clash (cc)
  done_tests true true false e = clash (cc)
  done_tests true true true e = (refl, refl, cc)

-- the steps are those of `settle`, in the unit's W; without a unit there are none
pub tried_unit : {unit times W : ℕ} {t lent lent' : List ℕ} {r : Result ℕ Unsettled} → is_unit unit ≡ true → W ≡ unit_of unit
    → AnswersStep (grid W width (length t / width) discharged) times t lent lent' r → Tried unit times t lent r lent'
tried_unit u q a = record { is = rw (u, ← q) a.is; cells = rw (← q) a.cells }

pub tried_none : {unit times : ℕ} {t lent : List ℕ} → is_unit unit ≡ false → Tried unit times t lent (Err Off) lent
unfolding result
tried_none e = record { is = rw e refl; cells = refl }

module _ {unit times : ℕ} {t lent lent' : List ℕ} {r : Result ℕ Unsettled} (k : Tried unit times t lent r lent') where
  abbrev g : Grid
  g = lent_grid unit t

  abbrev n : ℕ
  n = changes (step g) g.unit times t

  is_off : r ≡ Err Off → can_settle unit t ≡ false
  unfolding can_settle answer
  is_off e = off_tests n (is_unit unit) (is_good g t) (leb (area g) (length lent)) (sym k.is ∙ e)

  is_short : r ≡ Err Short → (can_settle unit t ≡ true) × (leb (length t) (length lent) ≡ false)
  unfolding can_settle answer
  is_short e =
      let d = short_tests n (is_unit unit) (is_good g t) (leb (area g) (length lent)) (sym k.is ∙ e) in
      (d.0, rw (lent_good unit t d.0).size d.1)

  is_done : {m : ℕ} → r ≡ Ok m → (can_settle unit t ≡ true) × (leb (length t) (length lent) ≡ true) × (n ≡ m)
  unfolding can_settle answer
  is_done e =
      let d = done_tests n (is_unit unit) (is_good g t) (leb (area g) (length lent)) (sym k.is ∙ e) in
      (d.0, rw (lent_good unit t d.0).size d.1, d.2)

  -- ---- how many steps

  pub count_off : r ≡ Err Off → CountsSteps unit t (Err record {})
  unfolding count_answer
  count_off e = record { answer = rw (is_off e) refl; counts = λ m q. clash (cc) }

  pub count_done : {m : ℕ} → times ≡ length t → r ≡ Ok m → CountsSteps unit t (Ok m)
  unfolding count_answer
  count_done {m} z e =
      let d = is_done e in
      let q : changes (step g) g.unit (length t) t ≡ m = ap (λ (f : ℕ). changes (step g) g.unit f t) (sym z) ∙ d.2 in
      record {
        answer = rw (d.0, q) refl;
        counts = λ p c. rw (← count_same refl c, ← q) (step_count g t (lent_good unit t d.0));
      }

  -- every table that can be settled has room in as many cells as the largest has
  pub count_room : most_cells ≤ length lent → r ≡ Err Short → ⊥
  count_room z e =
      let d = is_short e in
      let h = lent_good unit t d.0 in
      clash (ap (λ (b : Bool). cond b 0 1) (sym (le-leb (length t) (length lent) (omega (arith, h.size, mul-le-mul_right width h.shape.low))) ∙ d.1))

-- what is told of as many steps as there are cells
pub count_told : {unit : ℕ} {t lent lent' : List ℕ} (Q : Unsettled → NotCounted → Type 0) (r : Result ℕ Unsettled) →
    Tried unit (length t) t lent r lent' → most_cells ≤ length lent → (o : Result ℕ NotCounted) →
    MatchResult r (λ m. o ≡ Ok m) (λ e. IsErrAnd o (Q e)) → CountsSteps unit t o
count_told Q (Ok m) k z o h = rw h (count_done k refl refl)
count_told Q (Err Off) k z o h =
    let p = err_from_is_err_and o h in
    rw (p.1) (count_off k refl)
count_told Q (Err Short) k z o h = absurd (count_room k z refl)

-- ---- one step

module _ {unit : ℕ} {t lent lent' : List ℕ} {r : Result ℕ Unsettled} (k : Tried unit 1 t lent r lent') where
  left : {o : Result ℕ Unsettled} → r ≡ o → lent' ≡ result o (after (step (lent_grid unit t)) 1 t) lent
  left e = k.cells ∙ ap (λ (s : Result ℕ Unsettled). result s (after (step (lent_grid unit t)) 1 t) lent) e

  pub step_off : {z : List ℕ} → z ≡ replicate (length lent') 0 → r ≡ Err Off → TakesStep unit t lent (Err TableOff) z
  unfolding step_answer result
  step_off c e =
      record {
        answer = rw (is_off k e) refl;
        refused_zero = λ q. c ∙ ap (λ (l : List ℕ). replicate (length l) 0) (left e);
        past_kept = λ q. absurd (omega arith);
        settling = λ q. absurd (omega arith);
      }

  pub step_short : {z : List ℕ} → z ≡ replicate (length lent') 0 → r ≡ Err Short → TakesStep unit t lent (Err ResultTooShort) z
  unfolding step_answer result
  step_short c e =
      let d = is_short k e in
      record {
        answer = rw (d.0, d.1) refl;
        refused_zero = λ q. c ∙ ap (λ (l : List ℕ). replicate (length l) 0) (left e);
        past_kept = λ q. absurd (omega arith);
        settling = λ q. absurd (omega arith);
      }

  module _ {m : ℕ} (e : r ≡ Ok m) where
    abbrev s : List ℕ
    s = step (lent_grid unit t) t

    abbrev good : Good (lent_grid unit t) t
    good = lent_good unit t (is_done k e).0

    size : length s ≡ length t
    size = (step_good good).size ∙ sym good.size

    cells : lent' ≡ s ++ drop (length s) lent
    unfolding result after
    cells = left e

    front : take (length t) lent' ≡ s
    front = rw cells (take_at s (drop (length s) lent) (length t) size)

    past : drop (length t) lent' ≡ drop (length t) lent
    past = rw cells (drop_at s (drop (length s) lent) (length t) size ∙ ap (λ (i : ℕ). drop i lent) size)

    pub step_whole : m ≡ 0 → TakesStep unit t lent (Ok Whole) lent'
    unfolding step_answer
    step_whole z =
        let d = is_done k e in
        let w : loose (lent_grid unit t).unit t ≡ 0 =
        by_dec (ℕ_discrete (loose (lent_grid unit t).unit t) 0) (λ y. y) (λ y. absurd (omega (arith, d.2, changes_next (lent_grid unit t) 0 t y))) in
        record {
          answer = rw (d.0, d.1, eq-eqb _ 0 w) refl;
          refused_zero = λ q. absurd (q refl);
          past_kept = λ q. past;
          settling = λ q. rw front (settling_step good);
        }

    pub step_changed : m ≢ 0 → TakesStep unit t lent (Ok Changed) lent'
    unfolding step_answer
    step_changed z =
        let d = is_done k e in
        let w : loose (lent_grid unit t).unit t ≢ 0 = λ y. z (sym d.2 ∙ changes_whole (lent_grid unit t) 1 t y) in
        record {
          answer = rw (d.0, d.1, ne_eqb _ 0 w) refl;
          refused_zero = λ q. absurd (q refl);
          past_kept = λ q. past;
          settling = λ q. rw front (settling_step good);
        }

-- ---- how large a count is

-- no table has more cells, and no count is larger
pub count_few : (unit : ℕ) (t : List ℕ) (n : ℕ) → count_answer unit t ≡ Ok n → n ≤ most_cells
unfolding count_answer
count_few unit t n e =
    either_way (can_settle unit t)
    (λ y.
    let h = lent_good unit t y in
    let m = (step_count (lent_grid unit t) t h).most in
    let q : changes (step (lent_grid unit t)) (lent_grid unit t).unit (length t) t ≡ n = count_same refl (rw y at e) in
    omega (arith, mul-le-mul_right width h.shape.low))
    (λ y. clash (cc))
