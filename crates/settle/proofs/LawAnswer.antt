-- Each answer of a public function is read off the tests that led to it, and for a good table and enough room only one answer is left.
use mathlib.Core.Path.{◌≡◌, refl, sym, ap, ◌∙◌}
use mathlib.Core.Bool.{Bool, true, false, cond}
use mathlib.Core.List.{List, ◌++◌}
use Rattle.std.specs.declared.result.Result.{Result}
use Rattle.std.specs.declared.result.Result.TheVariants.{Ok, Err}
use Prim.Native.Nat.{ℕ, ◌≤◌, ◌<◌}
use native.Mathlib.Omega.{arith}
use borrow.Author.Tests.{le-leb, lt-leb}
use lib.Dec.{leb}
use lib.ListN.{length, drop, take, length-append}
use lib.Seq.{take_at, drop_at}
use Rattle.search.proofs.LawTest.{clash}
use Rattle.settle.specs.Grid.{Grid, area}
use Rattle.settle.specs.Table.{Good, is_good}
use Rattle.settle.specs.Step.{step, after, changes, units, shown_table}
use Rattle.settle.specs.Answer.{answer, result, AnswersStep, AnswersShow, Showing}
use Rattle.settle.specs.Inner.{Steps}
use Rattle.settle.specs.declared.Unsettled.{Unsettled}
use Rattle.settle.specs.declared.Unsettled.TheVariants.{Off, Short}
use Rattle.settle.proofs.LawCells.{length_units}
use Rattle.settle.proofs.LawShown.{shown_length, shown_law, shown_more, shown_steps}
use Rattle.settle.proofs.LawSteps.{steps_good}
use Rattle.settle.proofs.LawTable.{good_of, good_is}

-- the three answers of a step
module _ (g : Grid) (f : ℕ) (t lent : List ℕ) where
  pub answers_off : is_good g t ≡ false → AnswersStep g f t lent lent (Err Off)
  unfolding answer result
  answers_off e = record { is = rw e refl; cells = refl }

  pub answers_short : is_good g t ≡ true → length lent < length t → AnswersStep g f t lent lent (Err Short)
  unfolding answer result
  answers_short e l =
      let s = (good_of g t e).size in
      record { is = rw (e, lt-leb (area g) (length lent) (omega arith)) refl; cells = refl }

  pub answers_done : {s : List ℕ} {r : ℕ} → is_good g t ≡ true → length t ≤ length lent → Steps (step g) g.unit f t s r →
      AnswersStep g f t lent (s ++ drop (length t) lent) (Ok r)
  unfolding answer result
  answers_done e l k =
      let h = good_of g t e in
      let z = h.size in
      let m : length t ≡ length (after (step g) f t) = z ∙ sym (steps_good f h).size in
      record { is = rw (e, le-leb (area g) (length lent) (omega arith), k.count) refl; cells = rw (k.table, m) refl }

-- what is done was done to a good table
done_only : (g c : Bool) (x m : ℕ) (o : Result ℕ Unsettled) → o ≡ cond g (cond c (Ok x) (Err Short)) (Err Off) → o ≡ Ok m → g ≡ true
done_only true c x m o a e = refl
done_only false c x m o a e = clash (cc)

-- `show` goes on from the answer of `step`
module _ {g : Grid} {f : ℕ} {t lent lent' : List ℕ} {r : Result ℕ Unsettled} (a : AnswersStep g f t lent lent' r) where
  abbrev table : List ℕ
  table = after (step g) f t

  left : {o : Result ℕ Unsettled} → r ≡ o → lent' ≡ result o table lent
  left e = a.cells ∙ ap (λ (s : Result ℕ Unsettled). result s table lent) e

  pub still_unsettled : {why : Unsettled} → f ≡ length t → r ≡ Err why → AnswersShow g t lent lent' (Err why)
  unfolding result
  still_unsettled z e = record { is = rw (← z) (sym e ∙ a.is); cells = left e }

  module _ {m : ℕ} (e : r ≡ Ok m) where
    pub done_good : Good g t
    unfolding answer
    done_good = good_of g t (done_only (is_good g t) (leb (area g) (length lent)) _ _ _ a.is e)

    table_length : length table ≡ length t
    table_length = (steps_good f done_good).size ∙ sym done_good.size

    done_cells : lent' ≡ table ++ drop (length table) lent
    unfolding result
    done_cells = left e

    pub done_room : length t ≤ length lent'
    done_room = omega (arith, ap length done_cells, length-append table (drop (length table) lent), table_length)

    pub divided : {s : List ℕ} → f ≡ length t → s ≡ units g.unit (take (length t) lent') →
        AnswersShow g t lent (s ++ drop (length t) lent') (Ok m)
    unfolding result
    divided z p =
        let u = take_at table (drop (length table) lent) (length t) table_length in
        let d = drop_at table (drop (length table) lent) (length t) table_length in
        let k = length_units g.unit table in
        let whole : shown_table g t ≡ units g.unit table = rw z (shown_steps done_good) in
        record { is = rw (← z) (sym e ∙ a.is); cells = rw (whole, p, done_cells, u, d, k) refl }

-- what a caller has of `show`
pub showing : {g : Grid} {t lent lent' : List ℕ} {r : Result ℕ Unsettled} → Good g t → area g ≤ length lent → AnswersShow g t lent lent' r →
    Showing g t lent lent' r
unfolding answer result
showing {g} {t} {lent} h l a =
    let done : answer g (length t) t (length lent) ≡ Ok (changes (step g) g.unit (length t) t) =
    rw (good_is h, le-leb (area g) (length lent) l) refl in
    let e = a.is ∙ done in
    let s = shown_table g t in
    let k = shown_length h in
    let c : _ ≡ s ++ drop (area g) lent = a.cells ∙ ap (λ (v : Result ℕ Unsettled). result v s lent) e ∙ ap (λ (i : ℕ). s ++ drop i lent) k in
    record { is = e; cells = c; shown = rw c (shown_more h s (drop (area g) lent) k (shown_law h)) }
