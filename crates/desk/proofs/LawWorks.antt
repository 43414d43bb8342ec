-- One sheet of a bundle after another, each in its own runs; and what a whole works' promise says.
use Prim.Native.Nat.{ℕ, suc, ◌+◌, ◌*◌, ◌-◌, ◌≤◌, ◌<◌}
use mathlib.Core.Path.{◌≡◌, refl, sym, ap, ◌∙◌}
use mathlib.Core.List.{List, [], ◌∷◌}
use mathlib.Core.Logic.{⊎_elim, ◌≢◌}
use native.Mathlib.Omega.{arith}
use native.Mathlib.Nat.{suc-mul, mul-le-mul_right, eq-or-lt_of_le}
use native.Mathlib.Numerals.{add-one}
use lib.ListN.{length, take, drop, set, length-drop, length-set}
use lib.Seq.{drop_at, drop-drop, set_split, length-take-le, take-set-le, drop-set-lt, get_or-take, get_or-drop}
use borrow.Rule.Slice.PartMut.{put_mid, take_put, drop_put}
use Rattle.std.specs.Prelude.{⊤, Result, Ok, Err, is_err, true}
use Rattle.search.proofs.LawTest.{clash}
use Rattle.little.specs.Part.{part_of}
use Rattle.settle.specs.Shown.{at}
use Rattle.little.proofs.LawPart.{put_read, part_kept}
use Rattle.answers.specs.Answer.{code_of}
use Rattle.answers.specs.declared.answer.Refusal.{Refusal}
use Rattle.answers.specs.declared.bundle.BundleFault.{BundleFault}
use Rattle.bundle.specs.Bundle.{sheet_count, cells_per_sheet, sheet_of}
use Rattle.desk.specs.Lent.{Sources, lent}
use Rattle.desk.specs.Demands.{Demand1, Demand2, Demand3}
use Rattle.desk.specs.Declare.{Declared}
use Rattle.desk.proofs.LawOnce.{declared_once}
use Rattle.desk.specs.Works.{Results, results, run_of, AsAlone, FirstSheets, BundleDeclared}
use Rattle.desk.specs.InnerWorks.{Around, SheetDone}

-- a whole outcome whose case is not the first is a refusal
pub not_taken : (r : Result ⊤ BundleFault) → is_err r ≡ true → r ≢ Ok tt
not_taken (Ok _) h e = clash (cc)
not_taken (Err fault) h e = clash (cc)

-- ---- one part is written

around_put : (from count : ℕ) (cells part : List ℕ) → from + count ≤ length cells → length part ≡ count
    → Around from count cells (put_mid from count cells part)
around_put from count cells part h e =
    let size : from + count - from ≡ count = omega arith in
    let past = drop_put from (from + count) cells part (omega arith) h (e ∙ sym size) in
    record { before = take_put from count cells part (omega arith); past = rw size at past }

-- a run inside a result has its cells
pub run_size : (from count : ℕ) (cells : List ℕ) → from + count ≤ length cells → length (part_of cells from count) ≡ count
run_size from count cells h = length-take-le count (drop from cells) (omega (arith, length-drop from cells))

-- what a sheet makes of its runs, once these are back in the results
pub sheet_done : (from : Sources) (bundle : List ℕ) (i : ℕ) (exact shown : List ℕ) {s : List ℕ} {r : Result ⊤ Refusal} {start size : ℕ} {x y : List ℕ}
    → s ≡ sheet_of bundle i → start ≡ i * cells_per_sheet bundle → size ≡ cells_per_sheet bundle
    → i * cells_per_sheet bundle + cells_per_sheet bundle ≤ length exact → i * cells_per_sheet bundle + cells_per_sheet bundle ≤ length shown
    → Declared (lent from s) (part_of exact start size) (part_of shown start size) r x y
    → length x ≡ length (part_of exact start size) → length y ≡ length (part_of shown start size)
    → SheetDone from bundle i exact shown r (put_mid start size exact x) (put_mid start size shown y)
sheet_done from bundle i exact shown {s} {r} {start} {size} {x} {y} s-is start_is size_is exact-run shown-run declared x-size y-size =
    let c = cells_per_sheet bundle in
    let x-cells : length x ≡ c = rw (start_is, size_is) at x-size ∙ run_size (i * c) c exact exact-run in
    let y-cells : length y ≡ c = rw (start_is, size_is) at y-size ∙ run_size (i * c) c shown shown-run in
    let in-exact = put_read (i * c) c exact x (omega arith) x-cells in
    let in-shown = put_read (i * c) c shown y (omega arith) y-cells in
    let alone = rw (s-is, start_is, size_is) at declared in
    rw (start_is, size_is)
    (record {
      declared = rw (in-exact, in-shown) alone;
      exact_kept = around_put (i * c) c exact x exact-run x-cells;
      shown_kept = around_put (i * c) c shown y shown-run y-cells;
    })

-- ---- one more sheet

around_set : (i : ℕ) (cells : List ℕ) (v : ℕ) → Around i 1 cells (set cells i v)
around_set i cells v = record { before = take-set-le i cells i v (omega arith); past = drop-set-lt (i + 1) cells i v (omega arith) }

set_read : (i : ℕ) (cells : List ℕ) (v : ℕ) → i < length cells → part_of (set cells i v) i 1 ≡ v ∷ []
set_read i cells v h =
    rw (set_split cells i v h, drop_at (take i cells) (v ∷ drop (suc i) cells) i (length-take-le i cells (omega arith))) refl

-- a part before the one that is written stays
part_before : {from count : ℕ} {cells cells' : List ℕ} (i size : ℕ) → Around from count cells cells' → from ≤ length cells → length cells' ≡ length cells
    → i + size ≤ from → part_of cells' i size ≡ part_of cells i size
part_before {from} {count} {cells} {cells'} i size kept inside same h =
    part_kept cells' cells i size from h (omega arith) inside kept.before

-- and what was as before past a place is so past every later one
past_more : (from count : ℕ) {cells cells' : List ℕ} (first : List ℕ) → Around from count cells cells' → drop from cells ≡ drop from first
    → drop (from + count) cells' ≡ drop (from + count) first
past_more from count {cells} {cells'} first kept same =
    kept.past ∙ sym (drop-drop count from cells) ∙ ap (drop count) same ∙ drop-drop count from first

module _ (from : Sources) (bundle : List ℕ) (before : Results) where
  pub first_none : FirstSheets 0 from bundle before before
  first_none = record { sheets = λ i h. absurd (omega arith); exact_past = refl; shown_past = refl; outcomes_past = refl }

  module _ (n : ℕ) {exact shown outcomes exact' shown' : List ℕ} {r : Result ⊤ Refusal} {code : ℕ}
      (so_far : FirstSheets n from bundle before (results exact shown outcomes)) (done : SheetDone from bundle n exact shown r exact' shown')
      (told : code ≡ code_of r) (room : n < length outcomes)
      (exact-run : n * cells_per_sheet bundle + cells_per_sheet bundle ≤ length exact)
      (shown-run : n * cells_per_sheet bundle + cells_per_sheet bundle ≤ length shown)
      (exact-size : length exact' ≡ length exact) (shown-size : length shown' ≡ length shown) where
    after : Results
    after = results exact' shown' (set outcomes n code)

    this_sheet : AsAlone from bundle before after n
    unfolding after
    this_sheet =
        let c = cells_per_sheet bundle in
        record {
          answer = r;
          declared = rw (ap (take c) (sym so_far.exact_past), ap (take c) (sym so_far.shown_past)) done.declared;
          outcome = set_read n outcomes code room ∙ ap (λ (v : ℕ). v ∷ []) told;
        }

    sheet_before : (i : ℕ) → i < n → AsAlone from bundle before after i
    unfolding after
    sheet_before i h =
        let c = cells_per_sheet bundle in
        let alone = so_far.sheets i h in
        let below : i * c + c ≤ n * c = omega (arith, suc-mul i c, mul-le-mul_right c h) in
        let exact-stays = part_before (i * c) c done.exact_kept (omega arith) exact-size below in
        let shown-stays = part_before (i * c) c done.shown_kept (omega arith) shown-size below in
        record {
          answer = alone.answer;
          declared = rw (exact-stays, shown-stays) alone.declared;
          outcome = part_before i 1 (around_set n outcomes code) (omega arith) (length-set outcomes n code) (omega arith) ∙ alone.outcome;
        }

    pub first_more : FirstSheets (n + 1) from bundle before (results exact' shown' (set outcomes n code))
    unfolding after
    first_more =
        let c = cells_per_sheet bundle in
        let next : (n + 1) * c ≡ n * c + c = rw (add-one n) (suc-mul n c) in
        record {
          sheets = λ i h. ⊎_elim (λ (q : i ≡ n). rw q this_sheet) (λ (l : i < n). sheet_before i l) (eq-or-lt_of_le (omega arith));
          exact_past = rw next (past_more (n * c) c before.exact done.exact_kept so_far.exact_past);
          shown_past = rw next (past_more (n * c) c before.shown done.shown_kept so_far.shown_past);
          outcomes_past = past_more n 1 before.outcomes (around_set n outcomes code) so_far.outcomes_past;
        }

-- ---- demands 1 to 3 read per sheet

module _ (from : Sources) (bundle : List ℕ) (before : Results) (r : Result ⊤ BundleFault) (after : Results) (p : BundleDeclared from bundle before r after)
    (taken : r ≡ Ok tt) (i : ℕ) (h : i < sheet_count bundle) where
  pub alone : AsAlone from bundle before after i
  alone = (p.taken taken).sheets i h

  pub sheet_demand_1 : Demand1 (lent from (sheet_of bundle i)) (run_of bundle i before.exact) (run_of bundle i before.shown)
      alone.answer (run_of bundle i after.exact) (run_of bundle i after.shown)
  sheet_demand_1 = alone.declared.demand1

  pub sheet_demand_2 : alone.answer ≡ Ok tt → Demand2 (lent from (sheet_of bundle i)) (run_of bundle i after.exact)
  sheet_demand_2 = alone.declared.demand2

  pub sheet_demand_3 : alone.answer ≡ Ok tt
      → Demand3 (lent from (sheet_of bundle i)) (run_of bundle i after.exact) (run_of bundle i after.shown)
  sheet_demand_3 = alone.declared.demand3

  -- what the desk answers and leaves for the sheet alone, with its runs lent, is what the bundle has for it
  pub sheet_as_alone : (q : Result ⊤ Refusal) (x y : List ℕ)
      → Declared (lent from (sheet_of bundle i)) (run_of bundle i before.exact) (run_of bundle i before.shown) q x y
      → (part_of after.outcomes i 1 ≡ code_of q ∷ []) × (run_of bundle i after.exact ≡ x) × (run_of bundle i after.shown ≡ y)
  sheet_as_alone q x y d =
      let same = declared_once _ _ _ _ _ _ _ _ _ alone.declared d in
      (alone.outcome ∙ ap (λ (o : Result ⊤ Refusal). code_of o ∷ []) same.0, same.1, same.2)

-- the outcome of a sheet as a cell
pub outcome_cell : (from : Sources) (bundle : List ℕ) (before after : Results) (i : ℕ) (alone : AsAlone from bundle before after i)
    → at after.outcomes i ≡ code_of alone.answer
outcome_cell from bundle before after i alone =
    let cells = after.outcomes in
    let place : i + 0 ≡ i = omega arith in
    let there = get_or-take 1 (drop i cells) 0 0 (omega arith) ∙ get_or-drop i cells 0 0 in
    rw place at (sym there ∙ ap (λ (l : List ℕ). at l 0) alone.outcome)
