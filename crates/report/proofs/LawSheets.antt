-- What is told of the sheets of a bundle is each sheet's line and its own report.
use Prim.Native.Nat.{ℕ, zero, suc, ◌+◌, ◌*◌, ◌≤◌, ◌<◌, min}
use mathlib.Core.Path.{◌≡◌, refl, sym, ◌∙◌}
use mathlib.Core.Bool.{true}
use mathlib.Core.List.{List}
use native.Mathlib.Nat.{mul-suc, mul-le-mul_left}
use native.Mathlib.Numerals.{add-one}
use native.Mathlib.Omega.{arith}
use lib.ListN.{length}
use borrow.Author.Tests.{le-leb}
use Rattle.search.proofs.LawTest.{either_way}
use Rattle.little.specs.Read.{AreBytes}
use Rattle.settle.specs.Shown.{at as cell}
use Rattle.headers.specs.Sheet.{line_count}
use Rattle.answers.specs.Bundle.{bundle_number}
use Rattle.std.specs.Prelude.{Ok, Err}
use Rattle.answers.specs.declared.bundle.BundleFault.{BundleFault}
use Rattle.answers.specs.declared.bundle.BundleFault.TheVariants.{BundleMalformed, ResultTooShort}
use Rattle.bundle.specs.Bundle.{most_sheets, sheet_count, cells_per_sheet, sheet_of}
use Rattle.bundle.specs.Whole.{roomy, bundle_outcome}
use Rattle.bundle.proofs.LawBundle.{exact_room_lem, shown_room_lem, run_inside}
use Rattle.desk.specs.Lent.{Sources, Lent, lent}
use Rattle.desk.specs.Cells.{table_size}
use Rattle.desk.specs.Sheet.{sheet_ok}
use Rattle.desk.specs.Table.{by_sheet, by_files, answer_of}
use Rattle.desk.specs.Works.{Results, run_of, AsAlone, SheetBySheet}
use Rattle.desk.proofs.LawTable.{lines_few}
use Rattle.desk.proofs.LawWorks.{run_size, outcome_cell}
use Rattle.report.specs.Report.{refusal_text, most_cells, report_of}
use Rattle.report.specs.Bundle.{sheet_report, sheets_text, room_lent, bundle_report_for, bundle_report_of, most_sheet_text, most_bundle_text}
use Rattle.report.specs.Inner.{most_refusal, answer_text, sheet_text, sheet_texts, SheetsTellable, Adds}
use Rattle.report.specs.declared.writer.Writer.{Writer}
use Rattle.report.proofs.LawAdds.{nothing, then, more}
use Rattle.report.proofs.LawTold.{told_few, told_is}

-- ---- one sheet after another

module _ (bundle : List ℕ) (after : Results) (w : Writer) where
  pub sheets_start : Adds (sheet_texts bundle after 0) (most_sheet_text * 0) w w
  unfolding sheet_texts
  sheets_start = nothing w

  pub sheets_step : (i : ℕ) {v u : Writer} → Adds (sheet_texts bundle after i) (most_sheet_text * i) w v
      → Adds (sheet_text bundle after i) most_sheet_text v u → Adds (sheet_texts bundle after (i + 1)) (most_sheet_text * (i + 1)) w u
  unfolding sheet_texts
  sheets_step i p q = rw (add-one i, mul-suc) (then p q)

  pub sheets_done : (i n : ℕ) {v : Writer} → i ≡ n → n ≤ most_sheets → Adds (sheet_texts bundle after i) (most_sheet_text * i) w v
      → Adds (sheet_texts bundle after n) most_bundle_text w v
  sheets_done i n e few p = more (rw e at p) (omega (arith, mul-le-mul_left most_sheet_text few))

-- ---- what the desk left

module _ (from : Sources) (bundle : List ℕ) (before after : Results)
    (room : roomy bundle (length before.exact) (length before.shown) (length before.outcomes) ≡ true) where
  module _ (i : ℕ) (h : i < sheet_count bundle) (alone : AsAlone from bundle before after i) where
    runs_room : min (length (run_of bundle i before.exact)) (length (run_of bundle i before.shown)) ≡ cells_per_sheet bundle
    runs_room =
        let c = cells_per_sheet bundle in
        let inside = run_inside bundle i h in
        let e = run_size (i * c) c before.exact (omega (arith, inside, exact_room_lem bundle _ _ _ room)) in
        let s = run_size (i * c) c before.shown (omega (arith, inside, shown_room_lem bundle _ _ _ room)) in
        omega (arith, e, s)

    sheet_told : AreBytes from.fugitive
        → answer_text (cell after.outcomes i) (sheet_of bundle i) (run_of bundle i after.exact) (run_of bundle i after.shown)
        ≡ sheet_report from bundle i
    sheet_told bytes =
        let answer : alone.answer ≡ answer_of (lent from (sheet_of bundle i)) (cells_per_sheet bundle) = rw runs_room at alone.declared.demand1.answer in
        rw (outcome_cell from bundle before after i alone, ← answer) (told_is _ _ _ _ _ _ alone.declared bytes)

  sheets_told : AreBytes from.fugitive → (n : ℕ) → n ≤ sheet_count bundle → ((i : ℕ) → i < n → AsAlone from bundle before after i)
      → sheet_texts bundle after n ≡ sheets_text from bundle n
  unfolding sheet_texts sheets_text
  sheets_told bytes zero h alone = refl
  sheets_told bytes (suc n) h alone =
      rw (sheets_told bytes n (omega arith) (λ i l. alone i (omega arith)), sheet_told n h (alone n (omega arith)) bytes) refl

  -- what telling them asks
  pub tellable : SheetBySheet from bundle before after → sheet_count bundle ≤ most_sheets → length after.exact ≡ length before.exact
      → length after.shown ≡ length before.shown → length after.outcomes ≡ length before.outcomes → SheetsTellable bundle after
  tellable done few exact-size shown-size outcomes-size =
      record {
        few = few;
        room = rw (exact-size, shown-size, outcomes-size) room;
        lines = λ i h z.
            let alone = done.sheets i h in
            told_few _ _ _ _ _ _ alone.declared (sym (outcome_cell from bundle before after i alone) ∙ z);
      }

  pub taken_told : AreBytes from.fugitive → SheetBySheet from bundle before after
      → sheet_texts bundle after (sheet_count bundle) ≡ sheets_text from bundle (sheet_count bundle)
  taken_told bytes done = sheets_told bytes (sheet_count bundle) (omega arith) done.sheets

-- ---- a run with room for the sheet's tables, or a sheet that is malformed

-- then its report is what is printed for the sheet alone
module _ (f : Lent) (room : ℕ) (fits : sheet_ok f.sheet ≡ true → table_size (line_count f.sheet) ≤ room) where
  sheet_same : by_sheet f.sheet room ≡ by_sheet f.sheet most_cells
  sheet_same =
      either_way (sheet_ok f.sheet)
      (λ p. let most : table_size (line_count f.sheet) ≤ most_cells = omega (arith, lines_few f.sheet p) in
      rw (p, le-leb (table_size (line_count f.sheet)) room (fits p), le-leb (table_size (line_count f.sheet)) most_cells most) refl)
      (λ p. rw p refl)

  same_answer : answer_of f room ≡ answer_of f most_cells
  unfolding answer_of by_files
  same_answer = rw sheet_same refl

pub as_printed_alone : (from : Sources) (bundle : List ℕ) (i : ℕ)
    → (sheet_ok (sheet_of bundle i) ≡ true → table_size (line_count (sheet_of bundle i)) ≤ cells_per_sheet bundle)
    → sheet_report from bundle i ≡ report_of (lent from (sheet_of bundle i))
unfolding report_of
as_printed_alone from bundle i fits = rw (same_answer (lent from (sheet_of bundle i)) (cells_per_sheet bundle) fits) refl

-- ---- the whole

pub whole_taken : (from : Sources) (bundle : List ℕ) {w v : Writer} → bundle_outcome bundle room_lent room_lent most_sheets ≡ Ok tt
    → Adds (sheets_text from bundle (sheet_count bundle)) most_bundle_text w v → Adds (bundle_report_of from bundle) most_bundle_text w v
unfolding bundle_report_of bundle_report_for
whole_taken from bundle e p = rw e p

pub whole_refused : (from : Sources) (bundle : List ℕ) (fault : BundleFault) {w v : Writer} → Err fault ≡ bundle_outcome bundle room_lent room_lent most_sheets
    → Adds (refusal_text (bundle_number (Err fault)) 0) most_refusal w v → Adds (bundle_report_of from bundle) most_bundle_text w v
unfolding bundle_report_of bundle_report_for
whole_refused from bundle BundleMalformed e p = rw (← e) (more p (omega arith))
whole_refused from bundle ResultTooShort e p = rw (← e) (more p (omega arith))
