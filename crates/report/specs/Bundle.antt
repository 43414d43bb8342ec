-- "The program": a bundle's report. For each sheet a line `sheet I`, and then what is printed for that sheet alone with its run; a refused
-- bundle is only `refused N line 0`.
use Rattle.std.specs.Prelude.{⊤, Result, Ok, Err, ℕ, zero, suc, ◌+◌, ◌*◌, List, [], ◌∷◌, ◌++◌, length}
use Rattle.answers.specs.Bundle.{bundle_number}
use Rattle.answers.specs.declared.bundle.BundleFault.{BundleFault}
use Rattle.answers.specs.declared.bundle.BundleFault.TheVariants.{BundleMalformed, ResultTooShort}
use Rattle.bundle.specs.Bundle.{most_sheets, sheet_count, cells_per_sheet, sheet_of}
use Rattle.bundle.specs.Whole.{bundle_outcome}
use Rattle.desk.specs.Lent.{Sources, lent}
use Rattle.desk.specs.Table.{answer_of}
use Rattle.report.specs.declared.NoRoom.{NoRoom}
use Rattle.report.specs.Report.{line_end, number_text, refusal_text, most_cells, report_for, most_number, most_text, Wrote}

-- `sheet`
abbrev pub sheet_word : List ℕ
sheet_word = 115 ∷ 104 ∷ 101 ∷ 101 ∷ 116 ∷ []

-- sheets count from 1
unfoldable pub sheet_line : (i : ℕ) → List ℕ
sheet_line i = sheet_word ++ number_text (i + 1) ++ line_end

-- what is printed for sheet i alone, with room in both results for the cells of its run
abbrev pub sheet_report : (from : Sources) (bundle : List ℕ) (i : ℕ) → List ℕ
sheet_report from bundle i =
    report_for (answer_of (lent from (sheet_of bundle i)) (cells_per_sheet bundle)) (lent from (sheet_of bundle i))

-- the first n sheets
unfoldable pub sheets_text : (from : Sources) (bundle : List ℕ) (n : ℕ) → List ℕ
sheets_text from bundle zero = []
sheets_text from bundle (suc i) = sheets_text from bundle i ++ (sheet_line i ++ sheet_report from bundle i)

-- room for so many sheets of all lines
abbrev pub room_lent : ℕ
room_lent = most_sheets * most_cells

-- the report where the whole is answered so
unfoldable pub bundle_report_for : (answer : Result ⊤ BundleFault) (from : Sources) (bundle : List ℕ) → List ℕ
bundle_report_for (Ok _) from bundle = sheets_text from bundle (sheet_count bundle)
bundle_report_for (Err BundleMalformed) from bundle = refusal_text (bundle_number (Err BundleMalformed)) 0
bundle_report_for (Err ResultTooShort) from bundle = refusal_text (bundle_number (Err ResultTooShort)) 0

unfoldable pub bundle_report_of : (from : Sources) (bundle : List ℕ) → List ℕ
bundle_report_of from bundle = bundle_report_for (bundle_outcome bundle room_lent room_lent most_sheets) from bundle

-- bytes of a sheet's line, and of that and its report, at most
abbrev pub most_sheet_line : ℕ
most_sheet_line = length sheet_word + most_number + length line_end

abbrev pub most_sheet_text : ℕ
most_sheet_text = most_sheet_line + most_text

abbrev pub most_bundle_text : ℕ
most_bundle_text = most_sheets * most_sheet_text

-- the whole promise for the sources, a bundle and a lent text
abbrev pub ReportedBundle : (from : Sources) (bundle text : List ℕ) (r : Result ℕ NoRoom) (text' : List ℕ) → Type 0
ReportedBundle from bundle text r text' = Wrote (bundle_report_of from bundle) most_bundle_text text r text'
