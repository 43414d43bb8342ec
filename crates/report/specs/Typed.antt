-- "The program": the report of a sheet that was typed, as that of the binary sheet that is read from it; or only the refusal.
use Rattle.std.specs.Prelude.{⊤, Result, Err, ℕ, List}
use Rattle.answers.specs.Answer.{answer_number, answer_line}
use Rattle.answers.specs.declared.answer.Refusal.{Refusal}
use Rattle.desk.specs.Lent.{Sources, lent}
use Rattle.text.specs.Convert.{Made, Gives, Refuses}
use Rattle.text.specs.Read.{sheet_of_text}
use Rattle.text.specs.Declare.{sources_first}
use Rattle.report.specs.declared.NoRoom.{NoRoom}
use Rattle.report.specs.Report.{refusal_text, report_of, most_text, Wrote}

unfoldable pub refused_text : (refusal : Result ⊤ Refusal) → List ℕ
refused_text refusal = refusal_text (answer_number refusal) (answer_line refusal)

-- the sources are looked at before the text
abbrev pub report_by : (from : Sources) (sheet : Made) → List ℕ
report_by from (Gives sheet) = report_of (lent from sheet)
report_by from (Refuses refusal) = refused_text (sources_first from (Err refusal))

unfoldable pub text_report_of : (from : Sources) (typed : List ℕ) → List ℕ
text_report_of from typed = report_by from (sheet_of_text typed)

-- the whole promise for the sources, a text that was typed and a lent text
abbrev pub ReportedText : (from : Sources) (typed text : List ℕ) (r : Result ℕ NoRoom) (text' : List ℕ) → Type 0
ReportedText from typed text r text' = Wrote (text_report_of from typed) most_text text r text'

-- and for a refusal alone
abbrev pub ReportedRefusal : (refusal : Result ⊤ Refusal) (text : List ℕ) (r : Result ℕ NoRoom) (text' : List ℕ) → Type 0
ReportedRefusal refusal text r text' = Wrote (refused_text refusal) most_text text r text'
