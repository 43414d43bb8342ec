-- The report of what the desk is given beside the sources. Assumes nothing.
use Rattle.std.specs.Prelude.{ℕ, List, [], cond, leb, length}
use Rattle.desk.specs.Lent.{Sources, lent}
use Rattle.report.specs.Report.{most_text, report_of}
use Rattle.report.specs.Bundle.{most_bundle_text, bundle_report_of}
use Rattle.report.specs.Typed.{text_report_of}
use Rattle.folder.specs.declared.given.Given.{Given}
use Rattle.folder.specs.declared.given.Given.TheVariants.{Sheet, Typed, Bundle}

abbrev pub given_report : (given : Given) (from : Sources) (file : List ℕ) → List ℕ
given_report Sheet from file = report_of (lent from file)
given_report Typed from file = text_report_of from file
given_report Bundle from file = bundle_report_of from file

-- its bytes, at most
abbrev pub most_given : (given : Given) → ℕ
most_given Sheet = most_text
most_given Typed = most_text
most_given Bundle = most_bundle_text

-- all of a report, where so many bytes are room for it; else nothing
abbrev pub whole_in : (report : List ℕ) (room : ℕ) → List ℕ
whole_in report room = cond (leb (length report) room) report []
