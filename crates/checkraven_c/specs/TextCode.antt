-- What is written as one number, and what the C function for the text promises.
use Rattle.std.specs.Prelude.{Result, Ok, Err, ℕ, ◌*◌, ◌≡◌, List, length}
use Rattle.desk.specs.Lent.{Lent}
use Rattle.answers.specs.Answer.{file_rule, number_unit}
use Rattle.answers.specs.declared.answer.FileFault.TheVariants.{ResultTooShort}
use Rattle.report.specs.Report.{report_of, written_of, Reported}
use Rattle.report.specs.declared.NoRoom.{NoRoom}

-- the bytes; or the number of the rule for a result that is too short
unfoldable pub written_code : Result ℕ NoRoom → ℕ
written_code (Ok n) = n
written_code (Err none) = file_rule ResultTooShort * number_unit

-- what is written of the report, for a lent text
abbrev pub written : (f : Lent) (text : List ℕ) → Result ℕ NoRoom
written f text = written_of (length (report_of f)) (length text)

-- the answer r is the code of what is written, and the text holds what the report leaves in it
pub record Reports (f : Lent) (text : List ℕ) (r : ℕ) (text' : List ℕ) : Type 0 where
  pub answer : r ≡ written_code (written f text)
  pub reported : Reported f text (written f text) text'
