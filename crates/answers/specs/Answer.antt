-- "Refusal numbers": the desk's answer by the paper's number and line.
use Rattle.std.specs.Prelude.{ℕ, ◌+◌, ◌*◌, ⊤, Result, Ok, Err}
use Rattle.answers.specs.declared.answer.FileFault.{FileFault}
use Rattle.answers.specs.declared.answer.FileFault.TheVariants.{OwnBookMalformed, BookMalformed, FugitiveMalformed, SheetMalformed}
use Rattle.answers.specs.declared.answer.FileFault.TheVariants.{TextMalformed, ResultTooShort}
use Rattle.answers.specs.declared.answer.LineFault.{LineFault}
use Rattle.answers.specs.declared.answer.LineFault.TheVariants as line
use Rattle.answers.specs.declared.answer.Refusal.{Refusal}
use Rattle.answers.specs.declared.answer.Refusal.TheVariants.{File, Line}

abbrev pub file_rule : FileFault → ℕ
file_rule OwnBookMalformed = 1
file_rule BookMalformed = 1
file_rule FugitiveMalformed = 13
file_rule SheetMalformed = 2
file_rule TextMalformed = 12
file_rule ResultTooShort = 3

abbrev pub line_rule : LineFault → ℕ
line_rule line.ActivityTooLarge = 4
line_rule line.ReuseTooLarge = 5
line_rule line.BadGrade = 15
line_rule line.NoRow = 6
line_rule line.NoFugitiveEntry = 14
line_rule line.NoTechnique = 7
line_rule line.WrongKind = 8
line_rule line.BadReading = 9
line_rule line.ZeroDivisor = 10
line_rule line.KAboveOne = 11

-- where nothing is refused both are 0; a refusal that concerns no single line carries line 0
abbrev pub answer_number : Result ⊤ Refusal → ℕ
answer_number (Ok _) = 0
answer_number (Err (File fault)) = file_rule fault
answer_number (Err (Line fault line)) = line_rule fault

abbrev pub answer_line : Result ⊤ Refusal → ℕ
answer_line (Ok _) = 0
answer_line (Err (File fault)) = 0
answer_line (Err (Line fault line)) = line

-- a refusal's number is counted in these, and its line stands below them
abbrev pub number_unit : ℕ
number_unit = 65536

-- the answer as one number; both parts are 0 for accepted
abbrev pub code_of : Result ⊤ Refusal → ℕ
code_of r = answer_number r * number_unit + answer_line r
