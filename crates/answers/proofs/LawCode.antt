-- What the answer's one number tells: it is 0 for accepted alone, and its two parts are the number and the line; of a step it tells the
-- case.
use Prim.Native.Nat.{ℕ, ◌*◌, ◌/◌, ◌%◌, ◌≤◌, ◌<◌}
use mathlib.Core.Path.{◌≡◌, refl, sym, ap, ◌∙◌}
use mathlib.Core.Bool.{cond}
use native.Mathlib.Omega.{arith}
use lib.Dec.{eqb}
use Rattle.std.specs.Prelude.{⊤, Result, Ok, Err}
use Rattle.answers.specs.Answer.{file_rule, line_rule, answer_number, answer_line, number_unit, code_of}
use Rattle.answers.specs.declared.answer.FileFault.{FileFault}
use Rattle.answers.specs.declared.answer.FileFault.TheVariants.{OwnBookMalformed, BookMalformed, FugitiveMalformed, SheetMalformed, TextMalformed, ResultTooShort}
use Rattle.answers.specs.declared.answer.LineFault.{LineFault}
use Rattle.answers.specs.declared.answer.LineFault.TheVariants as line
use Rattle.answers.specs.declared.answer.Refusal.{Refusal}
use Rattle.answers.specs.declared.answer.Refusal.TheVariants.{File, Line}
use Rattle.answers.specs.Step.{table_rule, step_code}
use Rattle.answers.specs.declared.step.Stepped.{Stepped}
use Rattle.answers.specs.declared.step.Stepped.TheVariants.{Changed, Whole}
use Rattle.answers.specs.declared.step.StepFault.{StepFault}
use Rattle.answers.specs.declared.step.StepFault.TheVariants as step

-- a rule's number is at least 1
pub file_some : (k : FileFault) → 1 ≤ file_rule k
file_some OwnBookMalformed = omega arith
file_some BookMalformed = omega arith
file_some FugitiveMalformed = omega arith
file_some SheetMalformed = omega arith
file_some TextMalformed = omega arith
file_some ResultTooShort = omega arith

pub line_some : (k : LineFault) → 1 ≤ line_rule k
line_some line.ActivityTooLarge = omega arith
line_some line.ReuseTooLarge = omega arith
line_some line.BadGrade = omega arith
line_some line.NoRow = omega arith
line_some line.NoFugitiveEntry = omega arith
line_some line.NoTechnique = omega arith
line_some line.WrongKind = omega arith
line_some line.BadReading = omega arith
line_some line.ZeroDivisor = omega arith
line_some line.KAboveOne = omega arith

pub code_zero : (r : Result ⊤ Refusal) → code_of r ≡ 0 → r ≡ Ok tt
code_zero (Ok _) z = refl
code_zero (Err (File k)) z = absurd (omega (arith, z, file_some k))
code_zero (Err (Line k n)) z = absurd (omega (arith, z, line_some k))

-- a line below 65,536, as a u16 is
module _ (r : Result ⊤ Refusal) (small : answer_line r < number_unit) where
  pub code_number : code_of r / number_unit ≡ answer_number r
  code_number = omega (arith, small)

  pub code_line : code_of r % number_unit ≡ answer_line r
  code_line = omega (arith, small)

-- no two answers to a step have one number: each is read back from it
step_from : ℕ → Result Stepped StepFault
step_from n =
    cond (eqb n 0) (Ok Whole)
    (cond (eqb n 1) (Ok Changed)
    (cond (eqb n (table_rule * number_unit)) (Err step.TableOff) (Err step.ResultTooShort)))

step_back : (r : Result Stepped StepFault) → step_from (step_code r) ≡ r
unfolding step_from
step_back (Ok Changed) = refl
step_back (Ok Whole) = refl
step_back (Err step.TableOff) = refl
step_back (Err step.ResultTooShort) = refl

pub step_code_tells : (r q : Result Stepped StepFault) → step_code r ≡ step_code q → r ≡ q
step_code_tells r q e = sym (step_back r) ∙ ap step_from e ∙ step_back q
