-- "How many shifts does a shown table take?": the answers to a step and to the count, by the request's numbers.
use Rattle.std.specs.Prelude.{ℕ, ◌*◌, Result, Ok, Err}
use Rattle.answers.specs.Answer.{file_rule, number_unit}
use Rattle.answers.specs.declared.answer.FileFault.TheVariants as file
use Rattle.answers.specs.declared.step.Stepped.{Stepped}
use Rattle.answers.specs.declared.step.Stepped.TheVariants.{Changed, Whole}
use Rattle.answers.specs.declared.step.StepFault.{StepFault}
use Rattle.answers.specs.declared.step.StepFault.TheVariants as fault
use Rattle.answers.specs.declared.step.TableOff.{TableOff}

-- a table that cannot be settled
abbrev pub table_rule : ℕ
table_rule = 22

-- 0 where the step is taken
abbrev pub step_number : Result Stepped StepFault → ℕ
step_number (Ok _) = 0
step_number (Err fault.TableOff) = table_rule
step_number (Err fault.ResultTooShort) = file_rule file.ResultTooShort

-- the answers as one number: 1 where something changed, 0 where the table is whole; the count; a refusal carries line 0
abbrev pub step_code : Result Stepped StepFault → ℕ
step_code (Ok Changed) = 1
step_code (Ok Whole) = 0
step_code (Err fault.TableOff) = table_rule * number_unit
step_code (Err fault.ResultTooShort) = file_rule file.ResultTooShort * number_unit

abbrev pub count_code : Result ℕ TableOff → ℕ
count_code (Ok steps) = steps
count_code (Err _) = table_rule * number_unit
