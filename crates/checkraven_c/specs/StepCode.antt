-- What the C functions for the table being settled promise: the answers as one number.
use Rattle.std.specs.Prelude.{ℕ, ◌≡◌, List, length}
use Rattle.answers.specs.Step.{step_code, count_code}
use Rattle.steps.specs.Step.{step_answer, TakesStep}
use Rattle.steps.specs.Count.{count_answer, CountsSteps}

-- the answer r is the code of the step's, and the lent result holds what the step leaves in it
pub record StepsCode (unit : ℕ) (table next : List ℕ) (r : ℕ) (next' : List ℕ) : Type 0 where
  pub answer : r ≡ step_code (step_answer unit table (length next))
  pub taken : TakesStep unit table next (step_answer unit table (length next)) next'

-- the answer r is the code of the count's
pub record CountsCode (unit : ℕ) (table : List ℕ) (r : ℕ) : Type 0 where
  pub answer : r ≡ count_code (count_answer unit table)
  pub counted : CountsSteps unit table (count_answer unit table)
