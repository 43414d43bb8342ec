-- What the private function answers: nothing that a caller of the library has to read.
use Rattle.std.specs.Prelude.{ℕ, ◌≡◌, cond, List, length, Result, Err}
use Rattle.headers.specs.Unit.{is_unit}
use Rattle.settle.specs.Step.{step, after}
use Rattle.settle.specs.Answer.{answer, result}
use Rattle.settle.specs.declared.Unsettled.{Unsettled}
use Rattle.settle.specs.declared.Unsettled.TheVariants.{Off}
use Rattle.steps.specs.Table.{lent_grid}

-- so many steps: the answer r of `settle`, which is off also for a number that is no unit's code, and the lent cells
pub record Tried (unit times : ℕ) (t lent : List ℕ) (r : Result ℕ Unsettled) (lent' : List ℕ) : Type 0 where
  pub is : r ≡ cond (is_unit unit) (answer (lent_grid unit t) times t (length lent)) (Err Off)
  pub cells : lent' ≡ result r (after (step (lent_grid unit t)) times t) lent
