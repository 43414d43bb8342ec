-- "Report how often that step changes something".
use Rattle.std.specs.Prelude.{ℕ, suc, ◌≤◌, ◌<◌, ◌≡◌, ◌≢◌, cond, List, length, Result, Ok, Err}
use Rattle.settle.specs.Grid.{area}
use Rattle.settle.specs.declared.Grid.{Grid}
use Rattle.settle.specs.Step.{step, after, changes}
use Rattle.answers.specs.declared.step.TableOff.{TableOff}
use Rattle.steps.specs.Table.{lent_grid, can_settle}
use Rattle.steps.specs.Step.{WholeTable}

-- from the table t on, n steps change something: each of the first n, and none behind them
pub record StepCount (g : Grid) (t : List ℕ) (n : ℕ) : Type 0 where
  pub changing : (i : ℕ) → i < n → after (step g) (suc i) t ≢ after (step g) i t
  pub ended : (i : ℕ) → n ≤ i → after (step g) (suc i) t ≡ after (step g) i t
  -- they end in a whole table, and are no more than there are cells: 5 × (lines + 1)
  pub whole : WholeTable g (after (step g) n t)
  pub most : n ≤ area g

unfoldable pub count_answer : (unit : ℕ) (t : List ℕ) → Result ℕ TableOff
count_answer unit t = cond (can_settle unit t) (Ok (changes (step (lent_grid unit t)) (lent_grid unit t).unit (length t) t)) (Err record {})

-- the whole promise for a table t of any content and size
pub record CountsSteps (unit : ℕ) (t : List ℕ) (r : Result ℕ TableOff) : Type 0 where
  pub answer : r ≡ count_answer unit t
  pub counts : (n : ℕ) → r ≡ Ok n → StepCount (lent_grid unit t) t n
