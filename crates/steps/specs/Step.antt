-- "Offer a single settling step": what it answers, what it leaves, and every sentence about it.
use Rattle.std.specs.Prelude.{ℕ, ◌+◌, ◌*◌, ◌/◌, ◌≤◌, ◌<◌, ◌≡◌, ◌≢◌, cond, List, eqb, leb, length, take, drop, replicate, Result, Ok, Err}
use Rattle.settle.specs.Grid.{area}
use Rattle.settle.specs.declared.Grid.{Grid}
use Rattle.settle.specs.Shown.{at, Whole, Sums}
use Rattle.settle.specs.Step.{loose, step, step_round, step_amount}
use Rattle.settle.specs.Moves.{round_cells, OneRound}
use Rattle.answers.specs.Step.{step_number}
use Rattle.answers.specs.declared.step.Stepped.{Stepped}
use Rattle.answers.specs.declared.step.Stepped.TheVariants as stepped
use Rattle.answers.specs.declared.step.StepFault.{StepFault}
use Rattle.answers.specs.declared.step.StepFault.TheVariants.{TableOff, ResultTooShort}
use Rattle.steps.specs.Table.{lent_grid, can_settle}

-- no cell is loose
abbrev pub WholeTable : (g : Grid) (t : List ℕ) → Type 0
WholeTable g t = loose g.unit t ≡ 0

-- the request's sentences about a step from the table t to s
pub record SettlingStep (g : Grid) (t s : List ℕ) : Type 0 where
  -- at least one more cell whole
  pub more_whole : loose g.unit t ≢ 0 → loose g.unit s < loose g.unit t
  -- no whole cell broken
  pub none_broken : (i : ℕ) → i < area g → Whole g.unit (at t i) → at s i ≡ at t i
  -- no cell carried past a whole unit
  pub none_past_below : (i : ℕ) → i < area g → at t i / g.unit * g.unit ≤ at s i
  pub none_past_above : (i : ℕ) → i < area g → at s i ≤ at t i / g.unit * g.unit + g.unit
  -- sums kept
  pub sums_kept : Sums g s
  -- the cells of one closed round only, none or two in each row and column, each up or down by the same amount
  pub one_round : loose g.unit t ≢ 0 → OneRound g t s (round_cells g.columns (step_round g t)) (step_amount g t)
  -- a whole table stays, and only that
  pub whole_stays : WholeTable g t → s ≡ t
  pub only_whole_stays : s ≡ t → WholeTable g t
  -- docs/ fixes which round
  pub fixed : s ≡ step g t

-- 22, then 3; else whether something changed
unfoldable pub step_answer : (unit : ℕ) (t : List ℕ) (room : ℕ) → Result Stepped StepFault
step_answer unit t room =
    cond (can_settle unit t)
    (cond (leb (length t) room) (cond (eqb (loose (lent_grid unit t).unit t) 0) (Ok stepped.Whole) (Ok stepped.Changed)) (Err ResultTooShort))
    (Err TableOff)

-- the whole promise for a table t and a lent result of any content and size
pub record TakesStep (unit : ℕ) (t lent : List ℕ) (r : Result Stepped StepFault) (lent' : List ℕ) : Type 0 where
  pub answer : r ≡ step_answer unit t (length lent)
  -- both refusals zero the lent result
  pub refused_zero : step_number r ≢ 0 → lent' ≡ replicate (length lent) 0
  -- past the table the lent result keeps its values
  pub past_kept : step_number r ≡ 0 → drop (length t) lent' ≡ drop (length t) lent
  -- the table after the step stands in front
  pub settling : step_number r ≡ 0 → SettlingStep (lent_grid unit t) t (take (length t) lent')
