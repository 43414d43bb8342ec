-- "Where the steps from the exact table end is, divided by W, the desk's shown table."
use Rattle.std.specs.Prelude.{ℕ, ◌≤◌, ◌≡◌, true, List, take, Ok}
use Rattle.headers.specs.Sheet.{sheet_header, line_count}
use Rattle.settle.specs.Step.{step, after, units}
use Rattle.desk.specs.Cells.{table_size}
use Rattle.desk.specs.Lent.{Lent}
use Rattle.steps.specs.Table.{lent_grid, can_settle}
use Rattle.steps.specs.Count.{StepCount, count_answer}

-- the table that stands at the front of a result that the desk left for a sheet
abbrev pub table_in : (f : Lent) (cells : List ℕ) → List ℕ
table_in f cells = take (table_size (line_count f.sheet)) cells

-- the shown unit of the sheet, by its code
abbrev pub unit_code : (f : Lent) → ℕ
unit_code f = (sheet_header f.sheet).shown_unit

-- of what the desk leaves for an accepted sheet
pub record EndsShown (f : Lent) (exact' shown' : List ℕ) : Type 0 where
  -- the step never refuses the exact table
  pub taken : can_settle (unit_code f) (table_in f exact') ≡ true
  -- so many steps from it on change something
  pub count : ℕ
  pub counted : count_answer (unit_code f) (table_in f exact') ≡ Ok count
  pub counts : StepCount (lent_grid (unit_code f) (table_in f exact')) (table_in f exact') count
  -- at most 5 × (lines + 1)
  pub most : count ≤ table_size (line_count f.sheet)
  -- where they end, divided by W
  pub shown : table_in f shown'
      ≡ units (lent_grid (unit_code f) (table_in f exact')).unit
      (after (step (lent_grid (unit_code f) (table_in f exact'))) count (table_in f exact'))
