-- "a lent table not of 1 to 129 rows of five, with a cell above 16 × 10^18, a sum that is off, or a shown unit not 1 to 3": which tables
-- can be settled, as a test and as a statement.
use Rattle.std.specs.Prelude.{ℕ, ◌*◌, ◌/◌, ◌≤◌, ◌<◌, ◌≡◌, Bool, ◌&&◌, List, length}
use Rattle.headers.specs.Unit.{is_unit, unit_of}
use Rattle.settle.specs.Grid.{grid}
use Rattle.settle.specs.declared.Grid.{Grid}
use Rattle.settle.specs.Shown.{at, Sums}
use Rattle.settle.specs.Table.{is_good}
use Rattle.desk.specs.Cells.{width, discharged}
use Rattle.desk.specs.Demands.{Between}

-- the lent cells as a table of rows of five, in the unit's W; D is the column whose total never goes down
abbrev pub lent_grid : (unit : ℕ) (t : List ℕ) → Grid
lent_grid unit t = grid (unit_of unit) width (length t / width) discharged

-- the test; 22 where it fails
unfoldable pub can_settle : (unit : ℕ) (t : List ℕ) → Bool
can_settle unit t = is_unit unit && is_good (lent_grid unit t) t

-- the statement. The sums are those of numbers: no sum has a largest value
pub record CanSettle (unit : ℕ) (t : List ℕ) : Type 0 where
  pub rows : ℕ
  pub unit_code : Between 1 3 unit
  pub row_count : Between 1 129 rows
  pub cells : length t ≡ rows * 5
  pub most : (i : ℕ) → i < length t → at t i ≤ 16_000_000_000_000_000_000
  pub sums : Sums (grid (unit_of unit) 5 rows discharged) t
