-- The numbers by which a table is read. A table is a list of cells, row after row: column 0 has the rows' sums, the last row the columns'
-- sums. A cell is whole where it is a multiple of the unit; `marked` is the column whose total never goes down, and a number that is no
-- column marks none.
use Rattle.std.specs.Prelude.{ℕ, ◌*◌}
pub use Rattle.settle.specs.declared.Grid.{Grid}

abbrev pub grid : (unit columns rows marked : ℕ) → Grid
grid unit columns rows marked = record { unit = unit; columns = columns; rows = rows; marked = marked }

-- how many cells there are
abbrev pub area : (g : Grid) → ℕ
area g = g.rows * g.columns
