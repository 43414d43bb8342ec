-- A row of the tables: its cells G, R, U, D, F.
use Rattle.std.specs.Prelude.{ℕ, ◌+◌, ◌*◌, List, [], ◌∷◌}
use Rattle.amounts.specs.declared.line.Amounts.{Amounts}
use Rattle.desk.specs.declared.cells.TableRow.{TableRow}

-- a row has these cells
abbrev pub width : ℕ
width = 5

-- the column of D, counted from 0
abbrev pub discharged : ℕ
discharged = 3

-- a table of n lines has a row for each, and the row of sums
abbrev pub table_size : (n : ℕ) → ℕ
table_size n = width * (n + 1)

abbrev pub cells_of : TableRow → List ℕ
cells_of row = row.generated ∷ row.removed ∷ row.reused ∷ row.discharged ∷ row.fugitive ∷ []

-- the row of a line's amounts, with G raised by F
abbrev pub row_from : (a : Amounts) (F : ℕ) → TableRow
row_from a F =
    record {
      generated = a.generated + F;
      removed = a.removed;
      reused = a.reused;
      discharged = a.discharged;
      fugitive = F;
    }

abbrev pub zeros : TableRow
zeros = record { generated = 0; removed = 0; reused = 0; discharged = 0; fugitive = 0 }

-- cell by cell
abbrev pub plus : (a b : TableRow) → TableRow
plus a b =
    record {
      generated = a.generated + b.generated;
      removed = a.removed + b.removed;
      reused = a.reused + b.reused;
      discharged = a.discharged + b.discharged;
      fugitive = a.fugitive + b.fugitive;
    }
