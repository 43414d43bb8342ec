-- The row that answers for a key, as the inspector's screen has it: its own bytes.
use Rattle.std.specs.Prelude.{Result, ℕ, List}
use Rattle.desk.specs.Books.{row_bytes}
use Rattle.desk.specs.declared.key.Key.{Key}
use Rattle.report.specs.Report.{Wrote}
use Rattle.report.specs.declared.NoRoom.{NoRoom}

-- bytes of a row of either book, at most
abbrev pub most_row_bytes : ℕ
most_row_bytes = 24

-- the whole promise for the two books, a key and lent bytes
abbrev pub ReportedRow : (own book : List ℕ) (k : Key) (row : List ℕ) (r : Result ℕ NoRoom) (row' : List ℕ) → Type 0
ReportedRow own book k row r row' = Wrote (row_bytes own book k) most_row_bytes row r row'
