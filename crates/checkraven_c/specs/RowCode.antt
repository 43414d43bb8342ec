-- What the C functions for the inspector's screen promise: the row's bytes, and which row it is.
use Rattle.std.specs.Prelude.{Result, ℕ, ◌≡◌, List, length}
use Rattle.desk.specs.Books.{row_bytes}
use Rattle.desk.specs.declared.key.Key.{Key}
use Rattle.report.specs.Report.{written_of}
use Rattle.report.specs.Row.{ReportedRow}
use Rattle.report.specs.declared.NoRoom.{NoRoom}
use Rattle.checkraven_c.specs.TextCode.{written_code}

-- the seven numbers as a key; one that no field can hold is in no row
abbrev pub key_of : (industry product material process scale medium pollutant : ℕ) → Key
key_of industry product material process scale medium pollutant =
    record {
      industry = industry;
      product = product;
      material = material;
      process = process;
      scale = scale;
      medium = medium;
      pollutant = pollutant;
    }

-- what is written of the row, for lent bytes
abbrev pub row_written : (own book : List ℕ) (k : Key) (row : List ℕ) → Result ℕ NoRoom
row_written own book k row = written_of (length (row_bytes own book k)) (length row)

-- the answer r is the code of what is written, and the lent bytes hold the row's, as far as there is one
pub record ShowsRow (own book : List ℕ) (k : Key) (row : List ℕ) (r : ℕ) (row' : List ℕ) : Type 0 where
  pub answer : r ≡ written_code (row_written own book k row)
  pub shown : ReportedRow own book k row (row_written own book k row) row'
