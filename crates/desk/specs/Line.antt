-- A line of a sheet as a value. `at` is where its 64 bytes start.
use Rattle.std.specs.Prelude.{ℕ, ◌+◌, cond, List, eqb, Float}
use Rattle.std.specs.Float.{binary64}
use Rattle.std.specs.Float.Ieee.{of_bits}
use Rattle.little.specs.Read.{byte_at, u16_at, u64_at}
use Rattle.desk.specs.Key.{key_from}
use Rattle.headers.specs.Sheet.{sheet_header}
use Rattle.desk.specs.Sheet.{line_start, kind_at}
use Rattle.fugitive.specs.declared.grades.Grades.{Grades}
use Rattle.desk.specs.declared.line.Line.{Line}
use Rattle.shares.specs.declared.share.Reading.{Reading}
use Rattle.shares.specs.declared.share.Reading.TheVariants.{None, Hours, Energy, Throughout}

-- product and material, at most
abbrev pub most_kilograms : ℕ
most_kilograms = 1_000_000_000

abbrev pub float_at : List ℕ → ℕ → Float
float_at s at = of_bits binary64 (u64_at s at)

-- 1 hours (a run, b production), 2 energy (a kWh, b rated kW, c run hours), 3 ran throughout, else none
unfoldable pub reading_at : List ℕ → ℕ → Reading
reading_at s at =
    cond (eqb (kind_at s at) 1) (Hours (float_at s (at + 32)) (float_at s (at + 40)))
    (cond (eqb (kind_at s at) 2)
    (Energy (record { kwh = float_at s (at + 32); kw = float_at s (at + 40); hours = float_at s (at + 48) }))
    (cond (eqb (kind_at s at) 3) Throughout None))

-- of the three places where dust escapes: crushing and feeding, tapping, furnace spill
unfoldable pub grades_at : List ℕ → ℕ → Grades
grades_at s at = record { crushing = byte_at s (at + 56); tapping = byte_at s (at + 57); spill = byte_at s (at + 58) }

-- its key has the sheet's medium and pollutant
abbrev pub line_at : List ℕ → ℕ → Line
line_at s at =
    record {
      key = key_from s at (sheet_header s).medium (sheet_header s).pollutant;
      technique = u16_at s (at + 10);
      reuse = u16_at s (at + 12);
      product = u64_at s (at + 16);
      material = u64_at s (at + 24);
      reading = reading_at s at;
      grades = grades_at s at;
    }

-- line i of the sheet
unfoldable pub line_of : List ℕ → ℕ → Line
line_of s i = line_at s (line_start s i)
