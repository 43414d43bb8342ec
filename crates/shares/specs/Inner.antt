-- For private functions and proofs alone: what public functions promise is said without this file.
use Rattle.std.specs.Prelude.{ℕ, Float, Result, Ok, Err}
use Rattle.amounts.specs.Reading.{parts_per_unit, taken_of}
use Rattle.amounts.specs.declared.reading.ReadingFault.{ReadingFault}
use Rattle.answers.specs.declared.answer.LineFault.{LineFault}
use Rattle.answers.specs.declared.answer.LineFault.TheVariants.{BadReading}

-- whatever is wrong with a reading, the line is refused with the same fault
unfoldable pub as_read : Result ℕ ReadingFault → Result ℕ LineFault
as_read (Ok t) = Ok t
as_read (Err e) = Err BadReading

-- a reading in parts of its unit, within its limit
abbrev pub read_of : (most : ℕ) (x : Float) → Result ℕ LineFault
read_of most x = as_read (taken_of parts_per_unit most x)
