-- A used reading by its parts.
use native.Mathlib.Omega.{arith}
use borrow.Author.Tests.{lt-ltb, le-ltb}
use Rattle.text.specs.Binary.{number_at, used_readings, reading_bits}
use Rattle.text.proofs.words.reading_bits.Goals as goal

pub returns-then-r-used_readings : goal.returns-then-r-used_readings
unfolding reading_bits
returns-then-r-used_readings c =
    let line = c.args.numbers.now in
    let used = used_readings (number_at line 5) (number_at line 7) in
    rw (lt-ltb c.args.r used (omega (arith, c.if-r-used_readings.true, c.used_readings.ensures))) c.bits_of_parts.ensures

pub returns-else-r-used_readings : goal.returns-else-r-used_readings
unfolding reading_bits
returns-else-r-used_readings c =
    let line = c.args.numbers.now in
    let used = used_readings (number_at line 5) (number_at line 7) in
    rw (le-ltb c.args.r used (omega (arith, c.if-r-used_readings.false, c.used_readings.ensures)))
