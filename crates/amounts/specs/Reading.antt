-- "Reading a binary64 x": as a whole number of parts of its unit, under a limit. Assumes nothing.
use Rattle.std.specs.Prelude.{ℕ, ◌+◌, ◌*◌, ◌/◌, ◌<◌, ◌≤◌, cond, ◌&&◌, ℤ, pos, nat_le, nat_lt, to_bits, Float, Result, Ok, Err}
use Rattle.std.specs.Float.{nan, inf, fin, binary64}
use Rattle.std.specs.Float.Ieee.{up, down, of_int, div}
use Rattle.amounts.specs.declared.reading.ReadingFault.{ReadingFault}
use Rattle.amounts.specs.declared.reading.ReadingFault.TheVariants.{Over, Bad}

-- a reading is taken in thousandths of its unit
abbrev pub parts_per_unit : ℕ
parts_per_unit = 1000

-- the largest whole number not above F x + 1/2, for F parts to a unit and x = m · 2^e at its exact value;
-- 2^e is the fraction up e / down e
abbrev pub nearest_parts : (F m : ℕ) (e : ℤ) → ℕ
nearest_parts F m e = (2 * F * m * up e + down e) / (2 * down e)

-- the same, cross-multiplied: t is not above F x + 1/2, and t + 1 is
pub record Nearest (F m : ℕ) (e : ℤ) (t : ℕ) : Type 0 where
  pub low : 2 * t * down e ≤ 2 * F * m * up e + down e
  pub high : 2 * F * m * up e + down e < 2 * (t + 1) * down e

-- t where it is within the limit
abbrev pub limited : (limit t : ℕ) → Result ℕ ReadingFault
limited limit t = cond (nat_le t limit) (Ok t) (Err Over)

-- Bad where x is not finite or below zero; negative zero is zero; Over above the limit of `most` whole units
unfoldable pub taken_of : (F most : ℕ) (x : Float) → Result ℕ ReadingFault
taken_of F most nan = Err Bad
taken_of F most (inf s) = Err Bad
taken_of F most (fin s m e) = cond (s && nat_lt 0 m) (Err Bad) (limited (F * most) (nearest_parts F m e))

-- t parts as a reading: the binary64 of t, divided once by the parts of a unit
unfoldable pub of_parts : (t : ℕ) → Float
of_parts t = div binary64 (of_int binary64 (pos t)) (of_int binary64 (pos parts_per_unit))

-- its pattern
unfoldable pub parts_bits : (t : ℕ) → ℕ
parts_bits t = to_bits binary64 (of_parts t)
