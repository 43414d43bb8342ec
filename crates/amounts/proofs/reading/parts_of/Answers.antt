-- A NaN, which alone differs from itself, is bad; any other x is the number of its own bits, and those were read. Assumes nothing.
use Rattle.std.proofs.Common.{sym, refl, ap, ◌∙◌, lit<, lit≤}
use denote.Floats.{passes}
use lib.Ieee.{binary64}
use lib.Ieee.Bits.{of_bits-to_bits}
use Rattle.amounts.specs.Reading.{parts_per_unit, taken_of}
use Rattle.amounts.proofs.LawReading.{nan_bad, a_number}
use Rattle.amounts.proofs.reading.parts_of.Goals as goal

pub returns-then-x : goal.returns-then-x
returns-then-x c = sym (nan_bad _ _ _ c.if-x.true)

pub float_to_bits-x : goal.float_to_bits-x
float_to_bits-x c = a_number _ c.if-x.false

pub by_bits-requires : goal.by_bits-requires
by_bits-requires c = record { twice = refl; some = lit< tt; short = lit≤ tt; few = lit≤ tt }

pub returns : goal.returns
returns c =
    c.by_bits.ensures ∙ ap (taken_of parts_per_unit c.args.most) (of_bits-to_bits binary64 _ (passes _ c.well_formed.0.1))
