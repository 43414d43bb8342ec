-- The comparison holds exactly for a NaN's patterns; zero over zero computes to the one NaN. Assumes nothing.
use Rattle.std.proofs.Common.{◌≡◌, sym, refl, ◌∙◌}
use lib.Ieee.{div, nan, binary64, of_bits}
use Rattle.amounts.proofs.LawPattern.{pattern_nan, pattern_number}
use Rattle.amounts.proofs.reading.from_bits.Goals as goal

zero-over-zero : div binary64 (of_bits binary64 0) (of_bits binary64 0) ≡ nan
unfolding div of_bits
zero-over-zero = refl

pub float_from_bits-result : goal.float_from_bits-result
float_from_bits-result c = rw (pattern_number _ c.if-n-gt-INFINITY.false) tt

pub returns-then-n-gt-INFINITY : goal.returns-then-n-gt-INFINITY
returns-then-n-gt-INFINITY c = zero-over-zero ∙ sym (pattern_nan _ c.if-n-gt-INFINITY.true)
