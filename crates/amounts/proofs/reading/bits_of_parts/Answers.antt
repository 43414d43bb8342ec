-- The one division, of what the conversion answers, is the definition's, and it is never a NaN. Assumes nothing.
use Rattle.std.proofs.Common.{refl}
use Rattle.amounts.specs.Reading.{parts_bits}
use Rattle.amounts.proofs.LawParts.{by_unit, parts_number}
use Rattle.amounts.proofs.reading.bits_of_parts.Goals as goal

pub float_to_bits-result : goal.float_to_bits-result
float_to_bits-result c = rw (c.nearest_u64_to_f64.ensures, ← by_unit c.args.t) (parts_number c.args.t)

pub returns : goal.returns
unfolding parts_bits
returns c = rw (c.nearest_u64_to_f64.ensures, ← by_unit c.args.t) refl
