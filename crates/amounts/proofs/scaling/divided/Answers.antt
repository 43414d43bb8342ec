-- By a short divisor the wholes of x and what is left of x give the two parts; by a longer one the digits of x do. Assumes nothing.
use Rattle.std.proofs.Common.{arith}
use Rattle.amounts.proofs.LawScaling.{quotient_most, short_parts, short_wholes, short_left}
use Rattle.amounts.proofs.scaling.divided.Goals as goal

pub overflow_mul-t : goal.overflow_mul-t
overflow_mul-t c = record { fits = short_left c.args.x _ _ c.requires.1 c.requires.0 c.if-d-lt4294967296.true }

pub overflow_mul-result : goal.overflow_mul-result
overflow_mul-result c = omega (arith, short_wholes c.args.x _ _ c.requires.0)

pub overflow_add-result : goal.overflow_add-result
overflow_add-result c =
    let w = (short_parts c.args.x c.args.n _ c.requires.1).whole in
    omega (arith, quotient_most c.args.x _ _ _ _ w c.requires.0 c.requires.1)

pub returns-then-d-lt4294967296 : goal.returns-then-d-lt4294967296
returns-then-d-lt4294967296 c = short_parts _ _ _ c.requires.1
