-- What the call gives, times 2^k, and the last digits times n make x · n by `next_parts`. A step's sum is below d · 2^(k + 1), which fits
-- by `Digit`, and no quotient is above x. Assumes nothing.
use Rattle.std.proofs.Common.{ℕ, ◌*◌, ◌%◌, ◌^◌, ◌<◌, lt_of_le_of_lt, mod-lt, arith}
use Rattle.amounts.proofs.LawScaling.{next, next_parts, digit_room, quotient_most, high_most, base_two, shorter}
use Rattle.amounts.proofs.scaling.+by_digits.Goals as goal

-- the two products of a step, and their sum, fit 64 bits
sums : (t : ℕ) (c : goal.After-struct_known-1 t) → let b = c.power-base.result in let r = c.by_digits-high.result.r in
    (r * b < 2 ^ 64) × (c.args.x % b * c.args.n < 2 ^ 64) × (next b c.args.x c.args.n r < 2 ^ 64)
sums t c = digit_room c.power-base.result c.args.x _ _ _ _ c.power-base.ensures c.requires.2 c.by_digits-high.ensures.rest c.requires.0

pub by_digits-high-requires : goal.by_digits-high-requires
by_digits-high-requires t c =
    let P = base_two _ _ _ c.power-base.ensures c.requires.2 in
    (omega (arith, shorter c.args.x c.power-base.result c.if-x-eq0.false P.0), c.requires)

pub overflow_mul-t : goal.overflow_mul-t
overflow_mul-t t c = record { fits = (sums t c).0 }

pub overflow_mul-t-2 : goal.overflow_mul-t-2
overflow_mul-t-2 t c = record { fits = (sums t c).1 }

pub overflow_add-t : goal.overflow_add-t
overflow_add-t t c = record { fits = (sums t c).2 }

pub overflow_mul-result : goal.overflow_mul-result
overflow_mul-result t c = omega (arith, high_most c.power-base.result c.args.x _ _ _ _ c.by_digits-high.ensures.whole c.requires.0 c.requires.1)

pub overflow_add-result : goal.overflow_add-result
overflow_add-result t c =
    let w = next_parts c.power-base.result c.args.x c.args.n c.args.d _ _ c.by_digits-high.ensures.whole in
    record { fits = lt_of_le_of_lt (quotient_most c.args.x _ _ _ _ w c.requires.0 c.requires.1) c.ranges.x.fits }

pub returns : goal.returns
returns t c =
    record {
      whole = next_parts c.power-base.result c.args.x c.args.n c.args.d _ _ c.by_digits-high.ensures.whole;
      rest = mod-lt _ c.requires.1;
    }
