-- One law of LawReading for each range of the pattern, in the order of the tests. Assumes nothing.
use Rattle.std.proofs.Common.{◌+◌, ◌-◌, ◌*◌, ◌/◌, ◌%◌, sym, ◌∙◌, mul-le-mul_right, arith}
use lib.Pow.{shr_le}
use Rattle.amounts.proofs.LawPattern.{first_digit, ones_field}
use Rattle.amounts.proofs.LawReading.{negative, minus_zero, not_finite, little, large, middle, limit_low, within_limit, over_limit}
use Rattle.amounts.proofs.reading.by_bits.Goals as goal

pub returns-then-bits-gt-SIGN : goal.returns-then-bits-gt-SIGN
returns-then-bits-gt-SIGN c = sym (negative _ _ c.args.bits (omega arith) c.ranges.bits.fits)

pub returns-then-bits-eq-SIGN : goal.returns-then-bits-eq-SIGN
returns-then-bits-eq-SIGN c = rw c.if-bits-eq-SIGN.true (sym (minus_zero _ _))

pub returns-then-e-eq-FULL_FIELD : goal.returns-then-e-eq-FULL_FIELD
returns-then-e-eq-FULL_FIELD c = sym (not_finite _ _ c.args.bits (omega arith) (omega arith))

pub returns-then-e-shift : goal.returns-then-e-shift
returns-then-e-shift c =
    sym (little _ _ _ _ c.requires c.args.bits (omega arith) c.if-e-shift.true)

pub returns-then-e-shift-ge-ONES_FIELD : goal.returns-then-e-shift-ge-ONES_FIELD
returns-then-e-shift-ge-ONES_FIELD c =
    sym (large _ _ _ _ c.requires c.args.bits (omega arith) c.if-e-eq-FULL_FIELD.false c.if-e-shift-ge-ONES_FIELD.true c.ranges.most.fits)

pub overflow_mul-t : goal.overflow_mul-t
overflow_mul-t c =
    omega (arith, mul-le-mul_right (first_digit + c.args.bits % first_digit) c.requires.short)

pub overflow_add-t-2 : goal.overflow_add-t-2
overflow_add-t-2 c =
    let q = first_digit + c.args.bits % first_digit in
    omega (arith, mul-le-mul_right q c.requires.short, shr_le (c.args.odd * q) (ones_field - (c.args.bits / first_digit + c.args.shift)))

pub overflow_mul-whole : goal.overflow_mul-whole
overflow_mul-whole c =
    omega (arith, c.requires.short, limit_low _ _ _ _ c.requires c.ranges.most.fits)

pub returns-then-whole-most : goal.returns-then-whole-most
returns-then-whole-most c =
    let near = middle _ _ _ _ c.requires c.args.bits (omega arith) c.if-e-eq-FULL_FIELD.false (omega arith) (omega arith) in
    sym (near ∙ over_limit _ _ c.if-whole-most.true)

pub returns : goal.returns
returns c =
    let near = middle _ _ _ _ c.requires c.args.bits (omega arith) c.if-e-eq-FULL_FIELD.false (omega arith) (omega arith) in
    sym (near ∙ within_limit _ _ c.if-whole-most.false)
