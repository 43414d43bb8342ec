-- What the share n of the quotient leaves by d, and the share n of what efficiency left over, are below d each; their sum's quotient is R.
-- Assumes nothing.
use Rattle.std.proofs.Common.{ℕ, ◌*◌, ◌^◌, ◌<◌, ◌≤◌, lt_of_le_of_lt, mul-le-mul, arith, lit<}
use Rattle.amounts.specs.Line.{whole_share, most_divisor}
use Rattle.amounts.proofs.LawLine.{wholes_most, remnant, remnant_share, removed_room, removed_by}
use Rattle.amounts.proofs.line.removed.Goals as goal

share-fits : {e n : ℕ} → e ≤ whole_share → n ≤ most_divisor → e * n < 2 ^ 64
share-fits h k = lt_of_le_of_lt (mul-le-mul h k) (lit< tt)

pub overflow_mul-rest : goal.overflow_mul-rest
overflow_mul-rest c = omega (arith, (wholes_most c.args.generated _ c.requires.0).1)

pub overflow_mul-carried : goal.overflow_mul-carried
overflow_mul-carried c =
    let less : remnant c.args.generated c.args.efficiency ≤ whole_share = omega arith in
    record { fits = share-fits less (omega (arith, c.requires)) }

pub plus-all-requires : goal.plus-all-requires
plus-all-requires c =
    let ran = c.divided-ran.ensures in (
      ran.rest,
      remnant_share c.args.generated c.args.efficiency _ _ c.requires.1 c.requires.2,
      removed_room _ _ _ _ _ _ _ c.of_whole-treated.ensures ran c.requires.0 c.requires.1 c.requires.2 c.ranges.generated.fits,
    )

pub returns : goal.returns
returns c = removed_by _ _ _ _ _ _ _ c.of_whole-treated.ensures c.divided-ran.ensures _ _ c.plus-all.ensures
