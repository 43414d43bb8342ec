-- Each product is at most the number that it is a share of, so nothing wraps; the sum is the share of x by `wholes`. Assumes nothing.
use Rattle.std.proofs.Common.{arith}
use Rattle.amounts.specs.Line.{whole_share}
use Rattle.amounts.proofs.LawLine.{part_most, wholes, wholes_most}
use Rattle.amounts.proofs.line.of_whole.Goals as goal

pub overflow_mul-result : goal.overflow_mul-result
overflow_mul-result c = omega (arith, (wholes_most c.args.x _ c.requires).0)

pub overflow_mul-result-2 : goal.overflow_mul-result-2
overflow_mul-result-2 c = omega (arith, (wholes_most c.args.x _ c.requires).1)

pub overflow_add-result : goal.overflow_add-result
overflow_add-result c = omega (arith, wholes c.args.x c.args.u, part_most c.args.x _ whole_share c.requires)

pub returns : goal.returns
returns c = wholes _ _
