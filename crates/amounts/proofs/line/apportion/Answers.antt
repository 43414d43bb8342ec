-- R is at most what is generated, and U at most what R leaves: no difference wraps. The record made in each arm is then the paper's, by
-- one law for water and one for elsewhere. Assumes nothing.
use Rattle.std.proofs.Common.{◌-◌, arith}
use Rattle.amounts.proofs.LawLine.{part_most, removed_most, in_water_lem, elsewhere}
use Rattle.amounts.proofs.line.apportion.Goals as goal

pub overflow_sub-left : goal.overflow_sub-left
overflow_sub-left c =
    rw c.removed-removed.ensures (removed_most _ _ _ _ c.requires.efficiency c.requires.fraction)

pub overflow_sub-result : goal.overflow_sub-result
overflow_sub-result c =
    omega (arith, part_most (c.args.generated - c.removed-removed.result) _ _ c.requires.reuse)

pub returns-then-water : goal.returns-then-water
returns-then-water c =
    let r = c.removed-removed.ensures in
    in_water_lem _ c.args.efficiency c.args.n c.args.d _ _ _ r _ c.if-water.true c.requires.reuse c.of_whole-reused.ensures

pub returns-else-water : goal.returns-else-water
returns-else-water c =
    elsewhere _ c.args.efficiency c.args.n c.args.d c.args.reuse _ _ c.removed-removed.ensures c.if-water.false
