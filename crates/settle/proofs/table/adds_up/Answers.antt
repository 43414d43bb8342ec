use native.Mathlib.Omega.{arith}
use Rattle.settle.specs.Shown.{sum}
use Rattle.settle.proofs.LawTable.{adds_more, adds_over}
use Rattle.settle.proofs.table.adds_up.Goals as goal

pub loop-j-init : goal.loop-j-init
unfolding sum
loop-j-init c = omega arith

pub returns-then-left-cell : goal.returns-then-left-cell
returns-then-left-cell c =
    adds_over _ _ _ _ _ c.loop-j.invariant c.loop-j-test.true c.if-left-cell.true

pub loop-j-preserved : goal.loop-j-preserved
loop-j-preserved c = adds_more _ _ _ _ _ c.loop-j.invariant c.if-left-cell.false
