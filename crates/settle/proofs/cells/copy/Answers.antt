use mathlib.Core.Path.{refl}
use native.Mathlib.Omega.{arith}
use Rattle.settle.proofs.LawCells.{written_none, written_more, written_all}
use Rattle.settle.proofs.cells.copy.Goals as goal

pub loop-i-init : goal.loop-i-init
loop-i-init c = written_none

pub bounds-from-i : goal.bounds-from-i
bounds-from-i c = omega (arith, c.requires, c.loop-i.invariant.size)

pub loop-i-preserved : goal.loop-i-preserved
loop-i-preserved c = written_more c.loop-i.invariant (omega arith) refl

pub returns : goal.returns
returns c = written_all c.loop-i.invariant (omega arith) (omega arith) (λ j l. refl)
