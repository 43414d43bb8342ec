use native.Mathlib.Omega.{arith}
use Rattle.settle.proofs.LawCells.{written_all, length_units, at_units}
use Rattle.settle.proofs.cells.divide_by.Goals as goal

pub returns : goal.returns
returns c = written_all c.loop-x.invariant (omega arith) (length_units _ _) (at_units _ _)
