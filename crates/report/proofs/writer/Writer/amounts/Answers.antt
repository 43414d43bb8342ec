-- The cells one after the other, and the line end.
use native.Mathlib.Omega.{arith}
use Rattle.report.proofs.LawPut.{cells_start, cells_step, cells_done}
use Rattle.report.proofs.writer.Writer.amounts.Goals as goal

pub loop-column-init : goal.loop-column-init
loop-column-init c = cells_start _ _ _

pub loop-column-preserved : goal.loop-column-preserved
loop-column-preserved c = cells_step _ _ _ _ c.loop-column.invariant (rw c.cell.ensures at c.number.ensures)

pub returns : goal.returns
returns c =
    cells_done _ _ _ _ (omega (arith, c.loop-column-test.false, c.loop-column.auto.column-end)) c.loop-column.invariant c.put.ensures
