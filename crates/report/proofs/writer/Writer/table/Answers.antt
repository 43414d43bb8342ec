-- The rows of the lines, and the row of sums where they end.
use native.Mathlib.Omega.{arith}
use Rattle.report.specs.Report.{row_text, table_text}
use Rattle.report.proofs.LawAdds.{then, more}
use Rattle.report.proofs.LawPut.{lines_start, lines_step, lines_done}
use Rattle.report.proofs.writer.Writer.table.Goals as goal

pub loop-i-init : goal.loop-i-init
loop-i-init c = lines_start _ _ _

pub loop-i-preserved : goal.loop-i-preserved
loop-i-preserved c = lines_step _ _ _ _ c.loop-i.invariant c.line_row.ensures

pub returns : goal.returns
unfolding table_text row_text
returns c =
    let rows = lines_done _ _ _ _ _ (omega (arith, c.loop-i-test.false, c.loop-i.auto.i-end)) c.loop-i.invariant in
    more (then rows (then (then c.put.ensures c.put-2.ensures) c.amounts.ensures)) (omega (arith, c.requires.named))
