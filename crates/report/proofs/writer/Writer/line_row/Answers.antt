-- The name, the number and the amounts, each where the one before it ends.
use native.Mathlib.Omega.{arith}
use Rattle.report.specs.Report.{row_text}
use Rattle.report.proofs.LawAdds.{then, more}
use Rattle.report.proofs.writer.Writer.line_row.Goals as goal

pub returns : goal.returns
unfolding row_text
returns c = more (then (then c.put.ensures c.number.ensures) c.amounts.ensures) (omega arith)
