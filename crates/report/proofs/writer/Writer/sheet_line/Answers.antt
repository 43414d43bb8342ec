-- The word, the number and the line end, each where the one before it ends.
use Rattle.report.specs.Bundle.{sheet_line}
use Rattle.report.proofs.LawAdds.{then}
use Rattle.report.proofs.writer.Writer.sheet_line.Goals as goal

pub returns : goal.returns
unfolding sheet_line
returns c = then (then c.put.ensures c.number.ensures) c.put-2.ensures
