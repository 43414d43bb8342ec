-- The word, the number and the line end, each where the one before it ends.
use Rattle.report.specs.Report.{unit_text}
use Rattle.report.proofs.LawAdds.{then}
use Rattle.report.proofs.writer.Writer.unit_line.Goals as goal

pub returns : goal.returns
unfolding unit_text
returns c = then (then c.put.ensures c.number.ensures) c.put-2.ensures
