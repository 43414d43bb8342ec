-- Words and numbers, each where the one before it ends.
use Rattle.report.specs.Report.{refusal_text}
use Rattle.report.proofs.LawAdds.{then}
use Rattle.report.proofs.writer.Writer.refusal.Goals as goal

pub returns : goal.returns
unfolding refusal_text
returns c = then (then (then (then c.put.ensures c.number.ensures) c.put-2.ensures) c.number-2.ensures) c.put-3.ensures
