-- Two tables with the unit between them, each where the one before it ends; of at most so many lines as a good sheet has.
use native.Mathlib.Omega.{arith}
use Rattle.report.specs.Report.{figures_text}
use Rattle.report.proofs.LawAdds.{then, more}
use Rattle.report.proofs.writer.Writer.figures.Goals as goal

pub returns : goal.returns
unfolding figures_text
returns c = more (then (then c.table.ensures c.unit_line.ensures) c.table-2.ensures) (omega (arith, c.requires.0))
