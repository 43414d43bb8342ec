-- The number and the line of the answer.
use native.Mathlib.Omega.{arith}
use Rattle.report.specs.Typed.{refused_text}
use Rattle.report.proofs.LawAdds.{more}
use Rattle.report.proofs.writer.Writer.outcome.Goals as goal

pub returns : goal.returns
unfolding refused_text
returns c = more (rw (c.outcome_number.ensures, c.outcome_line.ensures) at c.refusal.ensures) (omega arith)
