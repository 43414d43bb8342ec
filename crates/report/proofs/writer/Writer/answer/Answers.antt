-- Told apart by the code: figures by the first cells, a refusal by its number and line.
use native.Mathlib.Omega.{arith}
use borrow.Author.Tests.{eq-eqb, ne_eqb}
use Rattle.report.specs.Inner.{answer_text}
use Rattle.report.proofs.LawAdds.{more}
use Rattle.report.proofs.writer.Writer.answer.Goals as goal

pub returns-then-code-eq0 : goal.returns-then-code-eq0
unfolding answer_text
returns-then-code-eq0 c =
    let lines = c.line_count-lines.ensures.eq in
    let exact = c.first_cells-exact_table.ensures in
    rw (eq-eqb _ _ c.if-code-eq0.true) (rw (c.unit_of.ensures, exact, c.first_cells.ensures, lines) at c.figures.ensures)

pub returns-else-code-eq0 : goal.returns-else-code-eq0
unfolding answer_text
returns-else-code-eq0 c = rw (ne_eqb _ _ c.if-code-eq0.false) (more c.refusal.ensures (omega arith))
