-- The row by itself, and that it stands after the one before it.
use mathlib.Core.Path.{sym, ◌∙◌}
use Rattle.desk.proofs.LawOrder.{row_by_parts}
use Rattle.desk.proofs.book.row_ok.Goals as goal

pub returns-then-row_fits : goal.returns-then-row_fits
returns-then-row_fits c =
    let fits = rw c.requires.0 at (sym c.row_fits.ensures ∙ c.if-row_fits.true) in
    c.row_rises.ensures ∙ rw fits at (row_by_parts c.args.row.book.now c.args.techniques.block.now c.args.i)

pub returns-else-row_fits : goal.returns-else-row_fits
returns-else-row_fits c =
    let fits = rw c.requires.0 at (sym c.row_fits.ensures ∙ c.if-row_fits.false) in
    c.if-row_fits.false ∙ rw fits at (row_by_parts c.args.row.book.now c.args.techniques.block.now c.args.i)
