-- In a book without rows none has the key.
use mathlib.Core.Path.{sym, ◌∙◌}
use Rattle.desk.proofs.LawRow.{no_rows_lem}
use Rattle.desk.proofs.books.own_index.Goals as goal

pub returns-then-row_count-eq0 : goal.returns-then-row_count-eq0
returns-then-row_count-eq0 c = record { eq = sym (no_rows_lem _ _ (sym c.row_count.ensures.eq ∙ c.if-row_count-eq0.true)); below = tt }
