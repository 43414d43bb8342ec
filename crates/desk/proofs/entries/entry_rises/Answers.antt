-- The entry before stands one entry's size before this one.
use mathlib.Core.Path.{sym, ◌∙◌}
use borrow.Author.Tests.{eq-eqb}
use Rattle.desk.specs.Entries.{entry_rises}
use Rattle.desk.proofs.LawOrder.{entry_rises_by}
use Rattle.desk.proofs.entries.entry_rises.Goals as goal

pub returns-then-i-eq0 : goal.returns-then-i-eq0
unfolding entry_rises
returns-then-i-eq0 c = rw (eq-eqb _ _ c.if-i-eq0.true)

pub returns : goal.returns
returns c = c.is_lt.ensures ∙ entry_rises_by _ _ _ _ c.if-i-eq0.false c.requires.1 c.key_from-key.ensures (sym c.codes_order.ensures)
