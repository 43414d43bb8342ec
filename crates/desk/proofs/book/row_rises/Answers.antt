-- The row before stands one row's size before this one.
use mathlib.Core.Path.{◌≡◌, sym}
use borrow.Author.Rules.{rules}
use borrow.Author.Tests.{eq-eqb}
use Rattle.std.specs.Ordering.{is_lt}
use Rattle.desk.specs.Book.{rises}
use Rattle.desk.proofs.LawOrder.{rises_by}
use Rattle.desk.proofs.book.row_rises.Goals as goal

pub returns-then-i-eq0 : goal.returns-then-i-eq0
unfolding rises
returns-then-i-eq0 c = rw (eq-eqb _ _ c.if-i-eq0.true)

-- What the test of the order answers is left to the search: any test that says whether the row before is below fits, and no other.
pub returns : goal.returns
returns c =
    let stands = rw (c.of-before.ensures.0, c.of-before.ensures.1) at (sym c.order.ensures) in
    let below : is_lt c.order.result ≡ rises c.args.row.book.now c.args.i =
    rises_by _ _ _ _ c.if-i-eq0.false c.requires c.key-key.ensures stands
    in
    search rules
