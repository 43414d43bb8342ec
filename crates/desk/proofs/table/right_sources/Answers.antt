-- The first that is not right is the one that is refused.
use mathlib.Core.Path.{◌≡◌}
use borrow.Author.Rules.{rules}
use Rattle.std.specs.Prelude.{Err}
use Rattle.desk.specs.Table.{by_sources, by_published}
use Rattle.desk.proofs.LawTable.{refused_alike}
use Rattle.desk.proofs.table.right_sources.Goals as goal

pub returns-in_err-own : goal.returns-in_err-own
unfolding by_sources
returns-in_err-own c =
    let is : c.from_residual.result ≡ Err c.in_err-own.field-0.0 = search rules in
    let none = c.in_err-own.ensures.ok_part in
    rw (is, rw none at c.of.ensures) (refused_alike (rw none at c.in_err-own.ensures.value))

pub returns-in_err-book : goal.returns-in_err-book
unfolding by_sources by_published
returns-in_err-book c =
    let is : c.from_residual-in_err-book.result ≡ Err c.in_err-book.field-0.0 = search rules in
    let own = rw c.in_ok-own.ensures.ok_part at c.of.ensures in
    let none = c.in_err-book.ensures.ok_part in
    rw (is, rw own at c.in_ok-own.own.right, rw none at c.of-2.ensures) (refused_alike (rw none at c.in_err-book.ensures.value))

pub returns-in_err-fugitive : goal.returns-in_err-fugitive
unfolding by_sources by_published
returns-in_err-fugitive c =
    let is : c.from_residual-in_err-fugitive.result ≡ Err c.in_err-fugitive.field-0.0 = search rules in
    let own = rw c.in_ok-own.ensures.ok_part at c.of.ensures in
    let book = rw c.in_ok-book.ensures.ok_part at c.of-2.ensures in
    let none = c.in_err-fugitive.ensures.ok_part in
    rw (is, rw own at c.in_ok-own.own.right, rw book at c.in_ok-book.book.right, rw none at c.of-3.ensures)
    (refused_alike (rw none at c.in_err-fugitive.ensures.value))
