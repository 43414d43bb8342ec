-- The codes decide, or leave it to the medium and the pollutant.
use mathlib.Core.Path.{sym, ap, ◌∙◌}
use borrow.Author.Rules.{rules}
use Rattle.std.specs.declared.cmp.Ordering.{Ordering}
use Rattle.std.specs.Ordering.{ordering_then}
use Rattle.search.specs.InnerOrder.{list_order}
use Rattle.search.proofs.LawOrder.{then_told}
use Rattle.desk.specs.Book.{key_at}
use Rattle.desk.specs.Inner.{rest_fields}
use Rattle.desk.proofs.LawOrder.{row_stands}
use Rattle.desk.proofs.row_bytes.RowBytes.order.Goals as goal

pub returns : goal.returns
returns c =
    let rest = list_order (rest_fields (key_at c.args.self.book.now c.args.self.at)) (rest_fields c.args.k) in
    then_told _ _ rest _ c.then_with.ensures (λ p. search rules)
    ∙ ap (λ (o : Ordering). ordering_then o rest) c.codes_order.ensures
    ∙ sym (row_stands _ _ _ _)
