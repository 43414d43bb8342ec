-- Rows that stand before the key come first, and have it not.
use Prim.Native.Nat.{◌+◌, ◌*◌, ◌<◌}
use mathlib.Core.Path.{◌≡◌, ◌∙◌}
use native.Mathlib.Omega.{arith}
use borrow.Author.Rules.{rules}
use Rattle.std.proofs.Common.{Fits, w64}
use Rattle.search.proofs.LawCut.{nothing_below}
use Rattle.std.specs.Ordering.{is_lt}
use Rattle.desk.specs.Row.{row_has}
use Rattle.desk.specs.Book.{row_start, key_at}
use Rattle.desk.specs.Inner.{counted, RowIn, at_scale, key_order, row_less}
use Rattle.desk.proofs.LawBook.{good_row_in}
use Rattle.desk.proofs.LawOrder.{row_less_told, rows_fall, row_less_other}
use Rattle.desk.proofs.row.rows_passed.Goals as goal

pub halved-requires : goal.halved-requires
halved-requires c = λ i l.
    let at = c.args.from + 24 * i in
    let small : i < counted = omega (arith, l, c.requires.1.small) in
    let product : Fits w64 (24 * i) = omega arith in
    let sum : Fits w64 at = omega (arith, c.requires.0.small) in
    let same : at ≡ row_start c.args.book.bytes.now i = omega (arith, c.requires.0.eq) in
    let inside : RowIn c.args.book.bytes.now at = rw same (good_row_in _ c.args.book.right i (omega (arith, l, c.requires.1.eq))) in
    search rules

pub returns : goal.returns
returns c =
    let good = c.args.book.right in
    let b = c.args.book.bytes.now in
    let k = at_scale c.args.k c.args.scale in
    let rows = c.requires.1.eq in
    let cut = c.halved.ensures.cut (row_less b k) (rw (← rows) at (rows_fall b good k))
    (λ i r l e.
    let at = c.args.from + 24 * i in
    let told : r ≡ is_lt (key_order (key_at b at) k) = search rules in
    told ∙ row_less_told b i k (omega (arith, c.requires.0.eq))) in
    record { within = omega (arith, cut.order, cut.within, rows); none = nothing_below cut (row_has b k) (row_less_other b good k) }
