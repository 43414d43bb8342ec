-- Nothing is looked for where the key has a number that no field holds, or a book is not right.
use mathlib.Core.Path.{refl, sym, ◌∙◌}
use Rattle.search.specs.Test as test
use Rattle.desk.specs.Books.{askable}
use Rattle.desk.proofs.books.asked_place.Goals as goal

pub returns-then-not-fields_hold : goal.returns-then-not-fields_hold
unfolding askable test.every
returns-then-not-fields_hold c = rw (sym c.fields_hold.ensures ∙ c.if-not-fields_hold.true) (record { eq = refl; small = tt })

pub returns-in_err-of : goal.returns-in_err-of
unfolding askable test.every
returns-in_err-of c =
    let wrong = rw c.in_err-of.was at c.of.ensures in
    rw (c.from_residual.ensures, sym c.fields_hold.ensures ∙ c.if-not-fields_hold.false, wrong) (record { eq = refl; small = tt })

pub returns-in_err-of-2 : goal.returns-in_err-of-2
unfolding askable test.every
returns-in_err-of-2 c =
    let own = c.in_ok-of.field-0.right in
    let same = rw c.in_ok-of.was at c.of.ensures in
    let wrong = rw c.in_err-of-2.was at c.of-2.ensures in
    rw (c.from_residual-in_err-of-2.ensures, sym c.fields_hold.ensures ∙ c.if-not-fields_hold.false, rw same at own, wrong) (record { eq = refl; small = tt })

pub returns : goal.returns
unfolding askable test.every
returns c =
    let own = c.in_ok-of.field-0.right in
    let book = c.in_ok-of-2.field-0.right in
    let own_same = rw c.in_ok-of.was at c.of.ensures in
    let book_same = rw c.in_ok-of-2.was at c.of-2.ensures in
    rw (sym c.fields_hold.ensures ∙ c.if-not-fields_hold.false, rw own_same at own, rw book_same at book, ← own_same, ← book_same) c.row_place.ensures
