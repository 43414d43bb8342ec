-- By cases on which book answers: its row, and its techniques.
use mathlib.Core.Path.{ap, sym, ◌∙◌}
use Rattle.std.specs.Prelude.{Some}
use Rattle.desk.specs.Inner.{right_contents}
use Rattle.desk.proofs.LawBooks.{own_there, published_there, own_answers, published_answers, neither_answers}
use Rattle.desk.proofs.account.by_books.Goals as goal

pub by_row-requires : goal.by_row-requires
by_row-requires c =
    (own_there _ _ _ _ c.row_place.ensures _ (c.in-Some-InOwn.is ∙ ap Some c.in-Some-InOwn.field-0-is), c.requires)

pub by_row-requires-in-Some-InPublished : goal.by_row-requires-in-Some-InPublished
by_row-requires-in-Some-InPublished c =
    (published_there _ _ _ _ c.row_place.ensures _ (c.in-Some-InPublished.is ∙ ap Some c.in-Some-InPublished.field-0-is), c.requires)

pub returns-in-Some-InOwn : goal.returns-in-Some-InOwn
returns-in-Some-InOwn c =
    let from = right_contents c.args.sources in
    let answers = own_answers from _ _ (sym c.row_place.ensures.eq ∙ (c.in-Some-InOwn.is ∙ ap Some c.in-Some-InOwn.field-0-is)) in
    rw (answers.0, answers.1) c.by_row.ensures

pub returns-in-Some-InPublished : goal.returns-in-Some-InPublished
returns-in-Some-InPublished c =
    let from = right_contents c.args.sources in
    let answers = published_answers from _ _ (sym c.row_place.ensures.eq ∙ (c.in-Some-InPublished.is ∙ ap Some c.in-Some-InPublished.field-0-is)) in
    rw (answers.0, answers.1) c.by_row-in-Some-InPublished.ensures

pub returns-in-None : goal.returns-in-None
returns-in-None c =
    let from = right_contents c.args.sources in
    let answers = neither_answers from _ (sym c.row_place.ensures.eq ∙ c.in-None.is) in
    rw (answers.0, answers.1)
