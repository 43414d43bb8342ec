-- The digits that were read, as the places that they are. Assumes nothing.
use mathlib.Core.Path.{sym, ◌∙◌}
use Rattle.numerals.specs.Inner.{with_places}
use Rattle.numerals.specs.Typed.{places, most_places}
use Rattle.numerals.proofs.LawDecimal.{places_most}
use Rattle.numerals.proofs.LawAhead.{front_after, of_few, front_places, end_is}
use Rattle.numerals.proofs.ahead.with_places.Goals as goal

pub overflow_sub-size : goal.overflow_sub-size
overflow_sub-size c = front_after _ _ _ c.digits_from-behind.ensures

pub as_places-requires : goal.as_places-requires
as_places-requires c = λ n e. of_few places most_places _ _ n (sym c.number_of-places.ensures ∙ e)

pub join-requires : goal.join-requires
join-requires c =
    (c.requires, λ n e. places_most _ n (sym (front_places _ _ _ c.digits_from-behind.ensures) ∙ rw (← c.number_of-places.ensures) (sym c.as_places.ensures ∙ e)))

pub returns : goal.returns
unfolding with_places
returns c =
    let digits_from = c.digits_from-behind in
    let number_of_lem = c.number_of-places in
    let as-places = c.as_places in
    let join = c.join in
    c.ending_at.ensures ∙ rw (join.ensures, as-places.ensures, number_of_lem.ensures, front_places _ _ _ digits_from.ensures, end_is _ _ _ digits_from.ensures)
