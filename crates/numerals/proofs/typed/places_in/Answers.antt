-- A number of 1 to 3 digits, as many of them as there are bytes. Assumes nothing.
use mathlib.Core.Path.{sym, ◌∙◌}
use Rattle.numerals.specs.Typed.{places_in}
use Rattle.numerals.proofs.LawDecimal.{places_few}
use Rattle.numerals.proofs.typed.places_in.Goals as goal

pub as_places-requires : goal.as_places-requires
as_places-requires c = λ n e. places_few _ n (sym c.number_in.ensures ∙ e)

pub returns : goal.returns
unfolding places_in
returns c = rw (← c.number_in.ensures) c.as_places.ensures
