-- The digits that were read, as the numeral that they are. Assumes nothing.
use mathlib.Core.Path.{◌∙◌}
use Rattle.numerals.proofs.LawAhead.{front_after, number_ends}
use Rattle.numerals.proofs.ahead.number_from.Goals as goal

pub overflow_sub-front : goal.overflow_sub-front
overflow_sub-front c = front_after _ _ _ c.digits_from-front.ensures

pub returns : goal.returns
returns c = c.ending_at.ensures ∙ rw c.number_of.ensures (number_ends _ _ _ c.digits_from-front.ensures _ _)
