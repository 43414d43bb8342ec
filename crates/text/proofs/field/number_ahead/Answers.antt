-- By what the field takes.
use mathlib.Core.Path.{◌∙◌}
use borrow.Author.Tests.{eq-eqb, ne_eqb}
use Rattle.text.specs.Typed.{a_reading}
use Rattle.text.specs.Inner.{field_ahead}
use Rattle.text.proofs.field.number_ahead.Goals as goal

pub returns-then-takes-eq-A_READING : goal.returns-then-takes-eq-A_READING
unfolding field_ahead
returns-then-takes-eq-A_READING c = c.decimal_from.ensures ∙ rw (eq-eqb c.args.takes a_reading c.if-takes-eq-A_READING.true)

pub returns-else-takes-eq-A_READING : goal.returns-else-takes-eq-A_READING
unfolding field_ahead
returns-else-takes-eq-A_READING c = c.number_from.ensures ∙ rw (ne_eqb c.args.takes a_reading c.if-takes-eq-A_READING.false)
