-- By what the field takes.
use borrow.Author.Tests.{eq-eqb, ne_eqb}
use Rattle.text.specs.Typed.{a_reading, field_number}
use Rattle.text.proofs.field.field_number.Goals as goal

pub returns-then-takes-eq-A_READING : goal.returns-then-takes-eq-A_READING
unfolding field_number
returns-then-takes-eq-A_READING c = rw (eq-eqb c.args.takes a_reading c.if-takes-eq-A_READING.true, ← c.content-typed.ensures) c.decimal_in.ensures

pub returns-else-takes-eq-A_READING : goal.returns-else-takes-eq-A_READING
unfolding field_number
returns-else-takes-eq-A_READING c = rw (ne_eqb c.args.takes a_reading c.if-takes-eq-A_READING.false, ← c.content-typed.ensures) c.number_in.ensures
