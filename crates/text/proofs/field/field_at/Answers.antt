-- A numeral with which the field ends; or any field.
use mathlib.Core.Path.{sym, ◌∙◌}
use Rattle.text.proofs.LawAhead.{read_ahead}
use Rattle.text.proofs.field.field_at.Goals as goal

pub returns-in-Some : goal.returns-in-Some
returns-in-Some c =
    rw c.what_follows.ensures (read_ahead _ _ _ _ _ (sym c.field_ends.ensures ∙ c.if-field_ends.true) (sym c.in-Some.ensures))
