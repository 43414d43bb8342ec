-- The unit's code decides whether `settle` is asked; its promise is the rest.
use mathlib.Core.Path.{sym, ◌∙◌}
use Rattle.steps.proofs.LawAnswer.{tried_unit, tried_none}
use Rattle.steps.proofs.table.try_steps.Goals as goal

pub returns-then-not-is_unit : goal.returns-then-not-is_unit
returns-then-not-is_unit c = tried_none (sym c.is_unit.ensures ∙ c.if-not-is_unit.true)

pub returns : goal.returns
returns c =
    tried_unit (sym c.is_unit.ensures ∙ c.if-not-is_unit.false) c.unit_from.ensures c.step.ensures
