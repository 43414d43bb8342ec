-- One step is taken or refused as `try_steps` says; refused, the result is cleared.
use mathlib.Core.Path.{ap, ◌∙◌}
use Rattle.std.specs.Prelude.{Err}
use Rattle.steps.proofs.LawAnswer.{step_whole, step_changed, step_off, step_short}
use Rattle.steps.proofs.step.settling_step.Goals as goal

pub returns-in-Ok-eq0 : goal.returns-in-Ok-eq0
returns-in-Ok-eq0 c = step_whole c.try_steps.ensures c.in-Ok-eq0.is c.in-Ok-eq0.field-0-test

pub returns-in-Ok : goal.returns-in-Ok
returns-in-Ok c = step_changed c.try_steps.ensures c.in-Ok.is c.in-Ok.field-0-test.1

pub returns-in-Err-Off : goal.returns-in-Err-Off
returns-in-Err-Off c =
    step_off c.try_steps.ensures (c.clear.ensures 0 (λ x e. e)) (c.in-Err-Off.is ∙ ap Err c.in-Err-Off.field-0-is)

pub returns-in-Err-Short : goal.returns-in-Err-Short
returns-in-Err-Short c =
    step_short c.try_steps.ensures (c.clear-in-Err-Short.ensures 0 (λ x e. e)) (c.in-Err-Short.is ∙ ap Err c.in-Err-Short.field-0-is)
