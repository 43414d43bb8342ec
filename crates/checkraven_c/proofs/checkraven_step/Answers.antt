-- The step's answer is put in one number.
use mathlib.Core.Path.{ap}
use Rattle.answers.specs.Step.{step_code}
use Rattle.checkraven_c.proofs.checkraven_step.Goals as goal

pub returns : goal.returns
returns c =
    let step = c.settling_step.ensures in
    let answer = step.answer in
    record { answer = rw c.step_code.ensures (ap step_code answer); taken = rw answer at step }
