-- The count is put in one number.
use mathlib.Core.Path.{ap}
use Rattle.answers.specs.Step.{count_code}
use Rattle.checkraven_c.proofs.checkraven_steps.Goals as goal

pub returns : goal.returns
returns c =
    let steps = c.settling_steps.ensures in
    let answer = steps.answer in
    record { answer = rw c.count_code.ensures (ap count_code answer); counted = rw answer at steps }
