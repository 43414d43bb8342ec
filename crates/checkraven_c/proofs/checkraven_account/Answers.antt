-- The desk's answer is put in one number.
use mathlib.Core.Path.{ap}
use Rattle.answers.specs.Answer.{code_of}
use Rattle.checkraven_c.proofs.checkraven_account.Goals as goal

pub returns : goal.returns
returns c =
    let desk = c.declare.ensures in
    let answer = desk.demand1.answer in
    record { answer = rw c.outcome_code.ensures (ap code_of answer); declared = rw answer at desk }
