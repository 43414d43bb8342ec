-- The desk's answer is put in one number.
use mathlib.Core.Path.{ap}
use Rattle.answers.specs.Answer.{code_of}
use Rattle.text.proofs.LawAnswer.{text_answer_lem}
use Rattle.checkraven_c.proofs.checkraven_account_text.Goals as goal

pub returns : goal.returns
returns c =
    let desk = c.declare_text.ensures in
    let answer = text_answer_lem _ _ _ _ _ _ _ desk in
    record { answer = rw c.outcome_code.ensures (ap code_of answer); declared = rw answer at desk }
