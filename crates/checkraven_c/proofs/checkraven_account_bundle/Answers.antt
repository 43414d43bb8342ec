-- The desk's answer to the whole is put in one number.
use mathlib.Core.Path.{ap}
use Rattle.answers.specs.Bundle.{bundle_code}
use Rattle.checkraven_c.proofs.checkraven_account_bundle.Goals as goal

pub returns : goal.returns
returns c =
    let desk = c.declare_bundle.ensures in
    let answer = desk.answer in
    record { declared = rw answer at desk; answer = rw c.bundle_code.ensures (ap bundle_code answer) }
