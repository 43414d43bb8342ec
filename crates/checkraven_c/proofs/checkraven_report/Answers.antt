-- What is written, by its number.
use mathlib.Core.Path.{◌∙◌, ap}
use Rattle.checkraven_c.specs.TextCode.{written_code}
use Rattle.checkraven_c.proofs.checkraven_report.Goals as goal

pub returns : goal.returns
returns c =
    let text = c.report.ensures in
    record { answer = c.written_code.ensures ∙ ap written_code text.answer; reported = rw text.answer at text }
