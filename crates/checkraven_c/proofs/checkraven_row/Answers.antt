-- What is written of the row, by its number.
use mathlib.Core.Path.{◌∙◌, ap}
use Rattle.checkraven_c.specs.TextCode.{written_code}
use Rattle.checkraven_c.proofs.checkraven_row.Goals as goal

pub returns : goal.returns
returns c =
    let row = rw c.key_of-key.ensures at c.report_row.ensures in
    record { answer = c.written_code.ensures ∙ ap written_code row.answer; shown = rw row.answer at row }
