-- The answer is put in one number.
use mathlib.Core.Path.{ap}
use Rattle.text.specs.Convert.{converted_code}
use Rattle.checkraven_c.proofs.checkraven_text_from_sheet.Goals as goal

pub returns : goal.returns
returns c =
    let answer = c.text_from_sheet.ensures.answer in
    record { answer = rw c.converted_code.ensures (ap converted_code answer); converts = rw answer at c.text_from_sheet.ensures }
