-- The answer is put in one number.
use mathlib.Core.Path.{ap}
use Rattle.text.specs.Convert.{converted_code}
use Rattle.checkraven_c.proofs.checkraven_sheet_from_text.Goals as goal

pub returns : goal.returns
returns c =
    let answer = c.sheet_from_text.ensures.answer in
    record { answer = rw c.converted_code.ensures (ap converted_code answer); converts = rw answer at c.sheet_from_text.ensures }
