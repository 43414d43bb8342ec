-- Its four runs of words, one after the other.
use mathlib.Core.Path.{◌∙◌}
use Rattle.numerals.proofs.LawPuts.{then}
use Rattle.text.proofs.LawWords.{line_runs}
use Rattle.text.proofs.words.lay_line.Goals as goal

pub returns : goal.returns
returns c =
    let lay-codes = c.lay_codes-amounts in
    let lay-amounts = c.lay_amounts-readings in
    let lay-readings = c.lay_readings-grades in
    (then lay-codes.ensures (then lay-amounts.ensures (then lay-readings.ensures c.lay_grades.ensures))).holds ∙ rw (line_runs c.args.numbers.now)
