-- The space is put, and the numeral where it ends.
use Rattle.numerals.proofs.LawPuts.{from_place, then}
use Rattle.report.specs.Report.{number_text}
use Rattle.report.proofs.writer.Writer.number.Goals as goal

pub returns : goal.returns
unfolding number_text
returns c = record { same = c.put.ensures.same; puts = then c.put.ensures.puts (from_place c.decimal.ensures) }
