-- The running tally: it starts at zeros and takes one line's row after another.
use Rattle.desk.specs.Cells.{zeros, plus}
use Rattle.desk.specs.declared.cells.TableRow.{TableRow}
use Rattle.desk.specs.declared.tally.Tally.{Tally}

abbrev pub start : Tally
start = record { sums = zeros }

abbrev pub add : (t : Tally) (row : TableRow) → Tally
add t row = record { sums = plus t.sums row }
