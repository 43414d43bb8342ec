-- The invariant: the rows of the first i lines are put.
use Prim.Native.Nat.{◌*◌}
use Rattle.report.specs.Report.{most_row, lines_text}
use Rattle.report.specs.Inner.{Adds}
use Rattle.report.proofs.writer.Writer.table.Given as goal

abbrev pub invariant-loop-i : goal.invariant-loop-i
invariant-loop-i l = Adds (lines_text l.name l.cells l.i) (most_row * l.i) l.initial.self l.self
