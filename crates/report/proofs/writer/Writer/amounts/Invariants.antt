-- The invariant: the cells so far are put.
use Prim.Native.Nat.{◌*◌}
use Rattle.report.specs.Report.{most_number}
use Rattle.report.specs.Inner.{cells_text, Adds}
use Rattle.report.proofs.writer.Writer.amounts.Given as goal

abbrev pub invariant-loop-column : goal.invariant-loop-column
invariant-loop-column l = Adds (cells_text l.cells l.i l.column) (most_number * l.column) l.initial.self l.self
