-- The invariant: the first i sheets are told.
use Prim.Native.Nat.{◌*◌}
use Rattle.desk.specs.Works.{results}
use Rattle.report.specs.Bundle.{most_sheet_text}
use Rattle.report.specs.Inner.{sheet_texts, Adds}
use Rattle.report.proofs.writer.Writer.sheets.Given as goal

abbrev pub invariant-loop-i : goal.invariant-loop-i
invariant-loop-i l =
    Adds (sheet_texts l.bundle (results l.exact l.shown l.outcomes) l.i) (most_sheet_text * l.i) l.initial.self l.self
