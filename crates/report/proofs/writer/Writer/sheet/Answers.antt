-- The sheet's line, and its answer by its code.
use native.Mathlib.Omega.{arith}
use Rattle.bundle.proofs.LawBundle.{exact_room_lem, shown_room_lem, outcomes_room, run_inside}
use Rattle.report.proofs.LawAdds.{then}
use Rattle.report.proofs.writer.Writer.sheet.Goals as goal

pub bounds-outcomes-i : goal.bounds-outcomes-i
bounds-outcomes-i c = omega (arith, c.requires.one, outcomes_room _ _ _ _ c.requires.all.room)

pub run-requires : goal.run-requires
run-requires c =
    let inside = run_inside c.args.bundle.now _ c.requires.one in
    rw c.cells_per_sheet-cells.ensures.eq (omega (arith, inside, exact_room_lem _ _ _ _ c.requires.all.room))

pub run-requires-2 : goal.run-requires-2
run-requires-2 c =
    let inside = run_inside c.args.bundle.now _ c.requires.one in
    rw c.cells_per_sheet-cells.ensures.eq (omega (arith, inside, shown_room_lem _ _ _ _ c.requires.all.room))

pub returns : goal.returns
returns c =
    then c.sheet_line.ensures (rw (c.sheet_of.ensures, c.run.ensures, c.run-2.ensures, c.cells_per_sheet-cells.ensures.eq) at c.answer.ensures)
