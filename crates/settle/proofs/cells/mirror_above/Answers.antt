use native.Mathlib.Omega.{arith}
use Rattle.settle.proofs.LawMirror.{written_row, written_rows}
use Rattle.settle.proofs.LawTable.{row_begins}
use Rattle.settle.proofs.cells.mirror_above.Goals as goal

pub loop-r-preserved : goal.loop-r-preserved
loop-r-preserved c =
    let h = c.requires.frame in
    written_row _ _ h.small.wide _ c.loop-r.invariant (omega (arith, c.loop-r-test.true)) (row_begins h c.loop-r.r c.loop-r.t c.loop-r.auto.t (omega arith))

pub returns : goal.returns
returns c =
    let h = c.requires.frame.small in
    written_rows _ _ h.wide _ c.loop-r.invariant h.high (omega (arith, c.loop-r-test.false))
