use native.Mathlib.Omega.{arith}
use Rattle.settle.proofs.LawCells.{written_all}
use Rattle.settle.proofs.LawMirror.{length_mirror, at_mirror, written_last}
use Rattle.settle.proofs.cells.mirror.Goals as goal

pub loop-i-preserved : goal.loop-i-preserved
loop-i-preserved c =
    let size = c.mirror_above.ensures.size in
    let h = c.requires.frame.small in
    λ s w. written_last _ _ h.wide _ (c.loop-i.invariant s w) h.high c.loop-i.auto.i (omega (arith, size, c.requires.frame.size)) (omega arith)

pub returns : goal.returns
returns c =
    written_all (c.loop-i.invariant _ c.mirror_above.ensures) (omega arith) (length_mirror _ _ _) (at_mirror _ _ _)
