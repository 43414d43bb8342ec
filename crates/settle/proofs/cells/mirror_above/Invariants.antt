-- All cells before row r are mirrored: a row's first cell is written, and its others stand for themselves in the mirror.
use Prim.Native.Nat.{◌*◌}
use Rattle.settle.specs.Inner.{Written}
use Rattle.settle.specs.Step.{mirror_cell}
use Rattle.settle.proofs.cells.mirror_above.Given as goal

abbrev pub invariant-loop-r : goal.invariant-loop-r
invariant-loop-r l = Written (mirror_cell l.grid.columns l.grid.rows) (l.r * l.grid.columns) l.initial.t l.t
