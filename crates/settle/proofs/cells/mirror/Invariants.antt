-- The cells before place i are mirrored: above the last row to begin with, at the end all. What is still to be mirrored is the old cell.
-- (The invariant speaks of any table of which the loop found so much mirrored.)
use mathlib.Core.List.{List}
use Prim.Native.Nat.{ℕ, ◌+◌, ◌-◌, ◌*◌}
use Rattle.settle.specs.Inner.{Written}
use Rattle.settle.specs.Step.{mirror_cell}
use Rattle.settle.proofs.cells.mirror.Given as goal

abbrev pub invariant-loop-i : goal.invariant-loop-i
invariant-loop-i l =
    (s : List ℕ) → Written (mirror_cell l.fn.grid.columns l.fn.grid.rows) ((l.fn.grid.rows - 1) * l.fn.grid.columns + 1) s l.initial.t
    → Written (mirror_cell l.fn.grid.columns l.fn.grid.rows) l.i s l.t
