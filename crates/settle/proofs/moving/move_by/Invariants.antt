-- Each turn moves one pair; what is left of the path still fits the table, since the pair's row is apart from the others, and moving the rest
-- leads to the definition's result. A cell has room for the move, so it stays between 0 and the limit.
use mathlib.Core.Path.{◌≡◌}
use Prim.Native.Nat.{ℕ, ◌≤◌}
use lib.ListN.{drop}
use Rattle.settle.specs.Shown.{at}
use Rattle.settle.specs.Table.{limit}
use Rattle.settle.specs.Step.{move_by}
use Rattle.settle.specs.Inner.{Fit}
use Rattle.settle.proofs.moving.move_by.Given as goal

abbrev pub invariant-loop-u : goal.invariant-loop-u
invariant-loop-u l =
    record {
      most : (j : ℕ) → at l.t j ≤ limit;
      fit : Fit l.w l.k l.p l.m l.t l.out (drop l.u-index l.us);
      rest : move_by l.k l.p l.m l.out (drop l.u-index l.us) l.t ≡ move_by l.k l.p l.m l.x l.us l.initial.t;
    }
