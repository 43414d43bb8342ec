-- The best of the pairs passed and the least room over the others make the least room of all; `out` is the column by which the next row is left.
use mathlib.Core.Path.{◌≡◌}
use Prim.Native.Nat.{◌≤◌, min}
use lib.ListN.{drop}
use Rattle.settle.specs.Step.{least}
use Rattle.settle.specs.Inner.{Trail}
use Rattle.settle.proofs.moving.least.Given as goal

abbrev pub invariant-loop-u : goal.invariant-loop-u
invariant-loop-u l =
    record {
      trail : Trail l.w l.k l.t l.out (drop l.u-index l.us);
      all : min l.best (least l.w l.k l.up l.t l.out (drop l.u-index l.us)) ≡ least l.w l.k l.up l.t l.x l.us;
      most : l.best ≤ l.w;
    }
