-- The path stands at the end of `room`, newest cell first; the walk from where the loop stands closes the round that it closes from its start.
-- Each turn takes a column off those that are new, so the loop does not come to its end: it returns where the round closes.
use mathlib.Core.Path.{◌≡◌}
use Prim.Native.Nat.{◌-◌, ◌≤◌}
use lib.ListN.{length, drop}
use Rattle.settle.specs.Step as spec
use Rattle.settle.specs.Table.{most_columns}
use Rattle.settle.proofs.LawWalk.{Way, free}
use Rattle.settle.proofs.round.round_from.Given as goal

abbrev pub invariant-loop-entered : goal.invariant-loop-entered
invariant-loop-entered l =
    record {
      size : length l.room ≡ most_columns;
      way : Way l.w l.k l.n l.t (drop (most_columns - l.entered) l.room) l.r l.c;
      new : free l.k (drop (most_columns - l.entered) l.room) l.k ≤ most_columns - l.entered;
      walk : spec.walk l.w l.k l.n l.t (most_columns - l.entered) (drop (most_columns - l.entered) l.room) l.r l.c ≡ spec.round_from l.w l.k l.n l.t l.i;
    }
