-- After i columns that were whole in row r, i and what `closes` counts from there on make what it counts from the start.
use mathlib.Core.Path.{◌≡◌}
use Prim.Native.Nat.{◌+◌}
use lib.ListN.{drop}
use Rattle.settle.specs.Step.{closes}
use Rattle.settle.proofs.round.closes.Given as goal

abbrev pub invariant-loop-i : goal.invariant-loop-i
invariant-loop-i l = l.i + closes l.w l.k l.t l.r (drop l.i l.path) ≡ closes l.w l.k l.t l.r l.path
