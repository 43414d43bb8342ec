-- The places before k are passed, so `seek` from k on finds what it finds from the start.
use mathlib.Core.Path.{◌≡◌}
use Prim.Native.Nat.{◌-◌}
use Rattle.settle.specs.Step.{seek}
use Rattle.settle.proofs.round.seek_by.Given as goal

abbrev pub invariant-loop-k : goal.invariant-loop-k
invariant-loop-k l = seek l.w l.t l.b l.s l.q (l.m - l.k) l.k ≡ seek l.w l.t l.b l.s l.q l.m 0
