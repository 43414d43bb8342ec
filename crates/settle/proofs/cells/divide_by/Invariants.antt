-- The cells passed are in whole units; at the end all are.
use Prim.Native.Nat.{◌/◌}
use Rattle.settle.specs.Inner.{Written}
use Rattle.settle.proofs.cells.divide_by.Given as goal

abbrev pub invariant-loop-x : goal.invariant-loop-x
invariant-loop-x l = Written (λ j x. x / l.w) l.x-index l.initial.t l.t
