-- What is left and the sum of the cells taken off make x. So a cell that is more than what is left makes the sum more than x.
use mathlib.Core.Path.{◌≡◌}
use Prim.Native.Nat.{◌+◌}
use Rattle.settle.specs.Shown.{sum}
use Rattle.settle.proofs.table.adds_up.Given as goal

abbrev pub invariant-loop-j : goal.invariant-loop-j
invariant-loop-j l = l.left + sum l.t l.b l.s l.j ≡ l.x
