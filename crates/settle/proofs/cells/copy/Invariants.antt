-- Before place i the cells are those of `from`; at the end that is all of them.
use Rattle.settle.specs.Shown.{at}
use Rattle.settle.specs.Inner.{Written}
use Rattle.settle.proofs.cells.copy.Given as goal

abbrev pub invariant-loop-i : goal.invariant-loop-i
invariant-loop-i l = Written (λ j x. at l.from j) l.i l.initial.t l.t
