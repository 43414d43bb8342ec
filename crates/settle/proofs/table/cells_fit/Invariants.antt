-- The cells passed are tested; at the end that is all of them.
use mathlib.Core.Path.{◌≡◌}
use Rattle.search.specs.Test.{all}
use Rattle.settle.specs.Table.{cell_fits}
use Rattle.settle.proofs.table.cells_fit.Given as goal

abbrev pub invariant-loop-x : goal.invariant-loop-x
invariant-loop-x l = l.fit ≡ all l.x-index (cell_fits l.t)
