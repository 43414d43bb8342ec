-- Before each turn the first i cells are 0 and the others are as they were. Assumes nothing.
use Rattle.std.proofs.Common.{◌≡◌, ◌++◌, drop, replicate}
use Rattle.little.proofs.cells.clear.Given as goal

abbrev pub invariant-loop-i : goal.invariant-loop-i
invariant-loop-i g l =
    (zero : _) → ((x : _) → g.T.Default.is_default x → x ≡ zero) → l.cells ≡ replicate l.i zero ++ drop l.i l.fn.cells
