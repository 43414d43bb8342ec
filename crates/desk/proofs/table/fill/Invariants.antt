-- The invariant: the rows of the lines so far stand, the tally is their sum, none of these lines is refused, and the rest is as it was.
use Prim.Native.Nat.{◌*◌}
use mathlib.Core.List.{◌++◌}
use mathlib.Core.Path.{◌≡◌}
use lib.ListN.{length, drop}
use Rattle.std.specs.Prelude.{Ok}
use Rattle.desk.specs.Table.{rows, total, by_lines}
use Rattle.desk.specs.Cells.{width}
use Rattle.desk.specs.Account.{line_outcome}
use Rattle.desk.specs.Inner.{right_lent}
use Rattle.desk.proofs.table.fill.Given as goal

abbrev pub invariant-loop-i : goal.invariant-loop-i
invariant-loop-i l =
    (length l.exact ≡ length l.initial.exact)
    × (l.exact ≡ rows l.i (line_outcome (right_lent l.files)) ++ drop (width * l.i) l.initial.exact)
    × (l.tally ≡ total l.i (line_outcome (right_lent l.files)))
    × (by_lines l.i (line_outcome (right_lent l.files)) ≡ Ok tt)
