-- The invariant: the sheets so far are as alone, and the rest of what is lent is as it was.
use mathlib.Core.Path.{◌≡◌}
use lib.ListN.{length}
use Rattle.desk.specs.Lent.{contents}
use Rattle.desk.specs.Works.{results, FirstSheets}
use Rattle.desk.proofs.works.each_sheet.Given as goal

abbrev pub invariant-loop-i : goal.invariant-loop-i
invariant-loop-i l =
    (length l.exact ≡ length l.initial.exact)
    × (length l.shown ≡ length l.initial.shown)
    × (length l.outcomes ≡ length l.initial.outcomes)
    × FirstSheets l.i (contents l.sources) l.bundle (results l.initial.exact l.initial.shown l.initial.outcomes) (results l.exact l.shown l.outcomes)
