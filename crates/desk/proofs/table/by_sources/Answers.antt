-- Sources that are right are not refused.
use mathlib.Core.Path.{sym}
use Rattle.desk.proofs.LawTable.{sources_taken}
use Rattle.desk.proofs.table.by_sources.Goals as goal

pub returns : goal.returns
returns c =
    let right = c.in_ok-right_sources.field-0 in
    let same = rw c.in_ok-right_sources.was at c.right_sources.ensures in
    sym (rw same at (sources_taken right))
