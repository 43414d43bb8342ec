-- What the files are refused for decides, and where it is nothing the lines do.
use mathlib.Core.Path.{refl}
use Rattle.desk.specs.Lent.{contents}
use Rattle.desk.specs.Table.{answer_of, cells_after}
use Rattle.desk.proofs.LawTable.{exact_filled}
use Rattle.desk.proofs.table.exact_table.Goals as goal

pub returns-in-Ok : goal.returns-in-Ok
returns-in-Ok c =
    let right = rw c.in-Ok.is at (c.right_files.ensures.told (contents c.args.sources) c.right_sources.ensures) in
    exact_filled c.in-Ok.files _ right (rw c.in-Ok.is at c.right_files.ensures.fits) c.fill.ensures

pub returns-in-Err : goal.returns-in-Err
unfolding answer_of cells_after
returns-in-Err c =
    let refused = rw c.in-Err.is at (c.right_files.ensures.told (contents c.args.sources) c.right_sources.ensures) in
    record { answer = rw refused refl; table = c.clear.ensures 0 (λ x h. h) }
