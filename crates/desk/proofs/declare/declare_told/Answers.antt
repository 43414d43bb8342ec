-- What the files are refused for decides, and where it is nothing the lines do.
use mathlib.Core.Path.{refl}
use Rattle.desk.specs.Table.{answer_of}
use Rattle.desk.proofs.LawTable.{refused, refused_cells}
use Rattle.desk.proofs.LawDeclare.{both_refused}
use Rattle.desk.proofs.LawDemands.{declared, declared_lines}
use Rattle.desk.proofs.declare.declare_told.Goals as goal

pub returns-in-Ok : goal.returns-in-Ok
returns-in-Ok c = λ from told.
    let right = rw c.in-Ok.is at (c.right_files.ensures.told from told) in
    declared_lines c.in-Ok.files _ _ right (rw (c.in-Ok.is, c.min.ensures) at c.right_files.ensures.fits) c.both_tables.ensures

pub returns-in-Err : goal.returns-in-Err
unfolding answer_of
returns-in-Err c = λ from told.
    let files = rw (c.in-Err.is, c.min.ensures) at (c.right_files.ensures.told from told) in
    let cells = refused_cells _ _ _ _ _ refused (c.clear.ensures 0 (λ x h. h)) in
    declared _ _ _ _ _ _ (rw files refl)
    (both_refused _ _ _ _ _ _ refused cells (c.clear-in-Err.ensures 0 (λ x h. h)))
    (λ accepted. absurd (refused accepted)) (λ accepted. absurd (refused accepted))
