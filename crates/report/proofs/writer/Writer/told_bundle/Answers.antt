-- The desk's answer to the whole is told apart: its sheets, or the refusal.
use mathlib.Core.Path.{sym, ◌∙◌}
use borrow.Author.Rules.{rules}
use Rattle.bundle.proofs.LawBundle.{taken_room, taken_right, sheets_few}
use Rattle.report.proofs.LawSheets.{tellable, taken_told, whole_taken, whole_refused}
use Rattle.report.proofs.writer.Writer.told_bundle.Goals as goal

pub sheets-requires : goal.sheets-requires
sheets-requires c =
    let desk = c.declare_bundle.ensures in
    let yes = c.in-Ok.is in
    let taken = sym desk.answer ∙ yes in (
      tellable _ _ _ _ (taken_room _ _ _ _ taken) (desk.taken yes) (sheets_few _ (taken_right _ _ _ _ taken)) (search rules) (search rules) (search rules),
      c.requires,
    )

pub returns-in-Ok : goal.returns-in-Ok
returns-in-Ok c =
    let desk = c.declare_bundle.ensures in
    let yes = c.in-Ok.is in
    let taken = sym desk.answer ∙ yes in
    whole_taken _ _ taken (rw (taken_told _ _ _ _ (taken_room _ _ _ _ taken) c.are_bytes.ensures (desk.taken yes)) at c.sheets.ensures)

pub returns-in-Err : goal.returns-in-Err
returns-in-Err c =
    whole_refused _ _ _ (sym c.in-Err.is ∙ c.declare_bundle.ensures.answer) (rw c.number.ensures at c.refusal.ensures)
