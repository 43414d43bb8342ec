-- A right sheet has the line.
use Rattle.desk.proofs.LawTable.{right_line_there}
use Rattle.desk.proofs.account.line_outcome.Goals as goal

pub line_start-requires : goal.line_start-requires
line_start-requires c = (right_line_there _ c.args.files.sheet.right _ c.requires).small

pub reading_at-reading-requires : goal.reading_at-reading-requires
reading_at-reading-requires c = rw c.line_start.ensures.eq (right_line_there _ c.args.files.sheet.right _ c.requires).lies

pub line_of-requires : goal.line_of-requires
line_of-requires c = (right_line_there _ c.args.files.sheet.right _ c.requires, rw c.line_start.ensures.eq at c.reading_at-reading.ensures)
