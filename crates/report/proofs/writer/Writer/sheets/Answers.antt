-- The sheets one after the other.
use Rattle.report.proofs.LawSheets.{sheets_start, sheets_step}
use Rattle.report.proofs.writer.Writer.sheets.Goals as goal

pub loop-i-init : goal.loop-i-init
loop-i-init c = sheets_start _ _ _

pub loop-i-preserved : goal.loop-i-preserved
loop-i-preserved c = sheets_step _ _ _ _ c.loop-i.invariant c.sheet.ensures
