-- The sheet that was read is told as any other; where there is none, its refusal is.
use Rattle.text.proofs.LawConvert.{gave, refused_is}
use Rattle.text.proofs.LawMade.{made_size}
use Rattle.report.specs.Typed.{text_report_of}
use Rattle.report.proofs.writer.Writer.told_text.Goals as goal

pub returns-in-Ok : goal.returns-in-Ok
unfolding text_report_of
returns-in-Ok c =
    let read = gave _ _ _ _ c.sheet_from_text.ensures _ c.in-Ok.is in
    rw read.1.0 (rw (c.part.ensures, read.1.1) at c.told.ensures)

pub returns-in-Err : goal.returns-in-Err
unfolding text_report_of
returns-in-Err c =
    let refusal = refused_is _ _ _ _ c.sheet_from_text.ensures (λ s. made_size c.args.typed.now s) _ c.in-Err.is in
    rw refusal (rw c.sources_first.ensures at c.outcome.ensures)
