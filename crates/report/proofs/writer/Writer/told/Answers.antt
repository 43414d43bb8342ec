-- The desk's answer, by its code, and the results that it left.
use mathlib.Core.Path.{sym, ◌∙◌}
use Rattle.report.specs.Report.{report_of}
use Rattle.report.proofs.LawTold.{told_few, told_is}
use Rattle.report.proofs.writer.Writer.told.Goals as goal

pub answer-requires : goal.answer-requires
answer-requires c = record { few = λ z. told_few _ _ _ _ _ _ c.declare-outcome.ensures (sym c.outcome_code.ensures ∙ z); within = c.requires }

pub returns : goal.returns
unfolding report_of
returns c =
    let desk = c.declare-outcome.ensures in
    rw (← desk.demand1.answer) (rw (c.outcome_code.ensures, told_is _ _ _ _ _ _ desk c.are_bytes.ensures) at c.answer.ensures)
