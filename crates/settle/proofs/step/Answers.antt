-- Each answer follows from the tests that led to it; where both were passed, the lent cells begin with what `step_in` left in the first of them.
use mathlib.Core.Path.{sym, ◌∙◌}
use lib.Seq.{length-take-le}
use Rattle.settle.specs.Grid.{grid}
use Rattle.settle.proofs.LawTable.{good_of}
use Rattle.settle.proofs.LawAnswer.{answers_off, answers_short, answers_done}
use Rattle.settle.proofs.step.Goals as goal

pub returns-then-not-is_good : goal.returns-then-not-is_good
returns-then-not-is_good c =
    answers_off _ _ _ _ (sym c.is_good.ensures ∙ c.if-not-is_good.true)

pub returns-then-next-cells : goal.returns-then-next-cells
returns-then-next-cells c =
    answers_short _ _ _ _ (sym c.is_good.ensures ∙ c.if-not-is_good.false) c.if-next-cells.true

pub step_in-steps-requires : goal.step_in-steps-requires
step_in-steps-requires c =
    let h = good_of (grid c.args.unit c.args.columns c.args.rows c.args.marked) _ (sym c.is_good.ensures ∙ c.if-not-is_good.false) in
    record { good = h; room = length-take-le _ _ c.if-next-cells.false ∙ h.size }

pub returns : goal.returns
returns c =
    answers_done _ _ _ _ (sym c.is_good.ensures ∙ c.if-not-is_good.false) c.if-next-cells.false c.step_in-steps.ensures
