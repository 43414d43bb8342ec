-- The answers are those of as many steps as there are cells; room does not fail.
use Rattle.steps.proofs.LawAnswer.{count_told}
use lib.Dec.{lit≤}
use Rattle.steps.proofs.count.settling_steps.Goals as goal

pub returns : goal.returns
returns c = count_told _ _ c.try_steps.ensures (lit≤ tt) _ c.map_err.ensures.cases
