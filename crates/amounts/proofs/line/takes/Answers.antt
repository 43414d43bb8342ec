-- The code's tests are the definition's, one for one. Assumes nothing.
use Rattle.std.proofs.Common.{refl}
use Rattle.amounts.specs.Line.{admissible}
use Rattle.amounts.proofs.line.takes.Goals as goal

pub returns : goal.returns
unfolding admissible
returns c = refl
