-- None are left between the ends: they have met.
use native.Mathlib.Omega.{arith}
use Rattle.search.proofs.LawCut.{cut_met}
use Rattle.search.proofs.halving.passing.Goals as goal

pub returns : goal.returns
returns g c = λ p falls is. cut_met (c.halved.ensures.cut p falls is) (omega (arith, c.halved.ensures.left))
