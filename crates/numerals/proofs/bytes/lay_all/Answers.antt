use mathlib.Core.Path.{ap, ◌∙◌}
use native.Mathlib.Omega.{arith}
use lib.ListN.{length}
use Rattle.numerals.proofs.LawLaid.{length_laid, laid_one, laid_none, laid_step}
use Rattle.numerals.proofs.bytes.lay_all.Goals as goal

pub loop-i-init : goal.loop-i-init
loop-i-init c = laid_none _ _

pub bounds-text-at : goal.bounds-text-at
bounds-text-at c = omega (arith, ap length c.loop-i.invariant ∙ length_laid _ _ _, c.requires, c.loop-i-test.true)

pub loop-i-preserved : goal.loop-i-preserved
loop-i-preserved c = laid_one _ _ _ ∙ laid_step _ _ _ _ c.loop-i-test.true c.loop-i.invariant
