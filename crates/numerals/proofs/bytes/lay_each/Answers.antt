use mathlib.Core.Path.{◌∙◌}
use Rattle.numerals.proofs.LawLaid.{laid_none, laid_step}
use Rattle.numerals.proofs.bytes.lay_each.Goals as goal

pub loop-i-init : goal.loop-i-init
loop-i-init c = laid_none _ _

pub loop-i-preserved : goal.loop-i-preserved
loop-i-preserved c =
    let lay-one = c.lay_one in
    let loop-test = c.loop-i-test in
    let loop = c.loop-i in
    lay-one.ensures ∙ laid_step _ _ _ _ loop-test.true loop.invariant
