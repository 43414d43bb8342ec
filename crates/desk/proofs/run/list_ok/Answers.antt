-- Each test says how the rest of the list stands: by arithmetic of two codes, by the run that is kept, or by the technique itself.
use Prim.Native.Nat.{◌≤◌, ◌<◌}
use mathlib.Core.Path.{sym, ◌∙◌}
use native.Mathlib.Omega.{arith}
use Rattle.desk.specs.Book.{technique_code}
use Rattle.desk.proofs.LawRun.{list_none, list_outside, list_inside, lawful_is, reaches_not, reaches_by_kept, rest_none, rest_first, rest_falls, rest_by_run, rest_on}
use Rattle.desk.proofs.run.list_ok.Goals as goal

pub returns-then-count-eq0 : goal.returns-then-count-eq0
returns-then-count-eq0 c = list_none _ _ _ _ c.if-count-eq0.true

pub returns-then-techniques-end : goal.returns-then-techniques-end
returns-then-techniques-end c = list_outside _ _ _ _ c.if-count-eq0.false c.if-techniques-end.true

pub loop-k-init : goal.loop-k-init
loop-k-init c =
    sym (rest_first _ _ _ _ (omega (arith, c.if-count-eq0.false)) c.if-techniques-end.false) ∙ list_inside _ _ _ _ c.if-count-eq0.false c.if-techniques-end.false

pub returns-then-code-before : goal.returns-then-code-before
returns-then-code-before c =
    let falls : technique_code c.args.techniques.block.now c.loop-k.k ≤ c.loop-k.before = omega (arith, c.code_in-code.ensures.eq) in
    rest_falls _ _ _ _ c.loop-k-test.true c.if-techniques-end.false _ falls ∙ c.loop-k.invariant

pub returns-then-k-eq0 : goal.returns-then-k-eq0
returns-then-k-eq0 c =
    let rises : c.loop-k.before < technique_code c.args.techniques.block.now c.loop-k.k = omega (arith, c.code_in-code.ensures.eq) in
    reaches_by_kept _ _ _ _ _ c.args.techniques.kept.kept c.if-k-eq0.true (omega arith)
    ∙ rest_by_run _ _ _ _ c.loop-k-test.true c.if-techniques-end.false _ rises
    ∙ c.loop-k.invariant

pub returns-then-not-is_lawful : goal.returns-then-not-is_lawful
returns-then-not-is_lawful c =
    let rises : c.loop-k.before < technique_code c.args.techniques.block.now c.loop-k.k = omega (arith, c.code_in-code.ensures.eq) in
    let not = lawful_is _ _ c.code_in-code.ensures.eq c.efficiency_in.ensures.eq ∙ sym c.is_lawful.ensures ∙ c.if-not-is_lawful.true in
    reaches_not _ _ _ _ c.loop-k-test.true c.if-techniques-end.false not
    ∙ rest_by_run _ _ _ _ c.loop-k-test.true c.if-techniques-end.false _ rises
    ∙ c.loop-k.invariant

pub loop-k-preserved : goal.loop-k-preserved
loop-k-preserved c =
    let rises : c.loop-k.before < technique_code c.args.techniques.block.now c.loop-k.k = omega (arith, c.code_in-code.ensures.eq) in
    let lawful = lawful_is _ _ c.code_in-code.ensures.eq c.efficiency_in.ensures.eq ∙ sym c.is_lawful.ensures ∙ c.if-not-is_lawful.false in
    rw c.code_in-code.ensures.eq (rest_on _ _ _ _ c.loop-k-test.true c.if-techniques-end.false _ rises lawful ∙ c.loop-k.invariant)

pub returns : goal.returns
returns c = rest_none _ _ _ _ _ (omega arith) ∙ c.loop-k.invariant
