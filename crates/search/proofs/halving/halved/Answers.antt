-- The number in the middle tells which half falls away, and what is left still has the cut.
use Prim.Native.Nat.{◌+◌, ◌-◌, ◌/◌}
use mathlib.Core.Path.{sym, ap, ◌∙◌}
use native.Mathlib.Omega.{arith}
use Rattle.search.proofs.LawCut.{cut_low, cut_high}
use Rattle.search.proofs.halving.halved.Goals as goal

pub loop-high-preserved-then-passes : goal.loop-high-preserved-then-passes
loop-high-preserved-then-passes g c =
    let l = c.loop-high in
    let m = l.low + (l.high - l.low) / 2 in (
      omega arith,
      l.invariant.1,
      λ p falls is. cut_low falls (l.invariant.2 p falls is) m (omega arith) (omega arith) (sym (is _ _ (omega arith) c.passes.ensures ∙ ap p (omega arith)) ∙ c.if-passes.true),
    )

pub loop-high-preserved : goal.loop-high-preserved
loop-high-preserved g c =
    let l = c.loop-high in
    let m = l.low + (l.high - l.low) / 2 in (
      omega arith,
      omega arith,
      λ p falls is. cut_high falls (l.invariant.2 p falls is) m (omega arith) (omega arith) (sym (is _ _ (omega arith) c.passes.ensures ∙ ap p (omega arith)) ∙ c.if-passes.false),
    )
