use mathlib.Core.Path.{◌≡◌, sym, ◌∙◌}
use mathlib.Core.Logic.{inl, inr, ◌⊎◌}
use Prim.Native.Nat.{◌+◌, ◌*◌}
use native.Mathlib.Omega.{arith}
use Rattle.settle.specs.Shown.{at, Whole}
use Rattle.settle.proofs.LawLine.{seek_skip, seek_here, seek_end, seek_jump}
use Rattle.settle.proofs.round.seek_by.Goals as goal
use Rattle.settle.proofs.round.seek_by.Goals.{else-k-q-via-then-k-q+else-t-b-ne0, else-k-q-via-else-k-q}

pub loop-k-init : goal.loop-k-init
loop-k-init c = seek_jump _ _ _ _ _ _ _ c.requires.from c.requires.passed

pub returns-then-t-b-ne0 : goal.returns-then-t-b-ne0
returns-then-t-b-ne0 c =
    sym (seek_here _ _ _ _ _ _ _ c.loop-k-test.true c.if-k-q.true c.if-t-b-ne0.true) ∙ c.loop-k.invariant

pub loop-k-preserved : goal.loop-k-preserved
loop-k-preserved c =
    let passed : (c.loop-k.k ≡ c.args.q) ⊎ Whole c.args.w (at c.args.t.now (c.args.b + c.loop-k.k * c.args.s)) =
    elim c.else-k-q.branch [
      | else-k-q-via-then-k-q+else-t-b-ne0 z ↦ inr z.if-t-b-ne0.false
      | else-k-q-via-else-k-q z ↦ inl z.if-k-q.false
    ] in
    sym (seek_skip _ _ _ _ _ _ _ c.loop-k-test.true passed) ∙ c.loop-k.invariant

pub returns : goal.returns
returns c =
    sym (seek_end c.args.w c.args.t.now c.args.b c.args.s c.args.q c.args.m c.loop-k.k (omega (arith, c.loop-k-test.false))) ∙ c.loop-k.invariant
