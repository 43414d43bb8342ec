use native.Mathlib.Omega.{arith}
use native.Mathlib.Nat.{mod-lt}
use lib.ListN.{get_or}
use Rattle.settle.proofs.LawLoop.{closes_stop, closes_on, closes_out}
use Rattle.settle.proofs.round.closes.Goals as goal

pub bounds-t-row : goal.bounds-t-row
bounds-t-row c = omega (arith, c.requires.line.cells _ (mod-lt (get_or c.args.path.now c.loop-i.i 0) c.requires.wide))

pub returns-then-t-row-ne0 : goal.returns-then-t-row-ne0
returns-then-t-row-ne0 c =
    let e = closes_stop c.args.w c.args.k c.args.t.now c.args.r c.args.path.now c.loop-i.i c.loop-i-test.true c.if-t-row-ne0.true in
    omega (arith, c.loop-i.invariant)

pub loop-i-preserved : goal.loop-i-preserved
loop-i-preserved c =
    let e = closes_on c.args.w c.args.k c.args.t.now c.args.r c.args.path.now c.loop-i.i c.loop-i-test.true c.if-t-row-ne0.false in
    omega (arith, c.loop-i.invariant)

pub returns : goal.returns
returns c =
    let e = closes_out c.args.w c.args.k c.args.t.now c.args.r c.args.path.now c.loop-i.i c.loop-i-test.false in
    omega (arith, c.loop-i.invariant)
