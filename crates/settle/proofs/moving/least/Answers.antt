use native.Mathlib.Omega.{arith}
use Rattle.settle.proofs.LawLoop.{drop_next, least_on, least_out, least_most, least_step}
use Rattle.settle.proofs.moving.least.Goals as goal

pub loop-u-init : goal.loop-u-init
loop-u-init c =
    record { trail = c.requires.trail; all = least_most c.args.w c.args.k c.args.up c.args.t.now c.args.x c.args.us.now; most = omega arith }

pub loop-u-preserved : goal.loop-u-preserved
loop-u-preserved c =
    let l = c.loop-u in
    let now = rw (drop_next _ _ c.loop-u-test.true) at l.invariant.trail in
    let e = least_on _ _ _ _ _ _ _ c.loop-u-test.true in
    record {
      trail = now.3;
      all = least_step _ _ _ _ _ c.min-best.ensures c.min.ensures c.room-a.ensures c.room-b.ensures e l.invariant.all;
      most = omega (arith, c.min-best.ensures, l.invariant.most);
    }

pub returns : goal.returns
returns c =
    let l = c.loop-u in
    omega (arith, least_out c.args.w c.args.k c.args.up c.args.t.now l.out c.args.us.now l.u-index c.loop-u-test.false, l.invariant.all, l.invariant.most)
