use mathlib.Core.Path.{sym, ◌∙◌}
use mathlib.Core.List.{List}
use Prim.Native.Nat.{ℕ, ◌+◌, ◌≤◌, ◌<◌}
use native.Mathlib.Omega.{arith}
use lib.ListN.{length, get_or, drop}
use Rattle.settle.specs.Shown.{at}
use Rattle.settle.specs.Table.{limit}
use Rattle.settle.specs.Step.{twin}
use Rattle.settle.specs.Inner.{Bounds, Fit}
use Rattle.settle.proofs.LawNear.{within_most, move_most}
use Rattle.settle.proofs.LawPair.{pair_within}
use Rattle.settle.proofs.LawRound.{rest}
use Rattle.settle.proofs.LawLoop.{drop_next, move_on, move_out}
use Rattle.settle.proofs.moving.move_by.Goals as goal

-- there is room for the move of a turn's cell, and of its twin
record Pair (k p m : ℕ) (t : List ℕ) (x u : ℕ) : Type 0 where
  more : at t u + p ≤ limit
  twin_more : at t (twin k x u) + m ≤ limit

pair_now : (w k p m : ℕ) (s t us : List ℕ) (x i : ℕ) → Bounds w k s → ((j : ℕ) → at t j ≤ limit) → Fit w k p m t x (drop i us) → i < length us
    → Pair k p m t x (get_or us i 0)
pair_now w k p m s t us x i b most fit l =
    let h = (rw (drop_next _ _ l) at fit).0 in
    let u = get_or us i 0 in
    record {
      more = move_most b.unit b.whole (most u) h.up h.hop.loose;
      twin_more = move_most b.unit b.whole (most (twin k x u)) h.twin_up h.hop.twin_loose;
    }

pub overflow_add-t : goal.overflow_add-t
overflow_add-t c =
    let pair = pair_now _ _ _ _ _ _ c.args.us.now _ c.loop-u.u-index c.requires.bounds c.loop-u.invariant.most c.loop-u.invariant.fit c.loop-u-test.true in
    omega (arith, pair.more)

pub overflow_add-t-in-loop-u : goal.overflow_add-t-in-loop-u
overflow_add-t-in-loop-u c =
    let pair = pair_now _ _ _ _ _ _ c.args.us.now _ c.loop-u.u-index c.requires.bounds c.loop-u.invariant.most c.loop-u.invariant.fit c.loop-u-test.true in
    omega (arith, pair.twin_more)

pub loop-u-preserved : goal.loop-u-preserved
loop-u-preserved c =
    let l = c.loop-u in
    let b = c.requires.bounds in
    let h = rw (drop_next _ _ c.loop-u-test.true) at l.invariant.fit in
    record {
      most = λ j. within_most b.unit b.whole (l.invariant.most j) (pair_within b.unit b.wide h.0 j);
      fit = rest c.args.p c.args.m b.unit b.wide l.out (get_or c.args.us.now l.u-index 0) (drop (l.u-index + 1) c.args.us.now) l.t h;
      rest = sym (move_on _ _ _ _ _ _ _ c.loop-u-test.true) ∙ l.invariant.rest;
    }

pub returns : goal.returns
returns c =
    let l = c.loop-u in
    sym (move_out c.args.k c.args.p c.args.m l.out c.args.us.now l.u-index l.t c.loop-u-test.false) ∙ l.invariant.rest
