use native.Mathlib.Omega.{arith}
use mathlib.Core.Path.{◌≡◌}
use Rattle.settle.proofs.LawStepMirrored.{settling_next, settling_end, settling_done, sought_on}
use Rattle.settle.proofs.settling.settle.Goals as goal

pub returns-then-t-i : goal.returns-then-t-i
returns-then-t-i c = let h = c.loop-steps.invariant in settling_end h.settling h.first c.if-t-i.true

pub first_loose-i-requires-in-loop-steps : goal.first_loose-i-requires-in-loop-steps
first_loose-i-requires-in-loop-steps c =
    let h = c.loop-steps.invariant in
    sought_on h.settling h.first c.if-t-i.false c.step_mirrored.ensures

pub loop-steps-preserved : goal.loop-steps-preserved
loop-steps-preserved c =
    let h = c.loop-steps.invariant in
    record {
      settling = settling_next h.settling h.first c.if-t-i.false c.step_mirrored.ensures c.loop-steps-test.true;
      first = c.first_loose-i-in-loop-steps.ensures;
    }

pub returns : goal.returns
returns c =
    let all : c.loop-steps.steps ≡ c.args.times = omega (arith, c.loop-steps-test.false) in
    rw all at (settling_done c.loop-steps.invariant.settling c.loop-steps-test.false)
