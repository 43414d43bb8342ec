-- The answers are those of `step`. Where it is done the table was good, so the lent cells begin with as many as are divided.
use mathlib.Core.Path.{refl, sym}
use native.Mathlib.Omega.{arith}
use lib.Seq.{length-take-le}
use Rattle.std.proofs.lemmas.Result.{err_from_is_err_and}
use Rattle.settle.proofs.LawAnswer.{still_unsettled, done_good, done_room, divided}
use Rattle.settle.proofs.show.Goals as goal

pub returns-in_err-steps : goal.returns-in_err-steps
returns-in_err-steps c =
    let p = err_from_is_err_and c.from_residual.result c.from_residual.ensures.1 in
    rw (p.1, p.2) (still_unsettled c.step.ensures refl c.in_err-steps.was)

pub slice_bounds-divide-end : goal.slice_bounds-divide-end
slice_bounds-divide-end c = omega (arith, done_room c.step.ensures c.in_ok-steps.was)

pub slice_bounds-divide-end-2 : goal.slice_bounds-divide-end-2
slice_bounds-divide-end-2 c =
    let l = done_room c.step.ensures c.in_ok-steps.was in
    sym (length-take-le _ _ (omega arith))

pub divide-requires : goal.divide-requires
divide-requires c = (done_good c.step.ensures c.in_ok-steps.was).shape.unit

pub returns : goal.returns
returns c = divided c.step.ensures c.in_ok-steps.was refl c.divide.ensures
