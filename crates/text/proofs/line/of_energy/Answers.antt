-- The three readings are taken or refused, in this order.
use Rattle.shares.specs.Share.{hours_of, kw_of, kwh_of}
use Rattle.text.specs.Written.{all_taken}
use Rattle.text.proofs.LawUsed.{first_taken, first_bad}
use Rattle.text.proofs.line.of_energy.Goals as goal

pub returns-in_err-a : goal.returns-in_err-a
returns-in_err-a c = rw (c.from_residual.ensures, first_bad _ (kwh_of _) _ c.parts_of.ensures c.in_err-a.ensures.value)

pub returns-in_err-b : goal.returns-in_err-b
returns-in_err-b c =
    rw (
      c.from_residual-in_err-b.ensures,
      first_taken _ (kwh_of _) _ c.parts_of.ensures _ c.in_ok-a.ensures.value,
      first_bad _ (kw_of _) _ c.parts_of-2.ensures c.in_err-b.ensures.value,
    )

pub returns-in_err-c : goal.returns-in_err-c
returns-in_err-c c =
    rw (
      c.from_residual-in_err-c.ensures,
      first_taken _ (kwh_of _) _ c.parts_of.ensures _ c.in_ok-a.ensures.value,
      first_taken _ (kw_of _) _ c.parts_of-2.ensures _ c.in_ok-b.ensures.value,
      first_bad _ (hours_of _) _ c.parts_of-3.ensures c.in_err-c.ensures.value,
    )

pub returns : goal.returns
unfolding all_taken
returns c =
    rw (
      first_taken _ (kwh_of _) _ c.parts_of.ensures _ c.in_ok-a.ensures.value,
      first_taken _ (kw_of _) _ c.parts_of-2.ensures _ c.in_ok-b.ensures.value,
      first_taken _ (hours_of _) _ c.parts_of-3.ensures _ c.in_ok-c.ensures.value,
    )
