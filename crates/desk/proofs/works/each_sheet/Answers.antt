use native.Mathlib.Omega.{arith}
use mathlib.Core.Path.{◌≡◌}
use borrow.Author.Rules.{rules}
use Rattle.bundle.specs.Bundle.{sheet_count}
use Rattle.bundle.proofs.LawBundle.{exact_room_lem, shown_room_lem, outcomes_room, run_inside}
use Rattle.desk.specs.Lent.{contents}
use Rattle.desk.proofs.LawWorks.{first_more}
use Rattle.desk.proofs.works.each_sheet.Goals as goal

pub declare_sheet-outcome-requires : goal.declare_sheet-outcome-requires
declare_sheet-outcome-requires c =
    let before = c.loop-i.invariant in
    let inside = run_inside c.args.bundle.now c.loop-i.i (omega (arith, c.loop-i-test.true, c.sheet_count-i-end.ensures.eq)) in
    record {
      exact_run = omega (arith, inside, exact_room_lem _ _ _ _ c.requires, before.0);
      shown_run = omega (arith, inside, shown_room_lem _ _ _ _ c.requires, before.1);
    }

pub bounds-outcomes-i : goal.bounds-outcomes-i
bounds-outcomes-i c =
    omega (arith, outcomes_room _ _ _ _ c.requires, c.loop-i.invariant.2, c.loop-i-test.true, c.sheet_count-i-end.ensures.eq)

pub loop-i-preserved : goal.loop-i-preserved
loop-i-preserved c =
    let before = c.loop-i.invariant in
    let count = c.sheet_count-i-end.ensures.eq in
    let below = c.loop-i-test.true in
    let inside = run_inside c.args.bundle.now c.loop-i.i (omega (arith, below, count)) in (
      search rules,
      search rules,
      search rules,
      first_more _ _ _ c.loop-i.i before.3 (c.declare_sheet-outcome.ensures (contents c.args.sources) c.right_sources-told.ensures) c.outcome_code.ensures
          (omega (arith, outcomes_room _ _ _ _ c.requires, before.2, below, count))
          (omega (arith, inside, exact_room_lem _ _ _ _ c.requires, before.0))
          (omega (arith, inside, shown_room_lem _ _ _ _ c.requires, before.1))
          (search rules)
          (search rules),
    )

pub returns : goal.returns
returns c =
    let all : c.loop-i.i ≡ sheet_count c.args.bundle.now = omega (arith, c.loop-i-test.false, c.sheet_count-i-end.ensures.eq) in
    rw all at c.loop-i.invariant.3
