use mathlib.Core.Path.{sym, ◌∙◌}
use native.Mathlib.Omega.{arith}
use Rattle.desk.proofs.LawBook.{good_row_in}
use Rattle.desk.proofs.LawOrder.{passed, here, ended}
use Rattle.desk.proofs.row.index_of.Goals as goal

pub of-row-requires : goal.of-row-requires
of-row-requires c =
    let below = rw c.row_count-rows.ensures.eq at c.loop-i-test.true in
    rw c.row_offset-from.ensures.eq (good_row_in _ c.args.book.right _ below)

pub loop-i-preserved : goal.loop-i-preserved
loop-i-preserved c =
    let below = rw c.row_count-rows.ensures.eq at c.loop-i-test.true in
    let stands = rw (c.of-row.ensures.0, c.of-row.ensures.1, c.row_offset-from.ensures.eq) at (sym c.order.ensures ∙ c.in-Less.is) in
    record { within = omega arith; none = passed _ c.args.book.right _ _ below stands }

pub returns-in-Equal : goal.returns-in-Equal
returns-in-Equal c =
    let below = rw c.row_count-rows.ensures.eq at c.loop-i-test.true in
    let stands = rw (c.of-row.ensures.0, c.of-row.ensures.1, c.row_offset-from.ensures.eq) at (sym c.order.ensures ∙ c.in-Equal.is) in
    record { eq = here _ c.args.book.right _ _ below stands; below = omega arith }

pub returns-in-Greater : goal.returns-in-Greater
returns-in-Greater c =
    let below = rw c.row_count-rows.ensures.eq at c.loop-i-test.true in
    let stands = rw (c.of-row.ensures.0, c.of-row.ensures.1, c.row_offset-from.ensures.eq) at (sym c.order.ensures ∙ c.in-Greater.is) in
    record { eq = ended _ c.args.book.right _ _ below c.loop-i.invariant.none stands; below = tt }
