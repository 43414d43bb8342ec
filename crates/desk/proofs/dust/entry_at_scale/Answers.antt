use Prim.Native.Nat.{◌+◌, ◌-◌, ◌/◌}
use mathlib.Core.Path.{sym, ◌∙◌}
use native.Mathlib.Omega.{arith}
use Rattle.search.proofs.LawFirst.{first_start, first_rest}
use Rattle.desk.proofs.LawBook.{right_entry_in}
use Rattle.desk.proofs.LawOrder.{at_scale_stands, entries_passed, entry_here, entries_past}
use Rattle.desk.proofs.dust.entry_at_scale.Goals as goal

pub loop-low-init : goal.loop-low-init
loop-low-init c =
    let entries = c.entry_count-high.ensures in
    (omega arith, omega (arith, entries.eq), entries.small, first_start _, λ j l m. absurd (omega (arith, entries.eq)))

pub codes_order-requires : goal.codes_order-requires
codes_order-requires c =
    let l = c.loop-low in
    let inside = right_entry_in _ c.args.table.right (l.low + (l.high - l.low) / 2) (omega arith) in
    omega (arith, inside, c.entry_offset-from.ensures.eq)

pub loop-low-preserved-in-Less : goal.loop-low-preserved-in-Less
loop-low-preserved-in-Less c =
    let l = c.loop-low in
    let m = l.low + (l.high - l.low) / 2 in
    let start = c.entry_offset-from.ensures.eq in
    let stands = at_scale_stands _ m _ _ c.requires start (sym c.codes_order.ensures ∙ c.in-Less.is) in
    (omega arith, l.invariant.1, l.invariant.2, entries_passed _ c.args.table.right _ m (omega arith) stands, l.invariant.4)

pub returns-in-Equal : goal.returns-in-Equal
returns-in-Equal c =
    let l = c.loop-low in
    let m = l.low + (l.high - l.low) / 2 in
    let start = c.entry_offset-from.ensures.eq in
    let stands = at_scale_stands _ m _ _ c.requires start (sym c.codes_order.ensures ∙ c.in-Equal.is) in
    record { eq = entry_here _ c.args.table.right _ m (omega arith) stands; below = omega arith }

pub loop-low-preserved : goal.loop-low-preserved
loop-low-preserved c =
    let l = c.loop-low in
    let m = l.low + (l.high - l.low) / 2 in
    let start = c.entry_offset-from.ensures.eq in
    let stands = at_scale_stands _ m _ _ c.requires start (sym c.codes_order.ensures ∙ c.in-Greater.is) in
    (omega arith, omega arith, omega arith, l.invariant.3, entries_past _ c.args.table.right _ m (omega arith) stands)

pub returns : goal.returns
returns c =
    let l = c.loop-low in
    record { eq = sym (first_rest _ l.low _ l.invariant.3 (omega arith) (λ j h m. l.invariant.4 j (omega arith) m)); below = tt }
