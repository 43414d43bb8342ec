-- Without a point the numeral is whole; with one, what stands before and behind it is read apart. Assumes nothing.
use Prim.Native.Nat.{◌+◌}
use mathlib.Core.Path.{sym, ap, ap₂, ◌∙◌}
use native.Mathlib.Nat.{le_of_lt, le_of_eq}
use native.Mathlib.Omega.{arith}
use lib.ListN.{drop, length-drop}
use lib.Seq.{length-take-le, take_all}
use Rattle.numerals.specs.Typed.{joined, places_in}
use Rattle.numerals.proofs.LawTyped.{number_most}
use Rattle.numerals.proofs.LawDecimal.{none_most, point_below, places_most, decimal_whole, decimal_parts}
use Rattle.numerals.proofs.typed.decimal_in.Goals as goal

pub join-requires : goal.join-requires
join-requires c = (λ n e. number_most _ _ _ _ (sym c.number_in.ensures ∙ e), none_most _)

pub slice_bounds-number_in-end : goal.slice_bounds-number_in-end
slice_bounds-number_in-end c = sym (length-take-le _ _ (le_of_lt (point_below _ _ (sym c.point_in.ensures ∙ c.in-Some.is))))

pub overflow_add-i : goal.overflow_add-i
overflow_add-i c = omega (arith, point_below _ _ (sym c.point_in.ensures ∙ c.in-Some.is))

pub slice_bounds-places_in-count : goal.slice_bounds-places_in-count
slice_bounds-places_in-count c = omega (arith, point_below _ _ (sym c.point_in.ensures ∙ c.in-Some.is))

pub slice_bounds-places_in-start : goal.slice_bounds-places_in-start
slice_bounds-places_in-start c = omega (arith, point_below _ _ (sym c.point_in.ensures ∙ c.in-Some.is))

pub join-requires-in-Some : goal.join-requires-in-Some
join-requires-in-Some c = (λ n e. number_most _ _ _ _ (sym c.number_in-whole.ensures ∙ e), λ n e. places_most _ _ (sym c.places_in.ensures ∙ e))

pub returns-in-None : goal.returns-in-None
returns-in-None c = c.join.ensures ∙ rw c.number_in.ensures (sym (decimal_whole _ (sym c.point_in.ensures ∙ c.in-None.is)))

pub returns-in-Some : goal.returns-in-Some
returns-in-Some c =
    let bytes = c.args.bytes.now in
    let behind = c.in-Some.i + 1 in
    let rest = take_all _ (drop behind bytes) (le_of_eq (length-drop behind bytes)) in
    let at = sym c.point_in.ensures ∙ c.in-Some.is in
    c.join-in-Some.ensures ∙ ap₂ joined c.number_in-whole.ensures (c.places_in.ensures ∙ ap places_in rest) ∙ sym (decimal_parts _ _ at)
