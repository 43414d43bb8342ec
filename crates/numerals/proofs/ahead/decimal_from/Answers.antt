-- With a point behind the digits, or without one. Assumes nothing.
use mathlib.Core.Path.{sym, ◌∙◌}
use native.Mathlib.Omega.{arith}
use Rattle.numerals.specs.Typed.{whole_digits, most_whole}
use Rattle.numerals.proofs.LawDecimal.{none_most}
use Rattle.numerals.proofs.LawAhead.{front_after, of_few, inside, decimal_plain, decimal_pointed}
use Rattle.numerals.proofs.ahead.decimal_from.Goals as goal

pub overflow_sub-end : goal.overflow_sub-end
overflow_sub-end c = front_after _ _ _ c.digits_from-front.ensures

pub overflow_add-end : goal.overflow_add-end
overflow_add-end c =
    let digits_from = c.digits_from-front in
    let byte_at = c.byte_at in
    omega (arith, inside c.args.text.now c.args.at digits_from.result digits_from.ensures (sym byte_at.ensures.eq ∙ c.if-byte_at.true))

pub with_places-requires : goal.with_places-requires
with_places-requires c = λ n e. (of_few whole_digits most_whole _ _ n (sym c.number_of-whole.ensures ∙ e)).2

pub returns-then-byte_at : goal.returns-then-byte_at
returns-then-byte_at c =
    c.with_places.ensures ∙ rw c.number_of-whole.ensures (decimal_pointed _ _ _ c.digits_from-front.ensures (sym c.byte_at.ensures.eq ∙ c.if-byte_at.true))

pub join-requires : goal.join-requires
join-requires c = (λ n e. (of_few whole_digits most_whole _ _ n (sym c.number_of-whole.ensures ∙ e)).2, none_most _)

pub returns : goal.returns
returns c =
    let digits_from = c.digits_from-front in
    let number_of_lem = c.number_of-whole in
    let byte_at = c.byte_at in
    let if1 = c.if-byte_at in
    let join = c.join in
    c.ending_at.ensures ∙ rw (join.ensures, number_of_lem.ensures) (decimal_plain _ _ _ digits_from.ensures (λ e. if1.false (byte_at.ensures.eq ∙ e)))
