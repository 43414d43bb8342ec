-- A turn by its law, while something of the number is left; where nothing is, or no place, the digits that stand are the number's.
use Rattle.std.proofs.Common.{◌+◌, ◌-◌, ◌≡◌, sym, ◌∙◌, arith}
use Rattle.numerals.specs.Numeral.{significant}
use Rattle.numerals.proofs.LawNumeral.{digits_start, digits_step, nothing_left}
use Rattle.numerals.proofs.number.digits.Goals as goal

pub loop-i-init : goal.loop-i-init
loop-i-init c = digits_start c.args.n c.args.tail.now c.requires

pub loop-i-preserved : goal.loop-i-preserved
loop-i-preserved c =
    let some : c.loop-i.rest ≡ 0 → ⊥ = λ none. omega arith in
    rw c.last_digit.ensures (digits_step _ _ _ c.loop-i-test.true some (omega arith) ∙ c.loop-i.invariant)

pub returns-then-all_written : goal.returns-then-all_written
returns-then-all_written c =
    let none : c.loop-i.rest ≡ 0 = omega arith in
    let here : c.loop-i.i - 1 + 1 ≡ c.loop-i.i = omega arith in
    rw here (record { within = omega arith; size = omega arith; ends = sym (nothing_left _ _ _ none) ∙ c.loop-i.invariant })

pub returns : goal.returns
unfolding significant
returns c =
    let first : c.loop-i.i ≡ 0 = omega arith in
    record { within = omega arith; size = omega arith; ends = rw first at c.loop-i.invariant }
