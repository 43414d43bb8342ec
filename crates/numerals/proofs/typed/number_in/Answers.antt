use mathlib.Core.Path.{sym, ◌∙◌}
use native.Mathlib.Omega.{arith}
use Rattle.numerals.proofs.LawTyped.{onward_digit, onward_other, onward_over, onward_done, size_other, size_right}
use Rattle.numerals.proofs.typed.number_in.Goals as goal

pub returns-then-bytes-digits : goal.returns-then-bytes-digits
returns-then-bytes-digits c = sym (size_other _ _ _ c.if-bytes-digits.true)

pub loop-byte-init : goal.loop-byte-init
loop-byte-init c = (omega arith, sym (size_right _ _ _ c.if-bytes-digits.false))

pub returns-then-not-is_digit : goal.returns-then-not-is_digit
returns-then-not-is_digit c =
    let other = sym c.is_digit.ensures ∙ c.if-not-is_digit.true in
    sym (onward_other _ _ _ _ c.loop-byte-test.true other) ∙ c.loop-byte.invariant.1

pub returns-then-most-value : goal.returns-then-most-value
returns-then-most-value c = sym (onward_over _ _ _ _ c.loop-byte-test.true (omega arith)) ∙ c.loop-byte.invariant.1

pub returns-then-most-value-2 : goal.returns-then-most-value-2
returns-then-most-value-2 c = sym (onward_over _ _ _ _ c.loop-byte-test.true (omega arith)) ∙ c.loop-byte.invariant.1

pub loop-byte-preserved : goal.loop-byte-preserved
loop-byte-preserved c =
    let right = sym c.is_digit.ensures ∙ c.if-not-is_digit.false in
    (omega arith, sym (onward_digit _ _ _ _ c.loop-byte-test.true right) ∙ c.loop-byte.invariant.1)

pub returns : goal.returns
returns c = sym (onward_done _ _ c.loop-byte.byte-index _ (omega arith) c.loop-byte.invariant.0) ∙ c.loop-byte.invariant.1
