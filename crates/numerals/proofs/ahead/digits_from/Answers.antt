use mathlib.Core.Path.{sym, ◌∙◌}
use native.Mathlib.Omega.{arith}
use Rattle.numerals.proofs.LawAhead.{digits_past, digits_end, digits_other, digits_large, digits_more}
use Rattle.numerals.proofs.ahead.digits_from.Goals as goal

pub returns-then-not-is_digit : goal.returns-then-not-is_digit
returns-then-not-is_digit c = digits_other _ _ _ _ c.loop-i.invariant c.loop-i-test.true (sym c.is_digit.ensures ∙ c.if-not-is_digit.true)

pub returns-then-value-gt-MOST_BEFORE : goal.returns-then-value-gt-MOST_BEFORE
returns-then-value-gt-MOST_BEFORE c = digits_large _ _ _ _ c.loop-i.invariant c.loop-i-test.true (omega (arith, c.if-value-gt-MOST_BEFORE.true))

pub loop-i-preserved : goal.loop-i-preserved
loop-i-preserved c = digits_more _ _ _ _ c.loop-i.invariant c.loop-i-test.true (sym c.is_digit.ensures ∙ c.if-not-is_digit.false) (omega arith)

pub returns : goal.returns
returns c =
    let past = c.loop-i-test.false in
    rw (c.max.ensures, digits_end _ _ _ _ c.loop-i.invariant past c.loop-i.auto.i-end) (digits_past _ _ _ _ c.loop-i.invariant past)
