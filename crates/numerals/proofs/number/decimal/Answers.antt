-- 0 is one digit; of any other number the digits are written out first, and those that stand are laid. Assumes nothing.
use Rattle.numerals.proofs.LawNumeral.{zero_numeral, some_numeral}
use Rattle.numerals.proofs.number.decimal.Goals as goal

pub returns-then-n-eq0 : goal.returns-then-n-eq0
returns-then-n-eq0 c = zero_numeral _ _ _ _ _ c.if-n-eq0.true c.lay.ensures

pub returns : goal.returns
returns c =
    let if1 = c.if-n-eq0 in
    let digits = c.digits-from in
    let lay-each = c.lay_each in
    some_numeral _ _ _ _ _ if1.false _ _ digits.ensures lay-each.ensures
