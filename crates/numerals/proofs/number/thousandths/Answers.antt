-- The whole part is laid, and four bytes more behind it. Assumes nothing.
use Rattle.numerals.specs.Numeral.{decimal_numeral}
use Rattle.numerals.proofs.LawLaid.{four_more}
use Rattle.numerals.proofs.number.thousandths.Goals as goal

pub returns : goal.returns
unfolding decimal_numeral
returns c =
    rw (← c.last_digit-3.ensures, ← c.last_digit-2.ensures, ← c.last_digit.ensures)
    (four_more _ _ _ _ c.decimal-whole.ensures c.lay_one.ensures c.lay_one-2.ensures c.lay_one-3.ensures c.lay_one-4.ensures)
