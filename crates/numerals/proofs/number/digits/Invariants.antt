-- The invariant: the digits of what is left, and then those that stand, are the number's. Each turn is the law of a turn. Assumes nothing.
use Rattle.std.proofs.Common.{◌≡◌, ◌++◌, drop}
use Rattle.numerals.specs.Numeral.{most_digits, significant}
use Rattle.numerals.proofs.number.digits.Given as goal

abbrev pub invariant-loop-i : goal.invariant-loop-i
invariant-loop-i l = significant l.i l.rest ++ drop l.i l.tail ≡ significant most_digits l.n
