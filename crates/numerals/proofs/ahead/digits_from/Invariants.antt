-- The invariant: what is left is read behind the number so far. Each way out is the law of its case. Assumes nothing.
use Rattle.numerals.proofs.LawAhead.{DigitsSoFar}
use Rattle.numerals.proofs.ahead.digits_from.Given as goal

abbrev pub invariant-loop-i : goal.invariant-loop-i
invariant-loop-i l = DigitsSoFar l.text l.at l.value l.i
