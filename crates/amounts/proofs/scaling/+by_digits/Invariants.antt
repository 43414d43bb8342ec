-- `by_digits` calls itself on x without its last k digits, so x falls.
use Rattle.amounts.proofs.scaling.+by_digits.Given as goal

abbrev pub decreases-by_digits : goal.decreases-by_digits
decreases-by_digits l = l.x
