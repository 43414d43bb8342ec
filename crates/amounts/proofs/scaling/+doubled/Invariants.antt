-- `doubled` calls itself on half of x, so x falls.
use Rattle.amounts.proofs.scaling.+doubled.Given as goal

abbrev pub decreases-doubled : goal.decreases-doubled
decreases-doubled l = l.x
