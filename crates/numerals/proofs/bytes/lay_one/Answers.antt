-- The store is made where the place is within the text; past it there is nothing to change. Assumes nothing.
use native.Mathlib.Omega.{arith}
use Rattle.numerals.proofs.LawLaid.{laid_one, laid_past}
use Rattle.numerals.proofs.bytes.lay_one.Goals as goal

pub returns-then-i-text : goal.returns-then-i-text
returns-then-i-text c = laid_one _ _ _

pub returns-else-i-text : goal.returns-else-i-text
returns-else-i-text c = laid_past _ _ _ (omega arith)

pub returns-else-at-text : goal.returns-else-at-text
returns-else-at-text c = laid_past _ _ _ (omega arith)
