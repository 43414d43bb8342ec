-- The sheet was laid, and has room or not; or there is none.
use mathlib.Core.Path.{refl}
use native.Mathlib.Omega.{arith}
use borrow.Author.Rules.{rules}
use Rattle.text.specs.Read.{sheet_of_text}
use Rattle.text.proofs.LawConvert.{all_laid, all_cleared}
use Rattle.text.proofs.LawBinary.{binary_size}
use Rattle.text.proofs.read.sheet_from_text.Goals as goal

pub returns-in-Some : goal.returns-in-Some
unfolding sheet_of_text
returns-in-Some c =
    let found = rw c.in-Some.is at c.lay_sheet.ensures in
    let size = binary_size found.typed in
    all_laid _ _ _ _ _ _ _ (rw found.is refl) found.holds (omega (arith, size, found.count)) c.finished.ensures

pub returns-in-None : goal.returns-in-None
unfolding sheet_of_text
returns-in-None c =
    all_cleared _ _ _ _ _ _ (rw (rw c.in-None.is at c.lay_sheet.ensures) refl) (search rules)
    c.refused.ensures
