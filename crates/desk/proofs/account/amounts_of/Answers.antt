-- Admissible numbers are worked to a line.
use mathlib.Core.Path.{refl}
use Rattle.amounts.proofs.LawLine.{worked_line}
use Rattle.desk.proofs.account.amounts_of.Goals as goal

pub unwrap-requires : goal.unwrap-requires
unwrap-requires c = rw (c.work.ensures, worked_line _ _ _ _ _ _ c.requires) refl
