-- The table is good and there is room for it, so that it is settled.
use mathlib.Core.Path.{refl}
use native.Mathlib.Omega.{arith}
use Rattle.settle.proofs.LawAnswer.{showing}
use Rattle.desk.proofs.LawDeclare.{settled_cells}
use Rattle.desk.proofs.declare.show.Goals as goal

pub unwrap-requires : goal.unwrap-requires
unwrap-requires c = rw (showing c.requires.good (omega arith) c.show.ensures).is refl

pub returns : goal.returns
returns c =
    settled_cells _ c.requires.good (omega arith) c.requires.shown_room c.show.ensures
