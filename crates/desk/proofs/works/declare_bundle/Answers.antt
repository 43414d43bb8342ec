-- Where the bundle is taken each sheet is as alone; else all that is lent is cleared.
use mathlib.Core.Path.{sym, ◌∙◌}
use Rattle.bundle.proofs.LawBundle.{taken_room}
use Rattle.desk.proofs.works.declare_bundle.Goals as goal

pub each_sheet-requires : goal.each_sheet-requires
each_sheet-requires c = taken_room _ _ _ _ (sym c.bundle_outcome.ensures ∙ c.in_default.is)
