-- The steps of the mirror of a copy, mirrored back, are the steps of the table.
use Rattle.settle.proofs.LawSteps.{mirror_table, stepped_bounded, stepped_back}
use Rattle.settle.proofs.step_in.Goals as goal

pub settle-steps-requires : goal.settle-steps-requires
settle-steps-requires c =
    mirror_table c.requires.good c.copy.ensures c.mirror.ensures

pub mirror-requires-2 : goal.mirror-requires-2
mirror-requires-2 c =
    stepped_bounded c.requires.good c.copy.ensures c.mirror.ensures c.settle-steps.ensures

pub returns : goal.returns
returns c =
    stepped_back c.requires.good c.copy.ensures c.mirror.ensures c.settle-steps.ensures c.mirror-2.ensures
