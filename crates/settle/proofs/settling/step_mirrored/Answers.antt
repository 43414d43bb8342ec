-- What was found is the definition's round, which is closed; moved, it makes the definition's step.
use mathlib.Core.Path.{◌∙◌}
use Rattle.settle.proofs.LawStepMirrored.{bounds_of, start_of, round_at, moves_at}
use Rattle.settle.proofs.settling.step_mirrored.Goals as goal

pub round_from-us-requires : goal.round_from-us-requires
round_from-us-requires c = start_of c.requires

pub move_round-requires : goal.move_round-requires
move_round-requires c =
    record { bounds = bounds_of c.requires.table; closed = round_at c.requires c.round_from-us.ensures }

pub returns : goal.returns
returns c =
    c.move_round.ensures ∙ moves_at c.requires c.round_from-us.ensures c.marked_cell-mark.ensures
