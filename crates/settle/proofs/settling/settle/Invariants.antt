-- The steps taken and the steps left lead where all steps lead, and i is the first loose cell of where they have led so far; where nothing is
-- loose, the steps that are left change nothing.
use mathlib.Core.Path.{◌≡◌}
use Rattle.settle.specs.Step.{first_loose}
use Rattle.settle.proofs.LawStepMirrored.{Settling}
use Rattle.settle.proofs.settling.settle.Given as goal

abbrev pub invariant-loop-steps : goal.invariant-loop-steps
invariant-loop-steps l =
    record {
      settling : Settling l.grid l.times l.initial.t l.t l.steps;
      first : l.i ≡ first_loose l.grid.unit l.t;
    }
