-- The technique at the cut has the code, or none has.
use mathlib.Core.Path.{sym, ◌∙◌}
use native.Mathlib.Omega.{arith}
use borrow.Author.Tests.{eq-eqb, ne_eqb}
use Rattle.search.proofs.LawCut.{cut_here, cut_other, cut_none}
use Rattle.desk.specs.Technique.{technique_has, technique_index}
use Rattle.desk.proofs.LawTechnique.{below_other, past_other}
use Rattle.desk.proofs.technique.technique_index.Goals as goal
use Rattle.desk.proofs.technique.technique_index.Goals.{else-j-count-via-then-j-count+else-code_in-code, else-j-count-via-else-j-count}

pub returns-then-code_in-code : goal.returns-then-code_in-code
unfolding technique_index technique_has
returns-then-code_in-code c =
    let cut = c.codes_below-j.ensures in
    let here = sym c.code_in.ensures.eq ∙ c.if-code_in-code.true in
    record { eq = cut_here cut _ (below_other _ _ _) c.if-j-count.true (eq-eqb _ _ here); below = omega arith }

pub returns : goal.returns
unfolding technique_index technique_has
returns c =
    let cut = c.codes_below-j.ensures in
    elim c.else-j-count.branch [
      | else-j-count-via-then-j-count+else-code_in-code w ↦
          let other = ne_eqb _ _ (λ e. w.if-code_in-code.false (w.code_in.ensures.eq ∙ e)) in
          let past = past_other _ _ _ _ c.requires.2 _ (cut.above _ (omega arith) w.if-j-count.true) in
          record { eq = cut_other cut _ (below_other _ _ _) other past; below = tt }
      | else-j-count-via-else-j-count w ↦ record { eq = cut_none cut _ (below_other _ _ _) w.if-j-count.false; below = tt }
    ]
