use Rattle.std.proofs.Common.{rules}
use Rattle.desk.specs.Inner.{code_below}
use Rattle.desk.proofs.LawTechnique.{codes_fall}
use Rattle.desk.proofs.technique.codes_below.Goals as goal

pub returns : goal.returns
unfolding code_below
returns c = c.passing.ensures _ (codes_fall _ _ _ _ c.requires.2) (λ i r l e. search rules)
