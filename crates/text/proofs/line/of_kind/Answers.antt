-- By cases on the kind.
use Rattle.text.specs.Written.{all_taken}
use Rattle.text.proofs.line.of_kind.Goals as goal

pub returns-in-None : goal.returns-in-None
unfolding all_taken
returns-in-None c = rw c.in-None.is

pub returns-in-Throughout : goal.returns-in-Throughout
unfolding all_taken
returns-in-Throughout c = rw c.in-Throughout.is
