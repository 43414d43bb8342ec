-- By the technique.
use borrow.Author.Tests.{eq-eqb}
use Rattle.text.specs.Written.{all_taken}
use Rattle.text.proofs.line.used_by.Goals as goal

pub returns-then-technique-eq0 : goal.returns-then-technique-eq0
unfolding all_taken
returns-then-technique-eq0 c = rw (eq-eqb c.args.technique 0 c.if-technique-eq0.true)
