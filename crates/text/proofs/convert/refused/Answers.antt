-- Every lent byte is cleared, from the first one on.
use mathlib.Core.Path.{refl}
use Rattle.text.proofs.convert.refused.Goals as goal

pub returns : goal.returns
returns c = record { answer = refl; zero = c.clear.ensures 0 (λ x e. e) }
