-- Every cell of both results is cleared, from the first one on.
use Rattle.text.proofs.declare.no_sheet.Goals as goal

pub returns : goal.returns
returns c = record {
  answer = c.sources_first.ensures;
  exact_zero = c.clear.ensures 0 (λ x e. e);
  shown_zero = c.clear-2.ensures 0 (λ x e. e);
}
