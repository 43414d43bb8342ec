-- The invariant: the codes so far are laid.
use Rattle.text.proofs.LawWords.{WordsSoFar}
use Rattle.text.proofs.words.lay_codes.Given as goal

abbrev pub invariant-loop-code : goal.invariant-loop-code
invariant-loop-code l = WordsSoFar 2 l.code-items l.at l.initial.sheet l.sheet l.next l.code-index
