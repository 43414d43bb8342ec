-- The invariant: the readings so far are laid.
use Rattle.text.proofs.LawWords.{WordsSoFar, bits}
use Rattle.text.proofs.words.lay_readings.Given as goal

abbrev pub invariant-loop-r : goal.invariant-loop-r
invariant-loop-r l = WordsSoFar 8 (bits l.numbers) l.at l.initial.sheet l.sheet l.next l.r
