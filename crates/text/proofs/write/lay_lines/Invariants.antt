-- The invariant: the records so far are laid, and stand before those of the lines that are left.
use Rattle.text.proofs.LawLinesPut.{WrittenSoFar}
use Rattle.text.proofs.write.lay_lines.Given as goal

abbrev pub invariant-loop-i : goal.invariant-loop-i
invariant-loop-i l = WrittenSoFar l.sheet l.at l.initial.text l.text l.next l.i
