-- The invariant: the numbers so far stand before those of the rest of the record.
use Rattle.text.proofs.LawFields.{SoFar}
use Rattle.text.proofs.field.read_record.Given as goal

abbrev pub invariant-loop-j : goal.invariant-loop-j
invariant-loop-j l = SoFar l.text l.at l.needed l.takes l.numbers l.next l.j
