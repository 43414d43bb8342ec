-- The invariant: what is still to be laid makes what all fields make.
use Rattle.text.proofs.LawPut.{FieldsSoFar}
use Rattle.text.proofs.write.lay_record.Given as goal

abbrev pub invariant-loop-j : goal.invariant-loop-j
invariant-loop-j l = FieldsSoFar l.initial.text l.at l.numbers l.with_places.start l.with_places.end l.text l.next l.j-counter
