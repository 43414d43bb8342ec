-- The invariant: none of the rows before i has the key.
use Rattle.desk.specs.Inner.{at_scale, Passed}
use Rattle.desk.proofs.row.index_of.Given as goal

abbrev pub invariant-loop-i : goal.invariant-loop-i
invariant-loop-i l = Passed l.book.bytes.now (at_scale l.k l.scale) l.i
