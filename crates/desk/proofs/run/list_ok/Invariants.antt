-- The invariant: the list is right exactly where what is left of it from k on is.
use mathlib.Core.Path.{◌≡◌}
use Rattle.desk.specs.Book.{techniques_ok}
use Rattle.desk.proofs.LawRun.{rest_reaches}
use Rattle.desk.proofs.run.list_ok.Given as goal

abbrev pub invariant-loop-k : goal.invariant-loop-k
invariant-loop-k l = rest_reaches l.techniques.block.now l.techniques.size l.k l.end l.before ≡ techniques_ok l.techniques.block.now l.techniques.size l.first l.count
