-- The test's value decides the definition's case, and where it is true it gives the ranges that `apportion` asks for. Assumes nothing.
use Rattle.std.proofs.Common.{Some, sym, ap, ◌∙◌}
use Rattle.amounts.proofs.LawLine.{admitted}
use Rattle.amounts.proofs.line.work.Goals as goal

pub apportion-requires : goal.apportion-requires
apportion-requires c = admitted _ _ _ _ (sym c.takes.ensures ∙ c.if-takes.true)

pub returns-then-takes : goal.returns-then-takes
returns-then-takes c = rw (sym c.takes.ensures ∙ c.if-takes.true) (ap Some c.apportion.ensures)

pub returns-else-takes : goal.returns-else-takes
returns-else-takes c = rw (sym c.takes.ensures ∙ c.if-takes.false)
