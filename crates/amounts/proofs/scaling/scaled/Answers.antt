-- The two tests of the code are the two of the definition, each told to it as a fact. Assumes nothing.
use Rattle.std.proofs.Common.{arith, le-ltb, lt-ltb, le-leb}
use borrow.Author.Tests.{lt-leb}
use Rattle.amounts.proofs.scaling.scaled.Goals as goal

pub returns-then-d-n : goal.returns-then-d-n
returns-then-d-n c = simp (lt-leb _ _ c.if-d-n.true)

pub returns-then-d-eq0 : goal.returns-then-d-eq0
returns-then-d-eq0 c = simp (le-leb _ _ c.if-d-n.false, le-ltb 0 c.args.d (omega arith))

pub returns : goal.returns
returns c =
    simp (le-leb _ _ c.if-d-n.false, lt-ltb 0 c.args.d (omega arith), c.share.ensures)
