use Rattle.std.proofs.Common.{◌<◌, ◌≤◌, ◌∙◌, arith, length}
use Rattle.little.proofs.LawPart.{fill_more, fill_done}
use Rattle.little.proofs.cells.clear.Goals as goal

pub loop-i-preserved : goal.loop-i-preserved
loop-i-preserved g c zero alike =
    let h : c.loop-i.i < length c.args.cells.now = omega arith in
    rw (alike _ c.default.ensures, c.loop-i.invariant zero alike) (fill_more zero _ _ h)

pub returns : goal.returns
returns g c zero alike =
    let h : length c.args.cells.now ≤ c.loop-i.i = omega arith in
    c.loop-i.invariant zero alike ∙ fill_done _ _ _ h (omega arith)
