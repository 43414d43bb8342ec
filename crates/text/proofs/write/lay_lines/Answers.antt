use Prim.Native.Nat.{◌<◌}
use mathlib.Core.Path.{sym, ◌∙◌}
use native.Mathlib.Omega.{arith}
use Rattle.std.proofs.lemmas.Result.{err_from_is_err_and}
use Rattle.headers.specs.Sheet.{line_count}
use Rattle.desk.proofs.LawTable.{lines_few}
use Rattle.text.proofs.LawLinesPut.{written_start, written_done, written_bad, written_step, never, line_is, some_or, none_or}
use Rattle.text.proofs.write.lay_lines.Goals as goal

pub loop-i-init : goal.loop-i-init
loop-i-init c = written_start _ _ _

pub returns-in_default : goal.returns-in_default
returns-in_default c =
    never c.args.sheet.now c.loop-i.i c.requires.0 (omega (arith, c.loop-i-test.true, c.line_count-i-end.ensures.eq))
    (sym c.sheet_line.ensures ∙ c.in_default.is)

pub returns-in_err-next : goal.returns-in_err-next
returns-in_err-next c =
    let inside : c.loop-i.i < line_count c.args.sheet.now = omega (arith, c.loop-i-test.true, c.line_count-i-end.ensures.eq) in
    let same = line_is c.args.sheet.now c.loop-i.i c.requires.0 inside _ (sym c.sheet_line.ensures ∙ c.in-Some.is) in
    let bad = none_or c.lay_line.result _ _ c.in_err-next.ensures.value in
    let err = err_from_is_err_and c.from_residual.result c.from_residual.ensures.1 in
    rw (err.1, err.2, ← bad.1) (written_bad _ _ _ _ _ _ c.loop-i.invariant inside (rw (bad.0, same) at c.lay_line.ensures))

pub loop-i-preserved : goal.loop-i-preserved
loop-i-preserved c =
    let inside : c.loop-i.i < line_count c.args.sheet.now = omega (arith, c.loop-i-test.true, c.line_count-i-end.ensures.eq) in
    let same = line_is c.args.sheet.now c.loop-i.i c.requires.0 inside _ (sym c.sheet_line.ensures ∙ c.in-Some.is) in
    let ends = some_or c.lay_line.result _ _ c.in_ok-next.ensures.value in
    written_step _ _ _ _ _ _ c.loop-i.invariant inside _ _ (rw (ends, same) at c.lay_line.ensures)

pub returns : goal.returns
returns c =
    written_done _ _ _ _ _ _ c.loop-i.invariant (lines_few c.args.sheet.now c.requires.0)
    (omega (arith, c.loop-i-test.false, c.line_count-i-end.ensures.eq))
