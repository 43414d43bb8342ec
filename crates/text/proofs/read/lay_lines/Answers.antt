use mathlib.Core.Path.{refl}
use native.Mathlib.Omega.{arith}
use Rattle.text.specs.Typed.{line_fields, needed_fields}
use Rattle.text.proofs.LawLines.{lines_start, lines_done, lines_broken, lines_step, lines_end}
use Rattle.text.proofs.LawMade.{numbers_size}
use Rattle.text.proofs.read.lay_lines.Goals as goal

pub loop-line-init : goal.loop-line-init
loop-line-init c = (refl, lines_start _ _ _)

pub returns-then-text-next : goal.returns-then-text-next
returns-then-text-next c = lines_done _ _ _ _ _ _ c.loop-line.invariant.1 c.if-text-next.true

pub read_record-requires : goal.read_record-requires
read_record-requires c = record { same = c.loop-line.invariant.0; asked = omega arith }

pub returns-in_err-next : goal.returns-in_err-next
returns-in_err-next c =
    rw c.from_residual.ensures (lines_broken _ _ _ _ _ _ c.loop-line.invariant.1 c.if-text-next.false c.in_err-next.ensures)

pub loop-line-preserved : goal.loop-line-preserved
loop-line-preserved c = (
  numbers_size needed_fields line_fields _ _ c.in_ok-next.ensures.0,
  lines_step _ _ _ _ _ _ c.loop-line.invariant.1 c.if-text-next.false (λ e. omega (arith, e, c.loop-line-test.true)) _ _ _ c.in_ok-next.ensures.0 c.in_ok-next.ensures.1 c.lay_line.ensures,
)

pub returns : goal.returns
returns c =
    rw c.then_some.ensures (lines_end _ _ _ _ _ _ c.loop-line.invariant.1 (omega (arith, c.loop-line-test.false, c.loop-line.auto.line-end)))
