use mathlib.Core.Path.{sym, ◌∙◌}
use native.Mathlib.Omega.{arith}
use Rattle.records.proofs.LawField.{field_start, end_here, goes_on, field_last}
use Rattle.records.proofs.field.field_end.Goals as goal

pub loop-i-init : goal.loop-i-init
loop-i-init c = field_start c.args.text.now c.args.at

pub returns-then-ends_field : goal.returns-then-ends_field
returns-then-ends_field c =
    let inside = c.loop-i-test.true in
    let here = end_here c.args.text.now c.loop-i.i c.loop-i.quoted inside (sym c.ends_field.ensures ∙ c.if-ends_field.true) in
    omega (arith, c.loop-i.invariant, here)

pub loop-i-preserved : goal.loop-i-preserved
loop-i-preserved c =
    let inside = c.loop-i-test.true in
    let on = goes_on c.args.text.now c.loop-i.i c.loop-i.quoted inside
    (sym c.ends_field.ensures ∙ c.if-ends_field.false) in
    rw (c.turned-quoted.ensures, c.byte_at.ensures.eq) (omega (arith, c.loop-i.invariant, on))

pub returns : goal.returns
returns c = c.max.ensures ∙ field_last _ _ _ _ c.loop-i.invariant c.loop-i-test.false c.loop-i.auto.i-end
