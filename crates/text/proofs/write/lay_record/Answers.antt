use mathlib.Core.Path.{◌∙◌}
use Rattle.text.proofs.LawPut.{in_range, fields_done, fields_step}
use Rattle.text.proofs.write.lay_record.Goals as goal

pub loop-j-preserved : goal.loop-j-preserved
loop-j-preserved c =
    let r = c.args.with_places in
    let places = c.contains.ensures.value ∙ in_range r.start r.end c.loop-j.j-counter in
    fields_step _ _ _ _ _ _ _ _ c.loop-j.invariant c.loop-j-test.true _ _ (rw places at c.lay_field-next.ensures) _ _ c.lay_separator-next.ensures

pub returns : goal.returns
returns c = fields_done _ _ _ _ _ _ _ _ c.loop-j.invariant c.loop-j-test.false
