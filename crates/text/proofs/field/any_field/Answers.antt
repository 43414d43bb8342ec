-- The bytes of the field are its record's first field.
use native.Mathlib.Omega.{arith}
use Rattle.records.proofs.LawField.{field_start}
use Rattle.text.proofs.LawField.{number_there, read_broken, read_number}
use Rattle.text.proofs.field.any_field.Goals as goal

pub overflow_sub-end : goal.overflow_sub-end
overflow_sub-end c = omega (arith, c.field_end-end.ensures, field_start c.args.text.now c.args.at)

pub returns-in_err-number : goal.returns-in_err-number
returns-in_err-number c =
    rw c.from_residual.ensures
    (read_broken c.args.text.now c.args.at c.args.takes
    (number_there c.args.text.now c.args.at c.args.takes c.field_end-end.ensures c.part.ensures c.in_err-number.ensures))

pub returns : goal.returns
returns c =
    read_number c.args.text.now c.args.at c.args.takes
    (number_there c.args.text.now c.args.at c.args.takes c.field_end-end.ensures c.part.ensures c.in_ok-number.ensures) c.what_follows.ensures
    c.field_end-end.ensures
