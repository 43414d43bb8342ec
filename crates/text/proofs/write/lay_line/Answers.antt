-- The readings are taken, and the record has the line's numbers and these.
use mathlib.Core.Path.{sym}
use native.Mathlib.Omega.{arith}
use Rattle.text.proofs.LawTexts.{used_most, line_put}
use Rattle.text.proofs.write.lay_line.Goals as goal

pub overflow_add-used : goal.overflow_add-used
overflow_add-used c = omega (arith, used_most c.args.line _ (sym c.in_ok-readings.ensures))

pub returns : goal.returns
returns c = line_put c.args.line _ _ _ _ _ (sym c.in_ok-readings.ensures) (rw c.kind_number.ensures at c.lay_record.ensures)
