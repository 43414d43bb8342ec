use mathlib.Core.Path.{sym}
use Rattle.text.proofs.LawFields.{record_broken, record_ended, record_step, record_long}
use Rattle.text.proofs.field.read_record.Goals as goal

pub returns-in_err-field : goal.returns-in_err-field
returns-in_err-field c =
    let l = c.loop-j in
    rw c.from_residual.ensures
    (record_broken c.args.text.now c.args.at c.args.needed c.args.takes.now l.numbers l.next l.j l.invariant c.loop-j-test.true (sym c.in_err-field.ensures))

pub returns-in-Record : goal.returns-in-Record
returns-in-Record c =
    let l = c.loop-j in
    record_ended c.args.text.now c.args.at c.args.needed c.args.takes.now l.numbers l.next l.j l.invariant c.loop-j-test.true _ (sym c.in_ok-field.ensures)
    _ c.requires.asked c.in-Record.is _ _ c.ended.ensures

pub loop-j-preserved : goal.loop-j-preserved
loop-j-preserved c =
    let l = c.loop-j in
    record_step c.args.text.now c.args.at c.args.needed c.args.takes.now l.numbers l.next l.j l.invariant c.loop-j-test.true _ (sym c.in_ok-field.ensures)
    _ c.in-Field.is

pub returns : goal.returns
returns c =
    let l = c.loop-j in
    record_long c.args.text.now c.args.at c.args.needed c.args.takes.now l.numbers l.next l.j l.invariant c.loop-j-test.false
