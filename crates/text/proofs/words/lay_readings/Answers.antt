-- The three readings, one after the other.
use Rattle.text.proofs.LawWords.{bits, words_start, readings_step, readings_done}
use Rattle.text.proofs.words.lay_readings.Goals as goal

pub loop-r-init : goal.loop-r-init
loop-r-init c = words_start 8 (bits c.args.numbers.now) _ _

pub loop-r-preserved : goal.loop-r-preserved
loop-r-preserved c =
    readings_step c.args.numbers.now _ _ _ _ _ c.loop-r.invariant c.loop-r-test.true _ _ (rw c.reading_bits.ensures at c.lay_word-next.ensures)

pub returns : goal.returns
returns c = readings_done c.args.numbers.now _ _ _ _ _ c.loop-r.invariant c.loop-r-test.false c.loop-r.auto.r-end
