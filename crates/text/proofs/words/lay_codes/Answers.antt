-- The seven codes, one after the other.
use lib.ListN.{take}
use Rattle.text.proofs.LawWords.{words_start, words_step, codes_done}
use Rattle.text.proofs.words.lay_codes.Goals as goal

pub loop-code-init : goal.loop-code-init
loop-code-init c = words_start 2 (take 7 c.args.numbers.now) _ _

pub loop-code-preserved : goal.loop-code-preserved
loop-code-preserved c = words_step 2 (take 7 c.args.numbers.now) _ _ _ _ _ c.loop-code.invariant c.loop-code-test.true _ _ c.lay_word-next.ensures

pub returns : goal.returns
returns c = codes_done c.args.numbers.now c.told-numbers _ _ _ _ _ c.loop-code.invariant c.loop-code-test.false c.loop-code.auto.code-index-end
