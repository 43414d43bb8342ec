-- The kind, a zero byte and the two amounts.
use Rattle.text.specs.Binary.{words_of, line_words}
use Rattle.text.specs.Inner.{amount_bytes}
use Rattle.numerals.proofs.LawPuts.{from_place, nothing, then}
use Rattle.text.proofs.words.lay_amounts.Goals as goal

pub returns : goal.returns
unfolding amount_bytes words_of line_words
returns c =
    then (from_place c.lay_word-next.ensures)
    (then (from_place c.lay_word-next-2.ensures)
    (then (from_place c.lay_word-next-3.ensures)
    (then (from_place c.lay_word-next-4.ensures)
    (nothing _ _))))
