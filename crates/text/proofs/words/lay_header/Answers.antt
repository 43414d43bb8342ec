-- The words of the header, one after the other.
use Rattle.numerals.proofs.LawPuts.{from_place, nothing, then}
use Rattle.text.specs.Binary.{words_of, header_words}
use Rattle.text.proofs.words.lay_header.Goals as goal

pub returns : goal.returns
unfolding header_words words_of
returns c =
    (then (from_place c.lay_word-at.ensures)
    (then (from_place c.lay_word-at-2.ensures)
    (then (from_place c.lay_word-at-3.ensures)
    (then (from_place c.lay_word-at-4.ensures)
    (then (from_place c.lay_word-at-5.ensures)
    (then (from_place c.lay_word.ensures)
    (nothing _ _))))))).holds
