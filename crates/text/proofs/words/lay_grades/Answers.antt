-- The grades and the zero bytes.
use Rattle.text.specs.Binary.{words_of, line_words}
use Rattle.text.specs.Inner.{grade_bytes}
use Rattle.numerals.proofs.LawPuts.{from_place, nothing, then}
use Rattle.text.proofs.words.lay_grades.Goals as goal

pub returns : goal.returns
unfolding grade_bytes words_of line_words
returns c =
    then (from_place c.one_byte-next.ensures)
    (then (from_place c.one_byte-next-2.ensures)
    (then (from_place c.one_byte-next-3.ensures)
    (then (from_place c.one_byte-next-4.ensures)
    (then (from_place c.four_bytes-next.ensures)
    (nothing _ _)))))
