-- Where the header is right there are few enough techniques for the table of runs.
use mathlib.Core.Path.{sym, ◌∙◌}
use native.Mathlib.Omega.{arith}
use Rattle.desk.specs.Book.{book_ok}
use Rattle.desk.proofs.LawBook.{header_alone, header_lies}
use Rattle.desk.proofs.book.book_ok.Goals as goal

pub checked-requires : goal.checked-requires
checked-requires c =
    let header = sym c.book_header_ok.ensures ∙ c.if-not-book_header_ok.false in
    (header, omega (arith, header_lies _ header))

pub returns-then-not-book_header_ok : goal.returns-then-not-book_header_ok
unfolding book_ok
returns-then-not-book_header_ok c = rw (← c.book_header_ok.ensures, c.if-not-book_header_ok.true)

pub returns-then-row_count-eq0 : goal.returns-then-row_count-eq0
returns-then-row_count-eq0 c = sym (header_alone _ (sym c.book_header_ok.ensures ∙ c.if-not-book_header_ok.false) (sym c.row_count.ensures.eq ∙ c.if-row_count-eq0.true))

pub returns : goal.returns
unfolding book_ok
returns c = rw (← c.book_header_ok.ensures, c.if-not-book_header_ok.false) c.checked.ensures
