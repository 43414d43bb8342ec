-- "Factors the works measured itself": the search in two books, the works' own and the published one.
use Rattle.std.specs.Prelude.{ℕ, ◌+◌, Bool, cond, List, [], ◌∷◌, ltb, Option, Some, None}
use Rattle.little.specs.Part.{part_of}
use Rattle.little.specs.Read.{byte_range, u16_range}
use Rattle.search.specs.Test.{every}
use Rattle.headers.specs.Book.{book_header, most_rows}
use Rattle.desk.specs.Lent.{Sources}
use Rattle.desk.specs.Book.{row_start, book_ok}
use Rattle.desk.specs.Row.{row_index}
use Rattle.desk.specs.declared.key.Key.{Key}
use Rattle.desk.specs.declared.books.RowPlace.{RowPlace}
use Rattle.desk.specs.declared.books.RowPlace.TheVariants.{InOwn, InPublished}

-- what the own book has stands; else what the published one has does
abbrev pub own_first : (own published : Option ℕ) → Option RowPlace
own_first (Some i) published = Some (InOwn i)
own_first None (Some i) = Some (InPublished i)
own_first None None = None

-- where the row of a key is: in the own book at the exact scale, there at scale 0; in the published one at the exact scale, there at
-- scale 0
unfoldable pub row_place : (own book : List ℕ) (k : Key) → Option RowPlace
row_place own book k = own_first (row_index own k) (row_index book k)

-- ---- the book that answers: row and techniques of a line come from it

abbrev pub book_at : (from : Sources) (place : Option RowPlace) → List ℕ
book_at from (Some (InOwn i)) = from.own
book_at from (Some (InPublished i)) = from.book
book_at from None = from.book

unfoldable pub book_for : (from : Sources) (k : Key) → List ℕ
book_for from k = book_at from (row_place from.own from.book k)

-- ---- for the inspector's screen, from books of any content and by a key of any numbers

-- the five codes are u16, medium and pollutant bytes
unfoldable pub fields_hold : Key → Bool
fields_hold k =
    every
    (ltb k.industry u16_range
    ∷ ltb k.product u16_range
    ∷ ltb k.material u16_range
    ∷ ltb k.process u16_range
    ∷ ltb k.scale u16_range
    ∷ ltb k.medium byte_range
    ∷ ltb k.pollutant byte_range
    ∷ [])

-- a row is looked for where a line could have the key and both books are right
unfoldable pub askable : (own book : List ℕ) (k : Key) → Bool
askable own book k = every (fields_hold k ∷ book_ok own ∷ book_ok book ∷ [])

-- the bytes of row i
abbrev pub bytes_of_row : (b : List ℕ) (i : ℕ) → List ℕ
bytes_of_row b i = part_of b (row_start b i) (book_header b).row_size

abbrev pub bytes_at : (own book : List ℕ) (place : Option RowPlace) → List ℕ
bytes_at own book (Some (InOwn i)) = bytes_of_row own i
bytes_at own book (Some (InPublished i)) = bytes_of_row book i
bytes_at own book None = []

-- the row's bytes, from whichever of the two books answers; none where neither does
unfoldable pub row_bytes : (own book : List ℕ) (k : Key) → List ℕ
row_bytes own book k = cond (askable own book k) (bytes_at own book (row_place own book k)) []

-- rows of the own book count from 1, and behind as many as a book may have those of the published one
abbrev pub number_at : Option RowPlace → ℕ
number_at (Some (InOwn i)) = i + 1
number_at (Some (InPublished i)) = most_rows + (i + 1)
number_at None = 0

-- which row it is; 0 where there is none
unfoldable pub row_number : (own book : List ℕ) (k : Key) → ℕ
row_number own book k = cond (askable own book k) (number_at (row_place own book k)) 0
