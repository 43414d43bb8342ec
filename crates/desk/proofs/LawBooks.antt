-- What the search in two books finds, and that the book which answers is right where both are.
use Prim.Native.Nat.{ℕ, ◌+◌, ◌*◌, ◌-◌, ◌≤◌}
use mathlib.Core.Bool.{true}
use mathlib.Core.Path.{◌≡◌, refl, sym, ap, ◌∙◌}
use mathlib.Core.List.{List, []}
use mathlib.Core.Logic.{◌⊎◌, inl, inr, ⊎_elim}
use native.Mathlib.Omega.{arith}
use lib.ListN.{length, drop, length-drop}
use lib.Seq.{length-take-le}
use Rattle.std.specs.Prelude.{Option, Some, None}
use Rattle.search.proofs.LawTest.{clash, either_way, every_at}
use Rattle.headers.specs.Book.{most_rows}
use Rattle.desk.specs.Lent.{Sources}
use Rattle.desk.specs.Book.{row_start, book_ok}
use Rattle.desk.specs.Row.{Hit, Miss, row_index, row_at, row_of}
use Rattle.desk.specs.Books.{own_first, row_place, book_at, book_for, askable, bytes_of_row, bytes_at, row_bytes, number_at, row_number}
use Rattle.desk.specs.Inner.{FindsPlace, RowThere}
use Rattle.desk.specs.declared.key.Key.{Key}
use Rattle.desk.specs.declared.books.RowPlace.{RowPlace}
use Rattle.desk.specs.declared.books.RowPlace.TheVariants.{InOwn, InPublished}
use Rattle.desk.proofs.LawBook.{good_row_in, rows_few_lem}
use Rattle.desk.proofs.LawRow.{row_below, hit_at, none_at}

-- ---- what each answer says of the two searches

in_own : (own published : Option ℕ) (i : ℕ) → own_first own published ≡ Some (InOwn i) → own ≡ Some i
in_own (Some j) published i h = cc
in_own None (Some j) i h = clash (cc)
in_own None None i h = clash (cc)

in_published : (own published : Option ℕ) (i : ℕ) → own_first own published ≡ Some (InPublished i) → published ≡ Some i
in_published (Some j) published i h = clash (cc)
in_published None (Some j) i h = cc
in_published None None i h = clash (cc)

in_neither : (own published : Option ℕ) → own_first own published ≡ None → published ≡ None
in_neither (Some j) published h = clash (cc)
in_neither None (Some j) h = clash (cc)
in_neither None None h = refl

module _ (own book : List ℕ) (k : Key) where
  own_has : (i : ℕ) → row_place own book k ≡ Some (InOwn i) → row_index own k ≡ Some i
  unfolding row_place
  own_has i h = in_own (row_index own k) (row_index book k) i h

  published_has : (i : ℕ) → row_place own book k ≡ Some (InPublished i) → row_index book k ≡ Some i
  unfolding row_place
  published_has i h = in_published (row_index own k) (row_index book k) i h

  neither_has : row_place own book k ≡ None → row_index book k ≡ None
  unfolding row_place
  neither_has h = in_neither (row_index own k) (row_index book k) h

-- what accounting by a row asks of the place that was found
module _ (own book : List ℕ) (k : Key) (r : Option RowPlace) (finds : FindsPlace r (row_place own book k)) (i : ℕ) where
  pub own_there : r ≡ Some (InOwn i) → RowThere own k i
  own_there is = record { found = own_has own book k i (sym finds.eq ∙ is); small = rw is at finds.small }

  pub published_there : r ≡ Some (InPublished i) → RowThere book k i
  published_there is = record { found = published_has own book k i (sym finds.eq ∙ is); small = rw is at finds.small }

pub right_both : (own book : List ℕ) (k : Key) → askable own book k ≡ true → (book_ok own ≡ true) × (book_ok book ≡ true)
unfolding askable
right_both own book k h = (every_at _ h 1, every_at _ h 2)

-- ---- the bytes of a row: 24, or none

row_whole : (b : List ℕ) (k : Key) (i : ℕ) → book_ok b ≡ true → row_index b k ≡ Some i → length (bytes_of_row b i) ≡ 24
row_whole b k i good found =
    let lies = good_row_in b good i (row_below b k i found) in
    let rest : length (drop (row_start b i) b) ≡ length b - row_start b i = length-drop (row_start b i) b in
    length-take-le 24 (drop (row_start b i) b) (omega (arith, lies, rest))

pub whole_or_none : (own book : List ℕ) (k : Key) → (length (row_bytes own book k) ≡ 24) ⊎ (row_bytes own book k ≡ [])
unfolding row_bytes
whole_or_none own book k =
    either_way (askable own book k)
    (λ right. rw right (by_place right (row_place own book k) refl))
    (λ wrong. rw wrong (inr refl))
  where
    by_place : askable own book k ≡ true → (place : Option RowPlace) → row_place own book k ≡ place
        → (length (bytes_at own book place) ≡ 24) ⊎ (bytes_at own book place ≡ [])
    by_place right (Some (InOwn i)) is = inl (row_whole own k i (right_both own book k right).0 (own_has own book k i is))
    by_place right (Some (InPublished i)) is = inl (row_whole book k i (right_both own book k right).1 (published_has own book k i is))
    by_place right None is = inr refl

pub bytes_few : (own book : List ℕ) (k : Key) → length (row_bytes own book k) ≤ 24
bytes_few own book k =
    ⊎_elim (λ (whole : length (row_bytes own book k) ≡ 24). omega (arith, whole))
    (λ (none : row_bytes own book k ≡ []). let e : length (row_bytes own book k) ≡ 0 = ap length none in omega (arith, e))
    (whole_or_none own book k)

-- ---- a row's number is at most that of the published book's last

few_rows : (b : List ℕ) (k : Key) (i : ℕ) → book_ok b ≡ true → row_index b k ≡ Some i → i + 1 ≤ most_rows
few_rows b k i good found = omega (arith, row_below b k i found, rows_few_lem b good)

pub number_few : (own book : List ℕ) (k : Key) → row_number own book k ≤ 2 * most_rows
unfolding row_number
number_few own book k =
    either_way (askable own book k)
    (λ right. rw right (by_place right (row_place own book k) refl))
    (λ wrong. rw wrong (omega arith))
  where
    by_place : askable own book k ≡ true → (place : Option RowPlace) → row_place own book k ≡ place → number_at place ≤ 2 * most_rows
    by_place right (Some (InOwn i)) is = omega (arith, few_rows own k i (right_both own book k right).0 (own_has own book k i is))
    by_place right (Some (InPublished i)) is = omega (arith, few_rows book k i (right_both own book k right).1 (published_has own book k i is))
    by_place right None is = omega arith

-- ---- the book that answers

module _ (from : Sources) (k : Key) where
  right_at : (place : Option RowPlace) → book_ok from.own ≡ true → book_ok from.book ≡ true → book_ok (book_at from place) ≡ true
  right_at (Some (InOwn i)) own published = own
  right_at (Some (InPublished i)) own published = published
  right_at None own published = published

  pub book_right : book_ok from.own ≡ true → book_ok from.book ≡ true → book_ok (book_for from k) ≡ true
  unfolding book_for
  book_right own published = right_at (row_place from.own from.book k) own published

  pub own_answers : (i : ℕ) → row_place from.own from.book k ≡ Some (InOwn i)
      → (book_for from k ≡ from.own) × (row_of from.own k ≡ Hit (row_at from.own i))
  unfolding book_for
  own_answers i place = (rw place, hit_at from.own k i (own_has from.own from.book k i place))

  pub published_answers : (i : ℕ) → row_place from.own from.book k ≡ Some (InPublished i)
      → (book_for from k ≡ from.book) × (row_of from.book k ≡ Hit (row_at from.book i))
  unfolding book_for
  published_answers i place = (rw place, hit_at from.book k i (published_has from.own from.book k i place))

  pub neither_answers : row_place from.own from.book k ≡ None → (book_for from k ≡ from.book) × (row_of from.book k ≡ Miss)
  unfolding book_for
  neither_answers place = (rw place, none_at from.book k (neither_has from.own from.book k place))
