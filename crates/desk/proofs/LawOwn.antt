-- An own book that changes nothing, and what is shut out of the search in two books: versions that ask the published book first, skip the
-- own book's scale 0, read techniques in the other book, look at the published book first, or hand back bytes that are one off.
use Prim.Native.Nat.{ℕ, ◌+◌, ◌<◌, min}
use mathlib.Core.Path.{◌≡◌, refl, ap, ◌∙◌}
use mathlib.Core.Bool.{true, false}
use mathlib.Core.List.{List, [], ◌∷◌}
use native.Mathlib.Omega.{arith}
use lib.ListN.{length}
use Rattle.std.specs.Prelude.{Option, Some, None, ⊤, Result, Ok, Err}
use Rattle.search.specs.First.{first}
use Rattle.search.specs.Test.{all, every}
use Rattle.search.proofs.LawTest.{clash, either_way}
use Rattle.headers.specs.Book.{row_count, book_header_ok, technique_block}
use Rattle.headers.specs.House.{file_ok}
use Rattle.headers.specs.Sheet.{line_count}
use Rattle.little.specs.Read.{u16_at, u32_at}
use Rattle.little.specs.Part.{part_of}
use Rattle.amounts.specs.Line.{removed_of, reused_of, discharged_of}
use Rattle.settle.specs.Shown.{at}
use Rattle.shares.specs.Share.{goes_with, share_of, share_by}
use Rattle.shares.specs.declared.share.Reading.TheVariants.{Throughout}
use Rattle.fugitive.specs.Grades.{is_given, grades_bad}
use Rattle.answers.specs.declared.answer.LineFault.TheVariants.{NoTechnique}
use Rattle.answers.specs.declared.answer.FileFault.TheVariants.{OwnBookMalformed}
use Rattle.answers.specs.declared.answer.Refusal.{Refusal}
use Rattle.answers.specs.declared.answer.Refusal.TheVariants as refusal
use Rattle.desk.specs.Lent.{Sources, sources, lent}
use Rattle.desk.specs.Key.{key_from, key_same, all_scales}
use Rattle.desk.specs.Book.{book_ok, row_start, key_at, row_ok, fields_ok, coefficient_at, techniques_ok, rises}
use Rattle.desk.specs.Row.{row_has, row_index, row_at, row_of}
use Rattle.desk.specs.Books.{own_first, row_place, book_at, book_for, fields_hold, askable, row_bytes, row_number}
use Rattle.desk.specs.Technique.{technique_has, technique_index}
use Rattle.desk.specs.Line.{line_of}
use Rattle.desk.specs.Dust.{dust_of}
use Rattle.desk.specs.Account.{treatment_of, generated_of, account_in, account_of, line_outcome}
use Rattle.desk.specs.Table.{by_published, by_sources, by_files, answer_of, table_of, cells_after}
use Rattle.desk.specs.Declare.{shown_after, Declared}
use Rattle.desk.specs.Inner.{at_scale}
use Rattle.desk.specs.OneBook.{line_by_one, answer_by_one, AsWithOne}
use Rattle.desk.specs.declared.key.Key.{Key}
use Rattle.desk.specs.declared.line.Line.{Line}
use Rattle.desk.specs.declared.books.RowPlace.{RowPlace}
use Rattle.desk.specs.declared.books.RowPlace.TheVariants.{InOwn, InPublished}
use Rattle.desk.proofs.LawRow.{no_rows_lem}
use Rattle.desk.proofs.LawAlike.{lines_alike, table_alike}
use Rattle.desk.proofs.LawShutOut.{book, no_entries, no_rows}

-- ---- an own book that changes nothing

-- where the books are told apart neither by what is wrong with them nor by which one answers
module _ (own b f s : List ℕ) (told : by_sources (sources own b f) ≡ by_published b f) (asked : (k : Key) → book_for (sources own b f) k ≡ b) where
  each : (i : ℕ) → i < line_count s → line_outcome (lent (sources own b f) s) i ≡ line_by_one b f s i
  unfolding line_outcome account_of
  each i l = rw (asked (line_of s i).key)

  same_answer : (room : ℕ) → answer_of (lent (sources own b f) s) room ≡ answer_by_one b f s room
  unfolding answer_of by_files
  same_answer room = rw (told, lines_alike (line_outcome (lent (sources own b f) s)) (line_by_one b f s) (line_count s) each)

  same_table : table_of (line_count s) (line_outcome (lent (sources own b f) s)) ≡ table_of (line_count s) (line_by_one b f s)
  same_table = table_alike (line_outcome (lent (sources own b f) s)) (line_by_one b f s) (line_count s) each

  module _ (exact shown : List ℕ) (r : Result ⊤ Refusal) (exact' shown' : List ℕ) (p : Declared (lent (sources own b f) s) exact shown r exact' shown') where
    as_with_one : AsWithOne b f s exact shown r exact' shown'
    unfolding cells_after shown_after
    as_with_one =
        let answer = p.demand1.answer ∙ same_answer (min (length exact) (length shown)) in
        record {
          number = rw answer;
          line = rw answer;
          exact_table = λ yes. rw (← same_table) (rw yes at p.tables.table);
          shown_cells = λ yes. rw (← same_table) (rw yes at p.tables.shows);
          exact_zero = p.demand1.exact_zero;
          shown_zero = p.demand1.shown_zero;
        }

-- the ready book without rows is one
pub without_rows : (book_ok no_rows ≡ true) × (row_count no_rows ≡ 0)
unfolding book_ok book_header_ok file_ok every u16_at u32_at all
without_rows = (refl, refl)

published_at : (from : Sources) (found : Option ℕ) → book_at from (own_first None found) ≡ from.book
published_at from (Some i) = refl
published_at from None = refl

module _ (b f s exact shown : List ℕ) (r : Result ⊤ Refusal) (exact' shown' : List ℕ) where
  -- an own book without rows: every answer and every cell is as with the published book alone
  pub own_without_rows : (own : List ℕ) → book_ok own ≡ true → row_count own ≡ 0
      → Declared (lent (sources own b f) s) exact shown r exact' shown' → AsWithOne b f s exact shown r exact' shown'
  unfolding by_sources book_for row_place
  own_without_rows own right none p =
      as_with_one own b f s (rw right) (λ k. rw (no_rows_lem own k none) (published_at (sources own b f) (row_index b k))) exact shown r exact' shown' p

  same_at : (place : Option RowPlace) → book_at (sources b b f) place ≡ b
  same_at (Some (InOwn i)) = refl
  same_at (Some (InPublished i)) = refl
  same_at None = refl

  -- an own book that is the published one, of any content
  pub own_is_published : Declared (lent (sources b b f) s) exact shown r exact' shown' → AsWithOne b f s exact shown r exact' shown'
  unfolding by_sources by_published book_for answer_of by_files
  own_is_published p =
      either_way (book_ok b)
      (λ right. as_with_one b b f s (rw right) (λ k. same_at (row_place b b k)) exact shown r exact' shown' p)
      (λ wrong.
      let refused : r ≡ Err (refusal.File OwnBookMalformed) = rw wrong at p.demand1.answer in
      record {
        number = rw (refused, wrong);
        line = rw (refused, wrong);
        exact_table = λ yes. clash (cc);
        shown_cells = λ yes. clash (cc);
        exact_zero = p.demand1.exact_zero;
        shown_zero = p.demand1.shown_zero;
      })

-- ---- which row

module _ (own book : List ℕ) (k : Key) (i : ℕ) where
  -- one that asks the published book first: a row of the own book answers, whatever the published one has
  pub own_asked_first : row_index own k ≡ Some i → row_place own book k ≡ Some (InOwn i)
  unfolding row_place
  own_asked_first has = rw has

  -- one that skips the own book's scale 0: it answers before the published book's exact scale
  pub own_all_scales : first (row_count own) (row_has own k) ≡ None → first (row_count own) (row_has own (all_scales k)) ≡ Some i
      → row_place own book k ≡ Some (InOwn i)
  unfolding row_place row_index
  own_all_scales not-exact all = rw (not-exact, all)

  -- one that refuses where the own book has none: the published book is asked
  pub published_asked : row_index own k ≡ None → row_index book k ≡ Some i → row_place own book k ≡ Some (InPublished i)
  unfolding row_place
  published_asked none has = rw (none, has)

-- one that looks at the published book before the own one
pub own_looked_at_first : (from : Sources) → book_ok from.own ≡ false → by_sources from ≡ Err (refusal.File OwnBookMalformed)
unfolding by_sources
own_looked_at_first from wrong = rw wrong

-- ---- on small books

-- one that hands back a part one byte off: the row of this book of one row, for all scales, for the inspector's screen. Scale 65,536 is no
-- field's, and finds none
abbrev shown_bytes : List ℕ
shown_bytes = 168 ∷ 12 ∷ 0 ∷ 0 ∷ 0 ∷ 0 ∷ 0 ∷ 0 ∷ 0 ∷ 0 ∷ 2 ∷ 3 ∷ 1 ∷ 1 ∷ 0 ∷ 0 ∷ 1 ∷ 0 ∷ 0 ∷ 0 ∷ 0 ∷ 0 ∷ 0 ∷ 0 ∷ []

abbrev key : Key
key = key_at book (row_start book 0)

pub bytes_in_place : (row_bytes no_rows book key ≡ shown_bytes) × (row_bytes book no_rows key ≡ shown_bytes) × (row_bytes [] book key ≡ [])
    × (row_number no_rows book key ≡ 1025) × (row_number book no_rows key ≡ 1) × (row_number book book key ≡ 1) × (row_number no_rows no_rows key ≡ 0)
    × (row_number no_rows book (at_scale key 65535) ≡ 1025) × (row_number no_rows book (at_scale key 65536) ≡ 0)
unfolding row_bytes row_number askable fields_hold row_place row_index first row_has key_same every key_from u16_at u32_at book_ok book_header_ok file_ok all row_ok fields_ok coefficient_at
    techniques_ok rises at_scale all_scales
bytes_in_place = (refl, refl, refl, refl, refl, refl, refl, refl, refl)

pub one_byte_off : (r : List ℕ) → r ≡ row_bytes no_rows book key → r ≡ part_of book (row_start book 0 + 1) 24 → ⊥
unfolding u32_at u16_at
one_byte_off r meant off =
    let e : at r 0 ≡ 168 = ap (λ (l : List ℕ). at l 0) (meant ∙ bytes_in_place.0) in
    let d : at r 0 ≡ 12 = ap (λ (l : List ℕ). at l 0) off in
    omega (arith, e, d)

-- a book of one row like that one, whose one technique has this code and takes everything away
abbrev listing : (code : ℕ) → List ℕ
listing code =
    (44 ∷ 0 ∷ 0 ∷ 0 ∷ 1 ∷ 0 ∷ 1 ∷ 0 ∷ 16 ∷ 0 ∷ 0 ∷ 0 ∷ 40 ∷ 0 ∷ 0 ∷ 0 ∷ 168 ∷ 12 ∷ 0 ∷ 0 ∷ 0 ∷ 0 ∷ 0 ∷ 0 ∷ 0 ∷ 0 ∷ 2 ∷ 3 ∷ 1 ∷ 1 ∷ 0 ∷
    1 ∷ 1 ∷ 0 ∷ 0 ∷ 0 ∷ 0 ∷ 0 ∷ 1 ∷ 0 ∷ code ∷ 0 ∷ 232 ∷ 3 ∷ [])

-- 1,000 kg of product, treated throughout
abbrev treated_by : (technique : ℕ) → Line
treated_by technique =
    record {
      key = key;
      technique = technique;
      reuse = 0;
      product = 1000;
      material = 0;
      reading = Throughout;
      grades = record { crushing = 0; tapping = 0; spill = 0 };
    }

-- one that reads the technique in the other book: the own row's technique 1 is taken, and the published row's technique 2 is not in the list
pub techniques_of_the_own_book : let from = sources (listing 1) (listing 2) no_entries in
    (account_of from (treated_by 1) ≡ Ok (record { generated = 100_000; removed = 100_000; reused = 0; discharged = 0; fugitive = 0 }))
    × (account_of from (treated_by 2) ≡ Err NoTechnique)
unfolding account_of account_in book_for row_place row_index first row_has key_same every key_from u16_at u32_at row_of row_at coefficient_at treatment_of technique_block
    technique_index technique_has share_by goes_with share_of generated_of removed_of reused_of discharged_of dust_of is_given grades_bad
techniques_of_the_own_book = (refl, refl)
