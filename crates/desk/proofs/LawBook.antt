-- What a good book says of its rows, and a right header of where rows, lines and entries lie.
use Prim.Native.Nat.{ℕ, zero, suc, ◌+◌, ◌*◌, ◌≤◌, ◌<◌}
use mathlib.Core.Bool.{true, false, ◌||◌, not}
use mathlib.Core.Path.{◌≡◌}
use mathlib.Core.List.{List}
use native.Mathlib.Nat.{mul-suc, mul-le-mul_left}
use native.Mathlib.Omega.{arith}
use lib.Dec.{leb, eqb}
use lib.ListN.{length, length-take, length-drop}
use borrow.Author.Tests.{leb-true, ltb-true, eqb-true, ne_eqb}
use Rattle.amounts.specs.Line.{whole_share}
use Rattle.little.specs.Read.{u32_at}
use Rattle.search.specs.Test.{all}
use Rattle.search.proofs.LawTest.{and_left, and_right, all_at, every_at}
use Rattle.search.proofs.LawCut.{rising}
use Rattle.headers.specs.House.{file_ok}
use Rattle.headers.specs.Book.{book_header, book_fits, row_count, technique_count, most_rows, most_techniques, technique_size, book_header_ok, technique_block}
use Rattle.desk.specs.Book.{technique_code, technique_efficiency, technique_ok, techniques_ok, row_start, fields_at, fields_ok, most_coefficient, coefficient_at}
use Rattle.desk.specs.Book.{row_ok, rows_ok, book_ok}
use Rattle.headers.specs.Sheet.{sheet_header, sheet_header_size, sheet_fits, sheet_header_ok, line_size, line_count}
use Rattle.desk.specs.Sheet.{line_start}
use Rattle.fugitive.specs.Entry.{entry_size}
use Rattle.fugitive.specs.Table.{fugitive_header, fugitive_header_size, entry_count, fugitive_fits, fugitive_header_ok, entry_start}
use Rattle.desk.specs.Entries.{entries_ok, fugitive_ok}
use Rattle.desk.specs.Inner.{Listed, RowIn, LineIn, EntryIn}
use Rattle.desk.proofs.LawRun.{ok_rises}

-- the power of ten is one of these
pub record Power (unit places : ℕ) : Type 0 where
  pub some : 1 ≤ unit
  pub few : unit ≤ 3
  pub within : places + 1 ≤ 3 * unit

places_most : (unit places : ℕ) → 1 ≤ unit → places ≤ 5 → (not (eqb unit 1) || leb places 2) ≡ true → places + 1 ≤ 3 * unit
places_most zero places l m h = absurd (omega arith)
places_most (suc zero) places l m h = omega (arith, leb-true places 2 h)
places_most (suc (suc u)) places l m h = omega arith

pub fields_power : (b : List ℕ) (at : ℕ) → fields_ok b at ≡ true → Power (fields_at b at).unit (fields_at b at).places
unfolding fields_ok
fields_power b at h =
    let some = leb-true 1 (fields_at b at).unit (every_at _ h 5) in
    record {
      some = some;
      few = leb-true (fields_at b at).unit 3 (every_at _ h 6);
      within = places_most (fields_at b at).unit (fields_at b at).places some (leb-true (fields_at b at).places 5 (every_at _ h 7)) (every_at _ h 8);
    }

-- ---- where the header is right, the blocks lie in the book

file_whole : (file : List ℕ) (origin header : ℕ) → file_ok file origin header ≡ true → u32_at file origin ≡ length file
unfolding file_ok
file_whole file origin header h = eqb-true (u32_at file origin) (length file) (every_at _ h 2)

pub record Lies (b : List ℕ) : Type 0 where
  pub rows_few : row_count b ≤ most_rows
  pub few : technique_count b ≤ most_techniques
  pub rows : (book_header b).row_offset + 24 * row_count b ≤ (book_header b).technique_offset
  pub techniques : (book_header b).technique_offset + technique_size * technique_count b ≤ length b

pub header_lies : (b : List ℕ) → book_header_ok b ≡ true → Lies b
unfolding book_header_ok
header_lies b h =
    let header = book_header b in
    let file = file_ok b header.origin header.size in
    let fits = and_right file (book_fits header) h in
    let whole : u32_at b 0 ≡ length b = file_whole b header.origin header.size (and_left file (book_fits header) h) in
    let last = leb-true (header.technique_offset + technique_size * header.techniques) header.length (every_at _ fits 4) in
    record {
      rows_few = leb-true header.rows most_rows (every_at _ fits 0);
      few = leb-true header.techniques most_techniques (every_at _ fits 1);
      rows = leb-true (header.row_offset + header.row_size * header.rows) header.technique_offset (every_at _ fits 3);
      techniques = omega (arith, whole, last);
    }

pub row_in : (b : List ℕ) → book_header_ok b ≡ true → (i : ℕ) → i < row_count b → RowIn b (row_start b i)
row_in b h i l = omega (arith, header_lies b h)

pub block_size : (b : List ℕ) → book_header_ok b ≡ true → length (technique_block b) ≡ technique_size * technique_count b
unfolding technique_block
block_size b h = let lies = header_lies b h in simp (length-take, length-drop) (omega arith)

-- ---- where a header is right, what it counts lies in the file: the lines of a sheet, the entries of a fugitive table

block_lies : (file : List ℕ) (header offset size count : ℕ) → file_ok file 0 header ≡ true → offset + size * count ≤ u32_at file 0
    → (i : ℕ) → i < count → offset + size * i + size ≤ length file
block_lies file header offset size count whole fits i l =
    omega (arith, file_whole file 0 header whole, fits, mul-suc size i, mul-le-mul_left size l)

pub line_in_lem : (s : List ℕ) → sheet_header_ok s ≡ true → (i : ℕ) → i < line_count s → LineIn s (line_start s i)
unfolding sheet_header_ok
line_in_lem s h =
    let header = sheet_header s in
    let file = file_ok s 0 sheet_header_size in
    let fits = every_at _ (and_right file (sheet_fits header) h) 5 in
    block_lies s sheet_header_size header.line_offset line_size header.lines (and_left file (sheet_fits header) h) (leb-true _ _ fits)

pub entry_in : (f : List ℕ) → fugitive_header_ok f ≡ true → (i : ℕ) → i < entry_count f → EntryIn f (entry_start f i)
unfolding fugitive_header_ok
entry_in f h =
    let header = fugitive_header f in
    let file = file_ok f 0 fugitive_header_size in
    let fits = every_at _ (and_right file (fugitive_fits header) h) 3 in
    block_lies f fugitive_header_size header.offset entry_size header.entries (and_left file (fugitive_fits header) h) (leb-true _ _ fits)

pub right_entry_in : (f : List ℕ) → fugitive_ok f ≡ true → (i : ℕ) → i < entry_count f → EntryIn f (entry_start f i)
unfolding fugitive_ok
right_entry_in f right i l = entry_in f (and_left (fugitive_header_ok f) (entries_ok f) right) i l

-- a book without rows is its header
pub header_alone : (b : List ℕ) → book_header_ok b ≡ true → row_count b ≡ 0 → book_ok b ≡ true
unfolding book_ok all
header_alone b header none = rw (header, none)

-- ---- rows of a good book

module _ (b : List ℕ) (good : book_ok b ≡ true) where
  pub good_row_in : (i : ℕ) → i < row_count b → RowIn b (row_start b i)
  unfolding book_ok
  good_row_in i l = row_in b (and_left (book_header_ok b) (rows_ok b) good) i l

  pub rows_few_lem : row_count b ≤ most_rows
  unfolding book_ok
  rows_few_lem = (header_lies b (and_left (book_header_ok b) (rows_ok b) good)).rows_few

  pub row_good : (i : ℕ) → i < row_count b → row_ok b (technique_block b) i ≡ true
  unfolding book_ok
  row_good i l = all_at (row_ok b (technique_block b)) (row_count b) i (and_right (book_header_ok b) (rows_ok b) good) l

  pub row_fields : (i : ℕ) → i < row_count b → fields_ok b (row_start b i) ≡ true
  unfolding row_ok
  row_fields i l = every_at _ (row_good i l) 0

  pub row_coefficient : (i : ℕ) → i < row_count b → coefficient_at b (row_start b i) ≤ most_coefficient
  unfolding row_ok
  row_coefficient i l = leb-true (coefficient_at b (row_start b i)) most_coefficient (every_at _ (row_good i l) 1)

  -- ---- a row's list of techniques

  module _ (i : ℕ) (l : i < row_count b) where
    inside : (eqb (fields_at b (row_start b i)).techniques 0
        || leb ((fields_at b (row_start b i)).first + (fields_at b (row_start b i)).techniques) (technique_count b)) ≡ true
    unfolding row_ok techniques_ok
    inside =
        let row = fields_at b (row_start b i) in
        and_left _ (all row.techniques (technique_ok (technique_block b) row.first)) (every_at _ (row_good i l) 2)

    each : (j : ℕ) → j < (fields_at b (row_start b i)).techniques → technique_ok (technique_block b) (fields_at b (row_start b i)).first j ≡ true
    unfolding row_ok techniques_ok
    each j m =
        let row = fields_at b (row_start b i) in
        let some = eqb row.techniques 0 || leb (row.first + row.techniques) (technique_count b) in
        let test = technique_ok (technique_block b) row.first in
        all_at test row.techniques j (and_right some (all row.techniques test) (every_at _ (row_good i l) 2)) m

    pub row_efficiency : (j : ℕ) → j < (fields_at b (row_start b i)).techniques
        → technique_efficiency (technique_block b) ((fields_at b (row_start b i)).first + j) ≤ whole_share
    unfolding technique_ok
    row_efficiency j m = leb-true _ _ (every_at _ (each j m) 1)

    code_rises : (j : ℕ) → suc j < (fields_at b (row_start b i)).techniques → let first = (fields_at b (row_start b i)).first in
        technique_code (technique_block b) (first + j) < technique_code (technique_block b) (first + suc j)
    code_rises j m = ltb-true _ _ (ok_rises (technique_block b) (fields_at b (row_start b i)).first j (each (suc j) m))

    codes_rise : (j k : ℕ) → j < k → k < (fields_at b (row_start b i)).techniques → let first = (fields_at b (row_start b i)).first in
        technique_code (technique_block b) (first + j) < technique_code (technique_block b) (first + k)
    codes_rise =
        let row = fields_at b (row_start b i) in
        let code : ℕ → ℕ = λ j. technique_code (technique_block b) (row.first + j) in
        rising (λ j k. code j < code k) (λ j k l p q. omega (arith, p, q)) row.techniques code_rises

    pub row_listed : Listed (technique_block b) (fields_at b (row_start b i)).first (fields_at b (row_start b i)).techniques
    unfolding book_ok
    row_listed = record { lies = lies; rises = codes_rise }
      where
        lies : (j : ℕ) → j < (fields_at b (row_start b i)).techniques
            → technique_size * ((fields_at b (row_start b i)).first + j) + technique_size ≤ length (technique_block b)
        lies j m =
            let row = fields_at b (row_start b i) in
            let some : eqb row.techniques 0 ≡ false = ne_eqb row.techniques 0 (λ q. omega (arith, q)) in
            let fits : row.first + row.techniques ≤ technique_count b = leb-true _ _ (rw some at inside) in
            omega (arith, fits, block_size b (and_left (book_header_ok b) (rows_ok b) good))
