-- What is shut out of the dust that never meets a duct: versions that treat it, work it from material, leave it out of G or of the shown
-- sums, take it elsewhere, or refuse in another order.
use Prim.Native.Nat.{ℕ, ◌+◌, ◌*◌, ◌<◌}
use mathlib.Core.Path.{◌≡◌, refl, sym, ap, ◌∙◌}
use mathlib.Core.Bool.{true, false, cond}
use mathlib.Core.List.{List, [], ◌∷◌, ◌++◌}
use native.Mathlib.Omega.{arith}
use lib.Dec.{ltb}
use lib.ListN.{replicate}
use Rattle.std.specs.Prelude.{Option, Some, None, ⊤, Result, Ok, Err}
use Rattle.search.specs.First.{first}
use Rattle.amounts.specs.Line.{whole_share}
use Rattle.settle.specs.Shown.{at, sum}
use Rattle.settle.specs.Table.{limit}
use Rattle.headers.specs.Book.{technique_block}
use Rattle.headers.specs.Sheet.{line_count, most_lines}
use Rattle.fugitive.specs.Grades.{gas, is_given}
use Rattle.fugitive.specs.Table.{entry_count}
use Rattle.fugitive.specs.declared.grades.Grades.{Grades}
use Rattle.fugitive.proofs.LawShutOut.{graded_elsewhere}
use Rattle.desk.specs.Lent.{Sources, sources, Lent}
use Rattle.desk.specs.Book.{book_ok}
use Rattle.headers.specs.House.{file_ok}
use Rattle.little.specs.Read.{u16_at, u32_at}
use Rattle.search.specs.Test.{all, every}
use Rattle.fugitive.specs.Table.{fugitive_header_ok}
use Rattle.desk.specs.Key.{key_from, key_less}
use Rattle.desk.specs.Entries.{entry_key, entry_rises, fugitive_ok}
use Rattle.desk.specs.Row.{RowSearch, Hit, Miss, row_of}
use Rattle.desk.specs.Books.{row_place, book_at, book_for}
use Rattle.desk.specs.Line.{most_kilograms}
use Rattle.desk.specs.Cells.{width}
use Rattle.desk.specs.Dust.{entry_has, entry_index, units_per_factor, dust_by, dust_of}
use Rattle.desk.specs.Account.{by_row, excessive, misgraded, account_in, account_of}
use Rattle.desk.specs.Table.{by_published, by_sources, by_files}
use Rattle.desk.specs.Demands.{LineDemand}
use Rattle.desk.specs.Declare.{Declared}
use Rattle.desk.specs.Inner.{most_dust}
use Rattle.desk.specs.declared.key.Key.{Key}
use Rattle.desk.specs.declared.line.Line.{Line}
use Rattle.desk.specs.declared.row.Row.{Row}
use Rattle.desk.specs.declared.books.RowPlace.{RowPlace}
use Rattle.desk.specs.declared.books.RowPlace.TheVariants.{InOwn, InPublished}
use Rattle.answers.specs.declared.answer.LineFault.TheVariants.{BadGrade, NoRow, NoFugitiveEntry}
use Rattle.answers.specs.declared.answer.FileFault.TheVariants.{BookMalformed, FugitiveMalformed}
use Rattle.answers.specs.declared.answer.Refusal.{Refusal}
use Rattle.answers.specs.declared.answer.Refusal.TheVariants as refusal
use Rattle.desk.proofs.LawAccount.{line_most}

-- ---- how much

-- three factors u16 on the most product, and with it a line's row and 128 of them: 128 × (10^17 + 3 × 65,535 × 100 × 10^9) < 16 × 10^18
pub sums_fit : (most_dust ≡ 3 * 65_535 * units_per_factor * most_kilograms) × (line_most ≡ 100_000_000 * most_kilograms + most_dust) × (line_most * most_lines < limit)
sums_fit = (refl, refl, omega arith)

-- ---- F is untouched by treatment, and worked from product

-- lines with the same key, product and grades
pub record SameDust (one other : Line) : Type 0 where
  pub key : one.key ≡ other.key
  pub product : one.product ≡ other.product
  pub grades : one.grades ≡ other.grades

place_same : (f : List ℕ) (one other : Line) (place : Option ℕ) → SameDust one other → dust_by f one place ≡ dust_by f other place
place_same f one other None s = refl
place_same f one other (Some i) s = rw (s.product, s.grades)

dust_same : (f : List ℕ) (one other : Line) → SameDust one other → dust_of f one ≡ dust_of f other
unfolding dust_of
dust_same f one other s =
    let place = entry_index f other.key in
    ap (λ (k : Key). cond (is_given one.grades) (dust_by f one (entry_index f k)) (Some 0)) s.key
    ∙ ap (λ (d : Option ℕ). cond (is_given one.grades) d (Some 0)) (place_same f one other place s)
    ∙ ap (λ (g : Grades). cond (is_given g) (dust_by f other place) (Some 0)) s.grades

-- one that sends F through the filter, or works it from material: F is the same whatever technique, reading, reuse and material a line has
pub dust_untreated : (from : Sources) (one other : Line) (G R U D F G' R' U' D' F' : ℕ) → SameDust one other
    → LineDemand from one G R U D F → LineDemand from other G' R' U' D' F' → F ≡ F'
dust_untreated from one other G R U D F G' R' U' D' F' s p q =
    let e : Some F ≡ Some F' = sym p.escapes ∙ dust_same from.fugitive one other s ∙ q.escapes in cc

-- one that does not raise G: where something escapes, G is above R + U + D
pub generated_raised : (from : Sources) (line : Line) (G R U D F : ℕ) → LineDemand from line G R U D F → 0 < F → R + U + D < G
generated_raised from line G R U D F p some = omega (arith, p.adds)

-- one that leaves the fifth column out of the shown sums
pub fifth_column_shown : (f : Lent) (exact shown : List ℕ) (r : Result ⊤ Refusal) (x y : List ℕ) → Declared f exact shown r x y → r ≡ Ok tt
    → (i : ℕ) → i < line_count f.sheet + 1 → let G = i * width in at y G ≡ at y (G + 1) + at y (G + 2) + at y (G + 3) + at y (G + 4)
unfolding sum
fifth_column_shown f exact shown r x y p accepted i h =
    let adds = (p.demand3 accepted).sums.rows i h in
    let second : i * width + 1 + 1 * 1 ≡ i * width + 2 = omega arith in
    let third : i * width + 1 + 2 * 1 ≡ i * width + 3 = omega arith in
    let fourth : i * width + 1 + 3 * 1 ≡ i * width + 4 = omega arith in
    let first : i * width + 1 + 0 * 1 ≡ i * width + 1 = omega arith in
    omega (arith, rw (first, second, third, fourth) at adds)

-- ---- which entry

-- one that looks for scale 0 first: an entry for the line's own scale is the one
pub own_scale_first : (f : List ℕ) (k : Key) (i : ℕ) → first (entry_count f) (entry_has f k) ≡ Some i → entry_index f k ≡ Some i
unfolding entry_index
own_scale_first f k i own = rw own

-- ---- a line without grades

-- one that wants an entry for it: no entry is looked for, nothing escapes, and it is accounted for alike whatever the table
pub ungraded_escapes_none : (f : List ℕ) (line : Line) → is_given line.grades ≡ false → dust_of f line ≡ Some 0
unfolding dust_of
ungraded_escapes_none f line none-given = rw none-given

pub ungraded_alike : (own book one other : List ℕ) (line : Line) → is_given line.grades ≡ false
    → account_of (sources own book one) line ≡ account_of (sources own book other) line
unfolding account_of account_in book_for
ungraded_alike own book one other line none-given = by_place (row_place own book line.key)
  where
    by_row_lem : (b : List ℕ) (row : RowSearch) → by_row (technique_block b) one line row ≡ by_row (technique_block b) other line row
    by_row_lem b Miss = refl
    by_row_lem b (Hit row) = rw (ungraded_escapes_none one line none-given, ungraded_escapes_none other line none-given)

    in_book : (b : List ℕ) → account_in b one line ≡ account_in b other line
    in_book b = rw (by_row_lem b (row_of b line.key))

    by_place : (place : Option RowPlace) → account_in (book_at (sources own book one) place) one line ≡ account_in (book_at (sources own book other) place) other line
    by_place (Some (InOwn i)) = in_book own
    by_place (Some (InPublished i)) = in_book book
    by_place None = in_book book

-- ---- the order of refusals: 1, 13, then the sheet; of a line 4, 5, 15, 6, 14, 7

module _ (from : Sources) where
  -- one that looks at the table before a book
  pub book_before_table : book_ok from.own ≡ true → book_ok from.book ≡ false → by_sources from ≡ Err (refusal.File BookMalformed)
  unfolding by_sources by_published
  book_before_table right wrong = rw (right, wrong)

  -- one that looks at the sheet or the room before the table
  pub table_before_sheet : book_ok from.own ≡ true → book_ok from.book ≡ true → fugitive_ok from.fugitive ≡ false
      → (sheet : List ℕ) (room : ℕ) → by_files (record { sources = from; sheet = sheet }) room ≡ Err (refusal.File FugitiveMalformed)
  unfolding by_files by_sources by_published
  table_before_sheet own published wrong sheet room = rw (own, published, wrong)

  -- a line that keeps rules 4 and 5
  module _ (line : Line) (moderate : excessive line ≡ false) (reuse : ltb whole_share line.reuse ≡ false) where
    -- one that looks for the row before it looks at the grades
    pub grades_before_row : misgraded line ≡ true → account_of from line ≡ Err BadGrade
    unfolding account_of account_in
    grades_before_row bad = rw (moderate, reuse, bad)

    -- one that takes a grade in water, or in any medium but gas
    pub graded_in_gas_alone : is_given line.grades ≡ true → (line.key.medium ≡ gas → ⊥) → account_of from line ≡ Err BadGrade
    graded_in_gas_alone given other =
        grades_before_row (graded_elsewhere line.grades line.key.medium line.key.pollutant given other)

    module _ (taken : misgraded line ≡ false) where
      -- one that looks for the entry before the row
      pub row_before_entry : row_of (book_for from line.key) line.key ≡ Miss → account_of from line ≡ Err NoRow
      unfolding account_of account_in
      row_before_entry none = rw (moderate, reuse, taken, none)

      -- one that looks at the technique or the reading before the entry
      pub entry_before_technique : (row : Row) → row_of (book_for from line.key) line.key ≡ Hit row → dust_of from.fugitive line ≡ None
          → account_of from line ≡ Err NoFugitiveEntry
      unfolding account_of account_in
      entry_before_technique row hit none = rw (moderate, reuse, taken, hit, none)

-- ---- entries rise

-- a table of two entries, all zeros but for the low byte of the second one's scale
abbrev two_entries : (scale : ℕ) → List ℕ
two_entries scale =
    (68 ∷ 0 ∷ 0 ∷ 0 ∷ 2 ∷ 0 ∷ 0 ∷ 0 ∷ 12 ∷ 0 ∷ 0 ∷ 0 ∷ []) ++ (replicate 36 0 ++ (scale ∷ replicate 19 0))

-- one that takes the same entry twice: two entries may differ in the last of their codes, and must
pub equal_entries : (fugitive_ok (two_entries 0) ≡ false) × (fugitive_ok (two_entries 1) ≡ true)
unfolding fugitive_ok fugitive_header_ok file_ok every all entry_rises entry_key key_from key_less u16_at u32_at
equal_entries = (refl, refl)
