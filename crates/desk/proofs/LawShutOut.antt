-- What the promise shuts out, on a small book, two small sheets and a bundle: versions that refuse everything, do nothing, have one constant
-- table, copy line 1 down, show zeros, miss a row, or give one sheet's outcome to all do not meet it.
use Prim.Native.Nat.{ℕ, ◌+◌, ◌-◌, ◌<◌}
use mathlib.Core.Path.{◌≡◌, refl, sym, ap, ◌∙◌}
use mathlib.Core.Bool.{true}
use mathlib.Core.List.{List, [], ◌∷◌, ◌++◌}
use mathlib.Core.Logic.{◌≢◌}
use native.Mathlib.Omega.{arith}
use lib.ListN.{replicate}
use Rattle.std.specs.Prelude.{⊤, Result, Ok, Err}
use Rattle.search.proofs.LawTest.{clash}
use Rattle.search.specs.First.{first}
use Rattle.search.specs.Test.{all, every}
use Rattle.little.specs.Read.{u16_at, u32_at, u64_at}
use Rattle.little.specs.Part.{part_of}
use Rattle.answers.specs.Answer.{code_of}
use Rattle.bundle.specs.Bundle.{bundle_header_ok, after_the_one_before, entry_ok, bundle_ok, sheet_of as bundled}
use Rattle.bundle.specs.Whole.{roomy, bundle_outcome}
use Rattle.amounts.specs.Line.{removed_of, reused_of, discharged_of}
use Rattle.settle.specs.Shown.{at}
use Rattle.headers.specs.House.{file_ok}
use Rattle.desk.specs.Key.{key_from, key_same}
use Rattle.headers.specs.Book.{row_count, book_header_ok}
use Rattle.desk.specs.Book.{book_ok, row_start, key_at, row_ok, fields_ok, coefficient_at, techniques_ok, rises}
use Rattle.desk.specs.Row.{RowSearch, Hit, Miss, row_has, row_index, row_at, row_from, row_of}
use Rattle.headers.specs.Sheet.{sheet_header_ok, line_count}
use Rattle.desk.specs.Sheet.{sheet_ok, line_ok}
use Rattle.desk.specs.Line.{reading_at, grades_at, line_of}
use Rattle.desk.specs.Cells.{width}
use Rattle.headers.specs.Unit.{unit_of, unit_of_sheet}
use Rattle.desk.specs.declared.cells.TableRow.{TableRow}
use Rattle.answers.specs.declared.answer.LineFault.{LineFault}
use Rattle.desk.specs.Lent.{Sources, sources, Lent, lent}
use Rattle.desk.specs.Books.{row_place, book_for}
use Rattle.desk.specs.Account.{treatment_of, generated_of, excessive, account_in, account_of, line_outcome}
use Rattle.fugitive.specs.Grades.{is_given, grades_bad}
use Rattle.fugitive.specs.Table.{fugitive_header_ok}
use Rattle.desk.specs.Entries.{fugitive_ok}
use Rattle.desk.specs.Dust.{dust_of}
use Rattle.desk.specs.Table.{rows, total, table_of, by_published, by_sources, by_files, by_lines, answer_of, cells_after}
use Rattle.desk.specs.Declare.{Declared}
use Rattle.desk.specs.Works.{Results, results, BundleDeclared}
use Rattle.desk.specs.declared.line.Line.{Line}
use Rattle.answers.specs.declared.answer.LineFault.TheVariants.{ActivityTooLarge, ReuseTooLarge}
use Rattle.answers.specs.declared.answer.Refusal.{Refusal}
use Rattle.answers.specs.declared.bundle.BundleFault.{BundleFault}

-- a book of one row: particulates in gas of industry 3240, 1 g/t of product (100 units a kilogram), no techniques
abbrev pub book : List ℕ
book =
    (40 ∷ 0 ∷ 0 ∷ 0 ∷ 1 ∷ 0 ∷ 0 ∷ 0 ∷ 16 ∷ 0 ∷ 0 ∷ 0 ∷ 40 ∷ 0 ∷ 0 ∷ 0 ∷ 168 ∷ 12 ∷ 0 ∷ 0 ∷ 0 ∷ 0 ∷ 0 ∷ 0 ∷ 0 ∷ 0 ∷ 2 ∷ 3 ∷ 1 ∷ 1 ∷ 0 ∷
    0 ∷ 1 ∷ 0 ∷ 0 ∷ 0 ∷ 0 ∷ 0 ∷ 0 ∷ 0 ∷ [])

-- a fugitive table without entries
abbrev pub no_entries : List ℕ
no_entries = 12 ∷ 0 ∷ 0 ∷ 0 ∷ 0 ∷ 0 ∷ 0 ∷ 0 ∷ 12 ∷ 0 ∷ 0 ∷ 0 ∷ []

-- an own book without rows
abbrev pub no_rows : List ℕ
no_rows = 16 ∷ 0 ∷ 0 ∷ 0 ∷ 0 ∷ 0 ∷ 0 ∷ 0 ∷ 16 ∷ 0 ∷ 0 ∷ 0 ∷ 16 ∷ 0 ∷ 0 ∷ 0 ∷ []

abbrev plain : Sources
plain = sources no_rows book no_entries

-- a line of direct discharge with so many kilograms of product, given by their two low bytes
abbrev line : (low high : ℕ) → List ℕ
line low high =
    (168 ∷ 12 ∷ replicate 14 0) ++ ((low ∷ high ∷ []) ++ replicate 46 0)

-- sheets in grams, of two lines each: 1,000 kg and 2,000 kg; 3,000 kg twice
abbrev sheet_of : (lines : List ℕ) → List ℕ
sheet_of lines = (144 ∷ 0 ∷ 0 ∷ 0 ∷ 2 ∷ 0 ∷ 2 ∷ 3 ∷ 16 ∷ 0 ∷ 0 ∷ 0 ∷ 1 ∷ 0 ∷ 0 ∷ 0 ∷ []) ++ lines

abbrev one_and_two : Lent
one_and_two = lent plain (sheet_of (line 232 3 ++ line 208 7))

abbrev three_twice : Lent
three_twice = lent plain (sheet_of (line 184 11 ++ line 184 11))

-- both results are lent with fifteen cells, each of which holds 7
abbrev cells : List ℕ
cells = replicate 15 7

-- ---- what the desk answers, and the exact cells that it leaves

abbrev one_and_two_exact : List ℕ
one_and_two_exact = 100000 ∷ 0 ∷ 0 ∷ 100000 ∷ 0 ∷ 200000 ∷ 0 ∷ 0 ∷ 200000 ∷ 0 ∷ 300000 ∷ 0 ∷ 0 ∷ 300000 ∷ 0 ∷ []

abbrev three_twice_exact : List ℕ
three_twice_exact = 300000 ∷ 0 ∷ 0 ∷ 300000 ∷ 0 ∷ 300000 ∷ 0 ∷ 0 ∷ 300000 ∷ 0 ∷ 600000 ∷ 0 ∷ 0 ∷ 600000 ∷ 0 ∷ []

worked : (answer_of one_and_two 15 ≡ Ok tt) × (answer_of three_twice 15 ≡ Ok tt)
    × (cells_after (Ok tt) (line_count one_and_two.sheet) (line_outcome one_and_two) cells ≡ one_and_two_exact)
    × (cells_after (Ok tt) (line_count three_twice.sheet) (line_outcome three_twice) cells ≡ three_twice_exact)
    × (unit_of_sheet one_and_two.sheet ≡ 100000)
unfolding answer_of by_files by_sources by_published fugitive_ok fugitive_header_ok book_ok book_header_ok file_ok every u32_at u16_at all row_ok fields_ok coefficient_at techniques_ok rises sheet_ok
    sheet_header_ok line_ok u64_at by_lines line_outcome account_of account_in book_for row_place line_of grades_at grades_bad is_given dust_of row_of row_index first row_has key_same key_from row_at treatment_of
    generated_of reading_at removed_of reused_of discharged_of cells_after table_of rows total unit_of
worked = (refl, refl, refl, refl, refl)

-- ---- the versions

-- one that refuses everything
pub refuses_everything : (r : Result ⊤ Refusal) (x y : List ℕ) → r ≢ Ok tt → Declared one_and_two cells cells r x y → ⊥
refuses_everything r x y refused p = refused (p.demand1.answer ∙ worked.0)

module _ (r : Result ⊤ Refusal) (x y : List ℕ) (p : Declared one_and_two cells cells r x y) where
  accepted : r ≡ Ok tt
  accepted = p.demand1.answer ∙ worked.0

  figures : x ≡ one_and_two_exact
  figures =
      p.tables.table
      ∙ ap (λ (o : Result ⊤ Refusal). cells_after o (line_count one_and_two.sheet) (line_outcome one_and_two) cells) accepted
      ∙ worked.2

  cell : (j : ℕ) → at x j ≡ at one_and_two_exact j
  cell j = ap (λ (t : List ℕ). at t j) figures

  -- one that does nothing
  pub does_nothing : x ≡ cells → ⊥
  does_nothing same = let e : ◌≡◌ {A = ℕ} 7 100000 = sym (ap (λ (t : List ℕ). at t 0) same) ∙ cell 0 in omega arith

  -- one that accounts for line 1 and copies it down
  pub copies_down : ((j : ℕ) → j < width → at x (width + j) ≡ at x j) → ⊥
  copies_down down = omega (arith, down 0 (omega arith), cell 0, cell 5)

  -- one that shows zeros
  pub shows_zeros : ((j : ℕ) → at y j ≡ 0) → ⊥
  shows_zeros zero =
      let low = rw (worked.4, cell 0) at ((p.demand3 accepted).cells 0 (omega arith)).low in
      omega (arith, zero 0)

-- one constant table, whatever the sheet
pub constant_table : (r q : Result ⊤ Refusal) (x y z : List ℕ) → Declared one_and_two cells cells r x y → Declared three_twice cells cells q x z → ⊥
constant_table r q x y z p h =
    let yes : q ≡ Ok tt = h.demand1.answer ∙ worked.1 in
    let three = h.tables.table ∙ ap (λ (o : Result ⊤ Refusal). cells_after o (line_count three_twice.sheet) (line_outcome three_twice) cells) yes
    ∙ worked.3 in
    let e : at x 0 ≡ 300000 = ap (λ (t : List ℕ). at t 0) three in
    omega (arith, cell r x y p 0)

-- one whose row search stops one row early: it misses the one row of this book
pub one_row_early : let key = key_at book (row_start book 0) in
    (r : RowSearch) → r ≡ row_from book (first (row_count book - 1) (row_has book key)) → r ≡ row_of book key → ⊥
unfolding row_of row_index first row_has key_same every key_from u16_at u32_at
one_row_early r early meant = let e : Miss ≡ Hit (row_at book 0) = sym early ∙ meant in clash (cc)

-- one that looks at the reuse before the masses: where these are too large the refusal is theirs, whatever the reuse
pub reuse_first : (from : Sources) (line : Line) → excessive line ≡ true → account_of from line ≡ Err ReuseTooLarge → ⊥
unfolding account_of account_in
reuse_first from line large h = let e : ◌≡◌ {A = Result TableRow LineFault} (Err ActivityTooLarge) (Err ReuseTooLarge) = rw large at h in clash (cc)

-- ---- a whole works

-- a sheet in grams without lines
abbrev no_lines : List ℕ
no_lines = 16 ∷ 0 ∷ 0 ∷ 0 ∷ 0 ∷ 0 ∷ 2 ∷ 3 ∷ 16 ∷ 0 ∷ 0 ∷ 0 ∷ 1 ∷ 0 ∷ 0 ∷ 0 ∷ []

-- two sheets with five cells each: one of no bytes, which is refused with 2, and one without lines, which is accepted
abbrev two_sheets : List ℕ
two_sheets =
    (44 ∷ 0 ∷ 0 ∷ 0 ∷ 2 ∷ 0 ∷ 0 ∷ 0 ∷ 5 ∷ 0 ∷ 0 ∷ 0 ∷ 28 ∷ 0 ∷ 0 ∷ 0 ∷ 0 ∷ 0 ∷ 0 ∷ 0 ∷ 28 ∷ 0 ∷ 0 ∷ 0 ∷ 16 ∷ 0 ∷ 0 ∷ 0 ∷ []) ++ no_lines

abbrev lent_two : Results
lent_two = results (replicate 10 7) (replicate 10 7) (7 ∷ 7 ∷ [])

worked_two : (bundle_outcome two_sheets 10 10 2 ≡ Ok tt) × (code_of (answer_of (lent plain (bundled two_sheets 0)) 5) ≡ 131072)
    × (code_of (answer_of (lent plain (bundled two_sheets 1)) 5) ≡ 0)
unfolding bundle_outcome bundle_ok bundle_header_ok entry_ok after_the_one_before roomy bundled
    answer_of by_files by_sources by_published fugitive_ok fugitive_header_ok book_ok book_header_ok file_ok every u32_at u16_at all row_ok fields_ok coefficient_at techniques_ok rises sheet_ok sheet_header_ok
    line_ok u64_at by_lines
worked_two = (refl, refl, refl)

-- one that gives one sheet's outcome to all, whatever it leaves in the runs
pub one_outcome : (r : Result ⊤ BundleFault) (after : Results) → BundleDeclared plain two_sheets lent_two r after
    → part_of after.outcomes 0 1 ≡ part_of after.outcomes 1 1 → ⊥
unfolding u16_at u32_at
one_outcome r after p same =
    let done = p.taken (p.answer ∙ worked_two.0) in
    let first = done.sheets 0 (omega arith) in
    let second = done.sheets 1 (omega arith) in
    let refused = ap code_of first.declared.demand1.answer ∙ worked_two.1 in
    let accepted = ap code_of second.declared.demand1.answer ∙ worked_two.2 in
    let codes = sym first.outcome ∙ same ∙ second.outcome in
    let e : code_of first.answer ≡ code_of second.answer = ap (λ (l : List ℕ). at l 0) codes in
    omega (arith, e, refused, accepted)
