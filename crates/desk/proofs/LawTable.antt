-- What one more line does to the table, its sums and the answer; and what is left once no file is refused.
use Prim.Native.Nat.{ℕ, zero, suc, ◌+◌, ◌*◌, ◌≤◌, ◌<◌}
use mathlib.Core.Path.{◌≡◌, refl}
use mathlib.Core.Bool.{true}
use mathlib.Core.List.{List, [], ◌∷◌, ◌++◌, append_assoc}
use mathlib.Core.Logic.{⊎_elim, ◌≢◌}
use native.Mathlib.Numerals.{add-one}
use native.Mathlib.Nat.{not-suc-le-zero, le_of_suc-le-suc, eq-or-lt_of_le}
use native.Mathlib.Omega.{arith}
use lib.Dec.{leb}
use lib.ListN.{length, set, drop, replicate, length-append}
use borrow.Author.Tests.{leb-true, le-leb}
use Rattle.std.specs.Prelude.{⊤, Result, Ok, Err, is_err}
use Rattle.search.proofs.LawTest.{clash, either_way, and_left, and_right, every_at}
use Rattle.little.proofs.LawPart.{put_part}
use Rattle.settle.specs.Shown.{sum}
use Rattle.desk.specs.Lent.{Sources, Lent}
use Rattle.headers.specs.House.{file_ok}
use Rattle.desk.specs.Book.{book_ok}
use Rattle.desk.specs.Entries.{fugitive_ok}
use Rattle.headers.specs.Sheet.{sheet_header, sheet_header_size, sheet_fits, sheet_header_ok, line_count, most_lines}
use Rattle.desk.specs.Sheet.{lines_ok, sheet_ok}
use Rattle.desk.specs.Cells.{width, table_size, cells_of, plus}
use Rattle.desk.specs.Tally.{add}
use Rattle.desk.specs.Table.{row_given, rows, total, table_of, by_sheet, by_published, by_sources, or_next, by_files, by_lines, answer_of, cells_after, ExactTable}
use Rattle.desk.specs.Account.{line_outcome}
use Rattle.desk.specs.declared.right.RightSources.{RightSources}
use Rattle.desk.specs.declared.right.RightFiles.{RightFiles}
use Rattle.desk.specs.Inner.{Fitting, LineThere, right_contents, right_lent, Right, Ready, Filled, with_row}
use Rattle.answers.specs.declared.answer.LineFault.{LineFault}
use Rattle.answers.specs.declared.answer.Refusal.{Refusal}
use Rattle.answers.specs.declared.answer.Refusal.TheVariants.{Line}
use Rattle.answers.specs.declared.answer.LineFault.{LineFault}
use Rattle.desk.specs.declared.cells.TableRow.{TableRow}
use Rattle.desk.specs.declared.tally.Tally.{Tally}
use Rattle.desk.proofs.LawAccount.{Balances, line_most}
use Rattle.desk.proofs.LawBook.{line_in_lem}
use Rattle.desk.proofs.LawColumns.{zip, zip_at, Balanced, balanced_cell, balanced_more}

-- an outcome whose case is not the first is a refusal
pub refusal : (r : Result ⊤ Refusal) → is_err r ≡ true → r ≢ Ok tt
refusal (Ok _) h e = clash (cc)
refusal (Err fault) h e = clash (cc)

pub refused : {fault : Refusal} → ◌≢◌ {A = Result ⊤ Refusal} (Err fault) (Ok tt)
refused e = clash (cc)

-- what is refused first leaves nothing to the next
pub refused_first : (first next : Result ⊤ Refusal) → first ≢ Ok tt → first ≡ or_next first next
refused_first (Ok _) next never = absurd (never refl)
refused_first (Err fault) next never = refl

-- nothing is refused where neither of two answers refuses
pub accepted_both : (first next : Result ⊤ Refusal) → or_next first next ≡ Ok tt → (first ≡ Ok tt) × (next ≡ Ok tt)
accepted_both (Ok _) next h = (refl, h)
accepted_both (Err refused) next h = clash (cc)

-- a refusal is the same, whatever is given where nothing is refused
pub refused_alike : {A B : Type 0} {one other : Refusal} → ◌≡◌ {A = Result A Refusal} (Err one) (Err other)
    → ◌≡◌ {A = Result B Refusal} (Err other) (Err one)
refused_alike {A} {B} {one} {other} h = let e : other ≡ one = cc in rw e refl

-- five stores fill a part of five cells
pub five_sets : (l : List ℕ) (a b c d e : ℕ) → length l ≡ 5 → set (set (set (set (set l 0 a) 1 b) 2 c) 3 d) 4 e ≡ (a ∷ b ∷ c ∷ d ∷ e ∷ [])
five_sets [] a b c d e h = absurd (omega arith)
five_sets (x ∷ []) a b c d e h = absurd (omega arith)
five_sets (x ∷ y ∷ []) a b c d e h = absurd (omega arith)
five_sets (x ∷ y ∷ z ∷ []) a b c d e h = absurd (omega arith)
five_sets (x ∷ y ∷ z ∷ w ∷ []) a b c d e h = absurd (omega arith)
five_sets (x ∷ y ∷ z ∷ w ∷ v ∷ []) a b c d e h = refl
five_sets (x ∷ y ∷ z ∷ w ∷ v ∷ u ∷ l) a b c d e h = absurd (omega arith)

-- ---- what one more line does to the table, its sums and the answer

module _ (l : ℕ → Result TableRow LineFault) where
  pub length_rows : (i : ℕ) → length (rows i l) ≡ width * i
  unfolding rows
  length_rows zero = refl
  length_rows (suc i) = omega (arith, length-append (rows i l) (cells_of (row_given (l i))), length_rows i)

  module _ (i : ℕ) {row : TableRow} (e : l i ≡ Ok row) where
    pub rows_step : (c : List ℕ) {x y : List ℕ} → x ≡ rows i l ++ drop (width * i) c → y ≡ with_row i row x
        → y ≡ rows (i + 1) l ++ drop (width * (i + 1)) c
    unfolding rows
    rows_step c p q =
        rw (q, p, add-one i, e)
        (rw (put_part width i (rows i l) c (cells_of row) (length_rows i), add-one i, append_assoc))

    pub total_step : {t r : Tally} → t ≡ total i l → r ≡ add t row → r ≡ total (i + 1) l
    unfolding total
    total_step p q = rw (add-one i, e, q, p)

    pub answer_step : by_lines i l ≡ Ok tt → by_lines (i + 1) l ≡ Ok tt
    unfolding by_lines
    answer_step p = rw (add-one i, p, e)

  pub answer_refused : (i n : ℕ) {k : LineFault} → l i ≡ Err k → by_lines i l ≡ Ok tt → i < n → Err (Line k (i + 1)) ≡ by_lines n l
  unfolding by_lines
  answer_refused i zero e p h = absurd (not-suc-le-zero h)
  answer_refused i (suc m) e p h =
      ⊎_elim (λ q. rw (← q, p, e)) (λ lt. rw (← answer_refused i m e p lt)) (eq-or-lt_of_le (le_of_suc-le-suc h))

  -- ---- the cells

  pub refused_cells : (r : Result ⊤ Refusal) (n : ℕ) (c x : List ℕ) → r ≢ Ok tt → x ≡ replicate (length c) 0 → x ≡ cells_after r n l c
  unfolding cells_after
  refused_cells (Ok _) n c x never h = absurd (never refl)
  refused_cells (Err fault) n c x never h = h

  pub accepted_cells : (n : ℕ) (c : List ℕ) {x y : List ℕ} {t : Tally} → x ≡ rows n l ++ drop (width * n) c → t ≡ total n l
      → y ≡ with_row n t.sums x → y ≡ cells_after (Ok tt) n l c
  unfolding cells_after table_of
  accepted_cells n c p q s =
      rw (s, p, q) (rw (put_part width n (rows n l) c (cells_of (total n l).sums) (length_rows n), append_assoc))

  -- ---- the sums, where every line's row balances

  module _ (f : (k : ℕ) → Balances (l k)) where
    given_balanced : (o : Result TableRow LineFault) → Balances o → Balanced width line_most (cells_of (row_given o))
    unfolding sum
    given_balanced (Ok row) h = h
    given_balanced (Err fault) h = record { adds = refl; small = omega arith }

    pub line_balanced : (k : ℕ) → Balanced width line_most (cells_of (row_given (l k)))
    line_balanced k = given_balanced (l k) (f k)

    pub total_balanced : (i : ℕ) → Balanced width (line_most * i) (cells_of (total i l).sums)
    unfolding total sum zip
    total_balanced zero = record { adds = refl; small = omega arith }
    total_balanced (suc i) =
        let sums = (total i l).sums in
        let row = row_given (l i) in
        let more : Balanced width (line_most * i + line_most) (cells_of (plus sums row)) =
        balanced_more (zip_at (cells_of sums) (cells_of row) refl) (total_balanced i) (line_balanced i) in
        let e : line_most * i + line_most ≡ line_most * suc i = omega arith in
        rw e at more

    -- one more line's row fits the tally: 128 × (10^17 + 3 × 65,535 × 100 × 10^9) is below 2^64
    pub tally_fits : (i : ℕ) {t : Tally} {row : TableRow} → i < most_lines → t ≡ total i l → l i ≡ Ok row → Fitting t row
    tally_fits i {t} {row} h p e =
        let x : Balanced width (line_most * i) (cells_of t.sums) = rw p (total_balanced i) in
        let y : Balanced width line_most (cells_of row) = rw e at (line_balanced i) in
        λ j k. omega (arith, balanced_cell x j k, balanced_cell y j k)

-- ---- what is not refused before the lines

pub sources_right : (from : Sources) → by_sources from ≡ Ok tt → Right from
unfolding by_sources by_published
sources_right from h =
    either_way (book_ok from.own)
    (λ o. either_way (book_ok from.book)
    (λ p. either_way (fugitive_ok from.fugitive) (λ q. record { own = o; book = p; fugitive = q }) (λ q. clash (cc)))
    (λ p. clash (cc)))
    (λ o. clash (cc))

pub lines_few : (s : List ℕ) → sheet_ok s ≡ true → line_count s ≤ most_lines
unfolding sheet_ok sheet_header_ok
lines_few s h =
    let header = and_left (sheet_header_ok s) (lines_ok s) h in
    leb-true (line_count s) most_lines (every_at _ (and_right (file_ok s 0 sheet_header_size) (sheet_fits (sheet_header s)) header) 0)

pub ready : (f : Lent) (room : ℕ) → by_files f room ≡ Ok tt → Ready f room
unfolding by_files
ready f room h =
    let both = accepted_both (by_sources f.sources) (by_sheet f.sheet room) h in
    let rest = both.1 in
    either_way (sheet_ok f.sheet)
    (λ q. either_way (leb (table_size (line_count f.sheet)) room)
    (λ r. record { sources = sources_right f.sources both.0; sheet = q; fits = leb-true (table_size (line_count f.sheet)) room r })
    (λ r. clash (cc)))
    (λ q. clash (cc))

-- each line of a right sheet is there
pub right_line_there : (s : List ℕ) → sheet_ok s ≡ true → (i : ℕ) → i < line_count s → LineThere s i
unfolding sheet_ok
right_line_there s h i l =
    let few = lines_few s h in
    record { small = omega arith; lies = line_in_lem s (and_left (sheet_header_ok s) (lines_ok s) h) i l }

-- ---- what is known of files whose types say that they are right

pub sources_are_right : (from : RightSources) → Right (right_contents from)
sources_are_right from = record { own = from.own.right; book = from.book.right; fugitive = from.fugitive.right }

pub sources_taken : (from : RightSources) → by_sources (right_contents from) ≡ Ok tt
unfolding by_sources by_published
sources_taken from = rw (from.own.right, from.book.right, from.fugitive.right) refl

pub files_taken : (files : RightFiles) (room : ℕ) → table_size (line_count files.sheet.bytes.now) ≤ room → by_files (right_lent files) room ≡ Ok tt
unfolding by_files
files_taken files room fits = rw (sources_taken files.sources, files.sheet.right, le-leb _ _ fits) refl

-- where the lines decide
pub exact_filled : (files : RightFiles) {f : Lent} (cells : List ℕ) {r : Result ⊤ Refusal} {after : List ℕ} → right_lent files ≡ f
    → table_size (line_count files.sheet.bytes.now) ≤ length cells → Filled (line_count files.sheet.bytes.now) (line_outcome (right_lent files)) cells r after
    → ExactTable f cells r after
unfolding answer_of
exact_filled files cells same fits filled =
    rw (← same) (record { answer = rw (files_taken files (length cells) fits) filled.answer; table = filled.table })
