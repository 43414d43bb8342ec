-- The three demands hold of what the desk answers and leaves, because of which answer and which tables these are.
use Prim.Native.Nat.{ℕ, zero, suc, ◌+◌, ◌*◌, ◌≤◌, ◌<◌, min}
use mathlib.Core.Path.{◌≡◌, refl, sym, ap, ◌∙◌}
use mathlib.Core.Bool.{true}
use mathlib.Core.List.{List, ◌++◌, append_assoc}
use mathlib.Core.Logic.{⊎_elim, ◌⊎◌, inl, inr, ◌≢◌}
use native.Mathlib.Omega.{arith}
use native.Mathlib.Nat.{le_of_suc-le-suc, eq-or-lt_of_le, not-suc-le-zero, mul-le-mul_right}
use lib.Dec.{leb, ltb}
use lib.ListN.{length, drop, replicate, get_or-append}
use lib.Seq.{drop_at}
use borrow.Author.Tests.{ltb-false}
use Rattle.std.specs.Prelude.{⊤, Result, Ok, Err, Option, Some, None}
use Rattle.search.proofs.LawTest.{clash, either_way}
use Rattle.amounts.specs.Line.{whole_share, amounts_of}
use Rattle.settle.specs.Shown.{at, sum}
use Rattle.desk.specs.Dust.{dust_of}
use Rattle.desk.specs.Lent.{Sources, Lent}
use Rattle.headers.specs.Book.{technique_block}
use Rattle.desk.specs.Book.{book_ok}
use Rattle.desk.specs.Entries.{fugitive_ok}
use Rattle.desk.specs.Row.{RowSearch, Hit, Miss, row_of}
use Rattle.desk.specs.Books.{book_for}
use Rattle.desk.specs.Line.{line_of}
use Rattle.headers.specs.Sheet.{line_count, most_lines}
use Rattle.desk.specs.Sheet.{sheet_ok}
use Rattle.desk.specs.Cells.{width, table_size, cells_of}
use Rattle.desk.specs.Account.{treatment_of, generated_of, in_water, by_treatment, by_dust, by_row, excessive, misgraded, account_in, account_of, line_outcome}
use Rattle.answers.specs.Answer.{file_rule, line_rule, answer_number, answer_line}
use Rattle.desk.specs.Table.{row_given, table_of, by_published, by_sources, by_sheet, or_next, by_files, or_line, by_lines, answer_of, cells_after}
use Rattle.desk.specs.Demands.{Between, OfFile, OfLine, LineDemand, cell_at, Demand2, Demand3}
use Rattle.desk.specs.Declare.{shown_after, BothAfter, Declared}
use Rattle.desk.specs.Inner.{right_lent, Right, Ready, LinesDeclared}
use Rattle.desk.specs.declared.right.RightFiles.{RightFiles}
use Rattle.desk.specs.declared.line.Line.{Line}
use Rattle.desk.specs.declared.row.Row.{Row}
use Rattle.desk.specs.declared.account.Treatment.{Treatment}
use Rattle.answers.specs.declared.answer.LineFault.{LineFault}
use Rattle.answers.specs.declared.answer.LineFault.{LineFault}
use Rattle.answers.specs.declared.answer.LineFault.TheVariants as of
use Rattle.answers.specs.declared.answer.Refusal.{Refusal}
use Rattle.answers.specs.declared.answer.Refusal.TheVariants as refusal
use Rattle.desk.specs.declared.cells.TableRow.{TableRow}
use Rattle.desk.proofs.LawColumns.{sum_same}
use Rattle.desk.proofs.LawBooks.{book_right}
use Rattle.desk.proofs.LawAccount.{line_sound}
use Rattle.desk.proofs.LawTable.{accepted_both, ready, lines_few, files_taken}
use Rattle.desk.proofs.LawDeclare.{line_cell, table_size_lem, columns_right}

-- ---- demand 1: numbers and lines

abbrev Numbered : (lines number line : ℕ) → Type 0
Numbered lines number line = OfFile number line ⊎ OfLine lines number line

abbrev OfFiles : (number : ℕ) → Type 0
OfFiles number = Between 1 3 number ⊎ (number ≡ 13)

abbrev OfLines : (number : ℕ) → Type 0
OfLines number = Between 4 11 number ⊎ Between 14 15 number

line_rules : (k : LineFault) → OfLines (line_rule k)
line_rules of.ActivityTooLarge = inl (record { low = omega arith; high = omega arith })
line_rules of.ReuseTooLarge = inl (record { low = omega arith; high = omega arith })
line_rules of.BadGrade = inr (record { low = omega arith; high = omega arith })
line_rules of.NoRow = inl (record { low = omega arith; high = omega arith })
line_rules of.NoFugitiveEntry = inr (record { low = omega arith; high = omega arith })
line_rules of.NoTechnique = inl (record { low = omega arith; high = omega arith })
line_rules of.WrongKind = inl (record { low = omega arith; high = omega arith })
line_rules of.BadReading = inl (record { low = omega arith; high = omega arith })
line_rules of.ZeroDivisor = inl (record { low = omega arith; high = omega arith })
line_rules of.KAboveOne = inl (record { low = omega arith; high = omega arith })

-- a whole file or result is refused by rules 1 to 3 or 13, and a refused line is one of so many
abbrev Within : (n : ℕ) (r : Result ⊤ Refusal) → Type 0
Within n (Ok _) = Unit
Within n (Err (refusal.File k)) = OfFiles (file_rule k)
Within n (Err (refusal.Line k line)) = (1 ≤ line) × (line ≤ n)

one_more : (n : ℕ) (r : Result ⊤ Refusal) (o : Result TableRow LineFault) → Within n r → Within (suc n) (or_line r o n)
one_more n (Ok _) (Ok row) h = tt
one_more n (Ok _) (Err k) h = (omega arith, omega arith)
one_more n (Err (refusal.File k)) o h = h
one_more n (Err (refusal.Line k line)) o h = (h.0, omega (arith, h.1))

lines_within : (n : ℕ) (l : ℕ → Result TableRow LineFault) → Within n (by_lines n l)
unfolding by_lines
lines_within zero l = tt
lines_within (suc n) l = one_more n (by_lines n l) (l n) (lines_within n l)

both_within : (n : ℕ) (first next : Result ⊤ Refusal) → Within 0 first → Within n next → Within n (or_next first next)
both_within n (Ok _) next h g = g
both_within n (Err (refusal.File k)) next h g = h
both_within n (Err (refusal.Line k line)) next h g = (h.0, omega (arith, h.0, h.1))

-- before the lines no line is refused
sources_within : (from : Sources) → Within 0 (by_sources from)
unfolding by_sources by_published
sources_within from =
    either_way (book_ok from.own)
    (λ o. either_way (book_ok from.book)
    (λ p. either_way (fugitive_ok from.fugitive) (λ q. rw (o, p, q) tt) (λ q. rw (o, p, q) (inr refl)))
    (λ p. rw (o, p) (inl (record { low = omega arith; high = omega arith }))))
    (λ o. rw o (inl (record { low = omega arith; high = omega arith })))

sheet_within : (s : List ℕ) (room : ℕ) → Within 0 (by_sheet s room)
sheet_within s room =
    either_way (sheet_ok s)
    (λ q. either_way (leb (table_size (line_count s)) room) (λ l. rw (q, l) tt) (λ l. rw (q, l) (inl (record { low = omega arith; high = omega arith }))))
    (λ q. rw q (inl (record { low = omega arith; high = omega arith })))

files_within : (f : Lent) (room : ℕ) → Within 0 (by_files f room)
unfolding by_files
files_within f room =
    both_within 0 (by_sources f.sources) (by_sheet f.sheet room) (sources_within f.sources) (sheet_within f.sheet room)

answer_within : (f : Lent) (room : ℕ) → Within (line_count f.sheet) (answer_of f room)
unfolding answer_of
answer_within f room =
    both_within (line_count f.sheet) (by_files f room) (by_lines (line_count f.sheet) (line_outcome f)) (files_within f room) (lines_within (line_count f.sheet) (line_outcome f))

numbered : (n : ℕ) (r : Result ⊤ Refusal) → Within n r → r ≢ Ok tt → Numbered n (answer_number r) (answer_line r)
numbered n (Ok _) h refused = absurd (refused refl)
numbered n (Err (refusal.File k)) h refused = inl (record { rule = h; none = refl })
numbered n (Err (refusal.Line k line)) h refused = inr (record { rule = line_rules k; some = h.0; within = h.1 })

-- an answer's line is one of a good sheet, or 0
pub answer_line_small : (f : Lent) (room : ℕ) → answer_line (answer_of f room) ≤ most_lines
unfolding answer_of
answer_line_small f room =
    go (by_files f room) (by_lines (line_count f.sheet) (line_outcome f)) refl (files_within f room) (lines_within (line_count f.sheet) (line_outcome f))
  where
    go : (files lines : Result ⊤ Refusal) → by_files f room ≡ files → Within 0 files → Within (line_count f.sheet) lines
        → answer_line (or_next files lines) ≤ most_lines
    go (Err (refusal.File k)) lines e h g = omega arith
    go (Err (refusal.Line k line)) lines e h g = absurd (omega (arith, h.0, h.1))
    go (Ok _) (Ok _) e h g = omega arith
    go (Ok _) (Err (refusal.File k)) e h g = omega arith
    go (Ok _) (Err (refusal.Line k line)) e h g = omega (arith, g.1, lines_few f.sheet (ready f room e).sheet)

-- ---- demand 2: a line that gives a row

abbrev RowDemand : (from : Sources) (line : Line) (row : TableRow) → Type 0
RowDemand from line row = LineDemand from line row.generated row.removed row.reused row.discharged row.fugitive

module _ (from : Sources) (line : Line) (good : book_ok (book_for from line.key) ≡ true) (reuse : line.reuse ≤ whole_share) where
  abbrev book : List ℕ
  book = book_for from line.key

  abbrev block : List ℕ
  block = technique_block book

  module _ (row : Row) (hit : row_of book line.key ≡ Hit row) where
    treatment_demand : (k : Result Treatment LineFault) (F : ℕ) (given : TableRow) → treatment_of block row line.technique line.reading ≡ k
        → dust_of from.fugitive line ≡ Some F → by_treatment row line F k ≡ Ok given → RowDemand from line given
    treatment_demand (Err fault) F given by dust h = clash (cc)
    treatment_demand (Ok k) F given by dust h =
        let e = k.efficiency in
        let n = k.ran.n in
        let d = k.ran.d in
        let a = amounts_of (generated_of row line) e n d line.reuse (in_water line) in
        let holds = line_sound book line row e n d good reuse hit by in
        let g : a.generated + F ≡ given.generated = cc in
        let r : a.removed ≡ given.removed = cc in
        let u : a.reused ≡ given.reused = cc in
        let x : a.discharged ≡ given.discharged = cc in
        let y : F ≡ given.fugitive = cc in
        rw (← g, ← r, ← u, ← x, ← y)
        (record {
          row = row;
          efficiency = e;
          n = n;
          d = d;
          found = hit;
          treated = by;
          escapes = dust;
          ducted = generated_of row line;
          meets = refl;
          generated = refl;
          removed = refl;
          reused = refl;
          discharged = refl;
          sound = holds;
          adds = omega (arith, holds.sum);
        })

    dust_demand : (dust : Option ℕ) (given : TableRow) → dust_of from.fugitive line ≡ dust → by_dust block row line dust ≡ Ok given
        → RowDemand from line given
    dust_demand None given e h = clash (cc)
    dust_demand (Some F) given e h = treatment_demand _ F given refl e h

  row_demand : (found : RowSearch) (given : TableRow) → row_of book line.key ≡ found
      → by_row block from.fugitive line found ≡ Ok given → RowDemand from line given
  row_demand Miss given e h = clash (cc)
  row_demand (Hit row) given e h = dust_demand row e (dust_of from.fugitive line) given refl h

account_demand : (from : Sources) (line : Line) (given : TableRow) → Right from → account_of from line ≡ Ok given → RowDemand from line given
unfolding account_of account_in
account_demand from line given right h =
    either_way (excessive line)
    (λ p. let r : Err of.ActivityTooLarge ≡ Ok given = rw p at h in clash (cc))
    (λ p. either_way (ltb whole_share line.reuse)
    (λ q. let r : Err of.ReuseTooLarge ≡ Ok given = rw (p, q) at h in clash (cc))
    (λ q. either_way (misgraded line)
    (λ g. let r : Err of.BadGrade ≡ Ok given = rw (p, q, g) at h in clash (cc))
    (λ g. row_demand from line (book_right from line.key right.own right.book) (ltb-false whole_share line.reuse q)
    (row_of (book_for from line.key) line.key) given refl (rw (p, q, g) at h))))

-- every line of an accepted sheet gives a row
both_given : (r : Result ⊤ Refusal) (o : Result TableRow LineFault) (n : ℕ) → or_line r o n ≡ Ok tt → (r ≡ Ok tt) × ((row : TableRow) × (o ≡ Ok row))
both_given (Ok _) (Ok row) n h = (refl, (row, refl))
both_given (Ok _) (Err k) n h = clash (cc)
both_given (Err refused) o n h = clash (cc)

all_given : (n : ℕ) (l : ℕ → Result TableRow LineFault) → by_lines n l ≡ Ok tt → (i : ℕ) → i < n → (row : TableRow) × (l i ≡ Ok row)
unfolding by_lines
all_given zero l h i k = absurd (not-suc-le-zero k)
all_given (suc n) l h i k =
    let g = both_given (by_lines n l) (l n) n h in
    ⊎_elim (λ (q : i ≡ n). (g.1.0, ap l q ∙ g.1.1)) (λ (m : i < n). all_given n l g.0 i m) (eq-or-lt_of_le (le_of_suc-le-suc k))

pub accepted : (f : Lent) (room : ℕ) → answer_of f room ≡ Ok tt → (by_files f room ≡ Ok tt) × (by_lines (line_count f.sheet) (line_outcome f) ≡ Ok tt)
unfolding answer_of
accepted f room h = accepted_both (by_files f room) (by_lines (line_count f.sheet) (line_outcome f)) h

-- ---- the promise, from which answer and which tables these are

module _ (f : Lent) (exact shown : List ℕ) (r : Result ⊤ Refusal) (exact' shown' : List ℕ) where
  module _ (answer : r ≡ answer_of f (min (length exact) (length shown))) (both : BothAfter f exact shown r exact' shown') where
    module _ (yes : r ≡ Ok tt) where
      by_both : (by_files f (min (length exact) (length shown)) ≡ Ok tt) × (by_lines (line_count f.sheet) (line_outcome f) ≡ Ok tt)
      by_both = accepted f _ (sym answer ∙ yes)

      is_ready : Ready f (min (length exact) (length shown))
      is_ready = ready f _ by_both.0

      cells_are : exact' ≡ cells_after (Ok tt) (line_count f.sheet) (line_outcome f) exact
      cells_are = rw yes at both.table

      line_given : (i : ℕ) (row : TableRow) → line_outcome f i ≡ Ok row → RowDemand f.sources (line_of f.sheet i) row
      unfolding line_outcome
      line_given i row g = account_demand f.sources (line_of f.sheet i) row is_ready.sources g

      cell_is : (i j : ℕ) (row : TableRow) → i < line_count f.sheet → j < width → line_outcome f i ≡ Ok row
          → cell_at exact' i j ≡ at (cells_of row) j
      unfolding cells_after table_of
      cell_is i j row h k g =
          let n = line_count f.sheet in
          let stands : cell_at exact' i j ≡ at (cells_of (row_given (line_outcome f i))) j = rw (cells_are, append_assoc) (line_cell (line_outcome f) n i j _ h k) in
          stands ∙ ap (λ (o : Result TableRow LineFault). at (cells_of (row_given o)) j) g

      line_demand : (i : ℕ) → i < line_count f.sheet
          → LineDemand f.sources (line_of f.sheet i)
          (cell_at exact' i 0) (cell_at exact' i 1) (cell_at exact' i 2) (cell_at exact' i 3) (cell_at exact' i 4)
      line_demand i h =
          let given = all_given (line_count f.sheet) (line_outcome f) by_both.1 i h in
          let row = given.0 in
          let stands : (j : ℕ) → j < width → cell_at exact' i j ≡ at (cells_of row) j = λ j k. cell_is i j row h k given.1 in
          rw (stands 0 (omega arith), stands 1 (omega arith), stands 2 (omega arith), stands 3 (omega arith), stands 4 (omega arith)) (line_given i row given.1)

      totals_are : (j : ℕ) → j < width → cell_at exact' (line_count f.sheet) j ≡ sum exact' j width (line_count f.sheet)
      unfolding cells_after
      totals_are j h =
          let n = line_count f.sheet in
          let t = table_of n (line_outcome f) in
          let past = drop (table_size n) exact in
          let size = table_size_lem (line_outcome f) n in
          let right = columns_right (line_outcome f) n j h in
          let here = get_or-append t past 0 (n * width + j) (omega arith) in
          let sums = sum_same (t ++ past) t j j width n
          (λ k l. get_or-append t past 0 (j + k * width) (omega (arith, mul-le-mul_right width l))) in
          rw cells_are (here ∙ right ∙ sym sums)

      demand_2 : Demand2 f exact'
      demand_2 = record { lines = line_demand; totals = totals_are }

      exact_past_lem : drop (table_size (line_count f.sheet)) exact' ≡ drop (table_size (line_count f.sheet)) exact
      unfolding cells_after
      exact_past_lem =
          let n = line_count f.sheet in
          rw cells_are (drop_at (table_of n (line_outcome f)) (drop (table_size n) exact) (table_size n) (omega (arith, table_size_lem (line_outcome f) n)))

    module _ (no : r ≢ Ok tt) where
      both_zero : (o : Result ⊤ Refusal) → r ≡ o → (exact' ≡ replicate (length exact) 0) × (shown' ≡ replicate (length shown) 0)
      unfolding cells_after shown_after
      both_zero (Ok _) e = absurd (no e)
      both_zero (Err refused) e = (rw e at both.table, rw e at both.shows)

      is_numbered : OfFile (answer_number r) (answer_line r) ⊎ OfLine (line_count f.sheet) (answer_number r) (answer_line r)
      is_numbered = numbered _ r (rw answer (answer_within f (min (length exact) (length shown)))) no

    -- what the shown table keeps past it, and that it is allowed, is known where it is made
    pub declared : (r ≡ Ok tt → drop (table_size (line_count f.sheet)) shown' ≡ drop (table_size (line_count f.sheet)) shown)
        → (r ≡ Ok tt → Demand3 f exact' shown') → Declared f exact shown r exact' shown'
    declared past allowed =
        record {
          demand1 = record {
            answer = answer;
            numbered = is_numbered;
            exact_zero = λ no. (both_zero no r refl).0;
            shown_zero = λ no. (both_zero no r refl).1;
            exact_past = exact_past_lem;
            shown_past = past;
          };
          demand2 = demand_2;
          demand3 = allowed;
          tables = both;
        }

-- where no file is refused the lines decide
pub declared_lines : (files : RightFiles) {f : Lent} (exact shown : List ℕ) {r : Result ⊤ Refusal} {exact' shown' : List ℕ} → right_lent files ≡ f
    → table_size (line_count files.sheet.bytes.now) ≤ min (length exact) (length shown) → LinesDeclared (right_lent files) exact shown r exact' shown'
    → Declared f exact shown r exact' shown'
unfolding answer_of
declared_lines files exact shown same fits lines =
    rw (← same)
    (declared _ _ _ _ _ _ (rw (files_taken files _ fits) lines.answer) lines.tables lines.past lines.allowed)
