-- What an account depends on: of a reading the k that it gives, and of a sheet whether it is right, its lines' outcomes and its shown unit.
use Prim.Native.Nat.{ℕ, zero, suc, ◌<◌, min}
use mathlib.Core.Path.{◌≡◌, refl, ap, ◌∙◌}
use mathlib.Core.List.{List}
use native.Mathlib.Omega.{arith}
use lib.Dec.{eqb}
use lib.ListN.{length}
use borrow.Author.Tests.{eqb-false}
use Rattle.std.specs.Prelude.{Option, Some, None, ⊤, Result, Ok, Err}
use Rattle.search.proofs.LawTest.{either_way}
use Rattle.headers.specs.Book.{technique_block}
use Rattle.headers.specs.Sheet.{line_count}
use Rattle.headers.specs.Unit.{unit_of_sheet}
use Rattle.shares.specs.Share.{share_by}
use Rattle.shares.specs.declared.share.Reading.{Reading}
use Rattle.desk.specs.Lent.{Sources, lent}
use Rattle.desk.specs.Row.{RowSearch, Hit, Miss, row_of}
use Rattle.desk.specs.Books.{book_for}
use Rattle.desk.specs.Sheet.{sheet_ok}
use Rattle.desk.specs.Technique.{technique_index}
use Rattle.desk.specs.Dust.{entry_index, dust_by, dust_of}
use Rattle.desk.specs.Account.{by_technique, treatment_of, generated_of, by_treatment, by_dust, by_row, account_in, account_of, line_outcome}
use Rattle.desk.specs.Table.{rows, total, table_of, by_files, by_lines, answer_of, cells_after}
use Rattle.desk.specs.Declare.{shown_after, Declared}
use Rattle.desk.specs.declared.cells.TableRow.{TableRow}
use Rattle.desk.specs.declared.line.Line.{Line}
use Rattle.desk.specs.declared.row.Row.{Row}
use Rattle.desk.specs.declared.account.Treatment.{Treatment}
use Rattle.answers.specs.declared.answer.LineFault.{LineFault}
use Rattle.answers.specs.declared.answer.Refusal.{Refusal}
use Rattle.desk.proofs.LawDemands.{declared}

-- ---- a line

-- the line with another reading
abbrev pub with_reading : Line → Reading → Line
with_reading line reading =
    record {
      key = line.key;
      technique = line.technique;
      reuse = line.reuse;
      product = line.product;
      material = line.material;
      reading = reading;
      grades = line.grades;
    }

-- what a treatment makes of the line does not depend on the reading
made_alike : (row : Row) (line : Line) (one other : Reading) (F : ℕ) (k : Result Treatment LineFault)
    → by_treatment row (with_reading line one) F k ≡ by_treatment row (with_reading line other) F k
unfolding generated_of
made_alike row line one other F (Err fault) = refl
made_alike row line one other F (Ok k) = refl

-- nor does what escapes
place_alike : (f : List ℕ) (line : Line) (one other : Reading) (place : Option ℕ)
    → dust_by f (with_reading line one) place ≡ dust_by f (with_reading line other) place
place_alike f line one other None = refl
place_alike f line one other (Some i) = refl

dust_alike : (f : List ℕ) (line : Line) (one other : Reading) → dust_of f (with_reading line one) ≡ dust_of f (with_reading line other)
unfolding dust_of
dust_alike f line one other = rw (place_alike f line one other (entry_index f line.key))

module _ (t : List ℕ) (row : Row) (one other : Reading) where
  pub technique_alike : share_by one row.rule ≡ share_by other row.rule → (place : Option ℕ)
      → by_technique t row one place ≡ by_technique t row other place
  technique_alike alike None = refl
  technique_alike alike (Some j) = rw alike

  -- technique 0 looks at no reading
  treatment_alike : (technique : ℕ) → ((technique ≡ 0 → ⊥) → share_by one row.rule ≡ share_by other row.rule)
      → treatment_of t row technique one ≡ treatment_of t row technique other
  unfolding treatment_of
  treatment_alike technique alike =
      either_way (eqb technique 0)
      (λ z. rw z)
      (λ z. rw (z, technique_alike (alike (eqb-false technique 0 z)) (technique_index t row.first row.techniques technique)))

module _ (b f : List ℕ) (line : Line) (one other : Reading)
    (alike : (row : Row) → row_of b line.key ≡ Hit row → (line.technique ≡ 0 → ⊥) → share_by one row.rule ≡ share_by other row.rule) where
  abbrev block : List ℕ
  block = technique_block b

  escaped_alike : (row : Row) → row_of b line.key ≡ Hit row → (dust : Option ℕ)
      → by_dust block row (with_reading line one) dust ≡ by_dust block row (with_reading line other) dust
  escaped_alike row e None = refl
  escaped_alike row e (Some F) =
      let same = treatment_alike block row one other line.technique (alike row e) in
      rw (same, made_alike row line one other F (treatment_of block row line.technique other))

  row_alike : (found : RowSearch) → row_of b line.key ≡ found
      → by_row block f (with_reading line one) found ≡ by_row block f (with_reading line other) found
  row_alike Miss e = refl
  row_alike (Hit row) e = rw (dust_alike f line one other, escaped_alike row e (dust_of f (with_reading line other)))

  one_book_alike : account_in b f (with_reading line one) ≡ account_in b f (with_reading line other)
  unfolding account_in
  one_book_alike = rw (row_alike (row_of b line.key) refl)

pub account_alike : (from : Sources) (line : Line) (one other : Reading) → let book = book_for from line.key in
    ((row : Row) → row_of book line.key ≡ Hit row → (line.technique ≡ 0 → ⊥) → share_by one row.rule ≡ share_by other row.rule)
    → account_of from (with_reading line one) ≡ account_of from (with_reading line other)
unfolding account_of
account_alike from line one other alike = one_book_alike (book_for from line.key) from.fugitive line one other alike

-- ---- lines that answer alike

module _ (l m : ℕ → Result TableRow LineFault) where
  rows_alike : (n : ℕ) → ((i : ℕ) → i < n → l i ≡ m i) → rows n l ≡ rows n m
  unfolding rows
  rows_alike zero each = refl
  rows_alike (suc n) each = rw (rows_alike n (λ i h. each i (omega arith)), each n (omega arith))

  total_alike : (n : ℕ) → ((i : ℕ) → i < n → l i ≡ m i) → total n l ≡ total n m
  unfolding total
  total_alike zero each = refl
  total_alike (suc n) each = rw (total_alike n (λ i h. each i (omega arith)), each n (omega arith))

  pub table_alike : (n : ℕ) → ((i : ℕ) → i < n → l i ≡ m i) → table_of n l ≡ table_of n m
  unfolding table_of
  table_alike n each = rw (rows_alike n each, total_alike n each)

  pub lines_alike : (n : ℕ) → ((i : ℕ) → i < n → l i ≡ m i) → by_lines n l ≡ by_lines n m
  unfolding by_lines
  lines_alike zero each = refl
  lines_alike (suc n) each = rw (lines_alike n (λ i h. each i (omega arith)), each n (omega arith))

-- ---- sheets that account alike

module _ (from : Sources) (s s' : List ℕ) (right : sheet_ok s ≡ sheet_ok s') (count : line_count s ≡ line_count s')
    (each : (i : ℕ) → i < line_count s → line_outcome (lent from s) i ≡ line_outcome (lent from s') i) where
  pub answers_alike : (room : ℕ) → answer_of (lent from s) room ≡ answer_of (lent from s') room
  unfolding answer_of by_files
  answers_alike room =
      rw (lines_alike (line_outcome (lent from s)) (line_outcome (lent from s')) (line_count s) each, right, count)

  pub tables_alike : table_of (line_count s) (line_outcome (lent from s)) ≡ table_of (line_count s') (line_outcome (lent from s'))
  tables_alike =
      table_alike (line_outcome (lent from s)) (line_outcome (lent from s')) (line_count s) each
      ∙ ap (λ (n : ℕ). table_of n (line_outcome (lent from s'))) count

  module _ (unit : unit_of_sheet s ≡ unit_of_sheet s') where
    exact_after : (r : Result ⊤ Refusal) (cells : List ℕ)
        → cells_after r (line_count s) (line_outcome (lent from s)) cells ≡ cells_after r (line_count s') (line_outcome (lent from s')) cells
    unfolding cells_after
    exact_after (Ok _) cells = rw (tables_alike, count)
    exact_after (Err refused) cells = refl

    pub shown_alike : (r : Result ⊤ Refusal) (cells : List ℕ) → shown_after r (lent from s) cells ≡ shown_after r (lent from s') cells
    unfolding shown_after
    shown_alike (Ok _) cells = rw (tables_alike, unit, count)
    shown_alike (Err refused) cells = refl

    pub declared_alike : (exact shown : List ℕ) (r : Result ⊤ Refusal) (exact' shown' : List ℕ) → Declared (lent from s) exact shown r exact' shown'
        → Declared (lent from s') exact shown r exact' shown'
    declared_alike exact shown r exact' shown' promised =
        let both = promised.tables in
        declared (lent from s') exact shown r exact' shown' (promised.demand1.answer ∙ answers_alike (min (length exact) (length shown)))
        (record { table = both.table ∙ exact_after r exact; shows = both.shows ∙ shown_alike r shown })
        (λ yes. rw count at (promised.demand1.shown_past yes))
        (λ yes. rw (unit, count) at (promised.demand3 yes))
