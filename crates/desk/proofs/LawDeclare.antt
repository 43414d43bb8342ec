-- An exact table is one that can be settled: its sums are right and its cells are small. And what follows for the shown cells.
use Prim.Native.Nat.{ℕ, zero, suc, ◌+◌, ◌*◌, ◌-◌, ◌/◌, ◌%◌, ◌≤◌, ◌<◌}
use mathlib.Core.Path.{◌≡◌, refl, sym, ap, subst, ◌∙◌}
use mathlib.Core.Bool.{Bool, true, false, cond}
use mathlib.Core.List.{List, ◌++◌, append_assoc}
use mathlib.Core.Logic.{⊎_elim, ◌≢◌}
use native.Mathlib.Omega.{arith}
use native.Mathlib.Nat.{le_of_suc-le-suc, eq-or-lt_of_le, div-add-mod', mod-lt, div-lt_iff_lt-mul}
use lib.ListN.{length, take, drop, replicate, length-append, get_or-append}
use lib.Seq.{get_or-append-add, take_at, drop_at}
use lib.Dec.{eqb, lit<, lit≤}
use Rattle.std.specs.Prelude.{⊤, Result, Ok, Err}
use Rattle.little.specs.Read.{AreBytes}
use Rattle.settle.specs.declared.Grid.{Grid}
use Rattle.settle.specs.Grid.{area}
use Rattle.settle.specs.Shown.{at, Whole, sum, Sums, Shown}
use Rattle.settle.specs.Table.{limit, Good}
use Rattle.settle.specs.Step.{shown_table}
use Rattle.settle.specs.Answer.{AnswersShow}
use Rattle.settle.specs.declared.Unsettled.{Unsettled}
use Rattle.settle.proofs.LawAnswer.{showing}
use Rattle.settle.proofs.LawShown.{shown_length, shown_law, shown_more}
use Rattle.desk.specs.Lent.{Lent}
use Rattle.headers.specs.Sheet.{sheet_header, line_count, most_lines}
use Rattle.desk.specs.Sheet.{sheet_ok}
use Rattle.desk.specs.Account.{line_outcome}
use Rattle.desk.specs.Cells.{width, table_size, cells_of}
use Rattle.desk.specs.Table.{row_given, rows, total, table_of, cells_after}
use Rattle.headers.specs.Unit.{gram, kilogram, tonne, unit_of, unit_of_sheet}
use Rattle.desk.specs.Demands.{table_grid, Demand3}
use Rattle.desk.specs.Declare.{shown_after, BothAfter}
use Rattle.desk.specs.Inner.{Right, Showable, shown_over}
use Rattle.answers.specs.declared.answer.Refusal.{Refusal}
use Rattle.answers.specs.declared.answer.LineFault.{LineFault}
use Rattle.desk.specs.declared.cells.TableRow.{TableRow}
use Rattle.desk.proofs.LawAccount.{Balances, line_most, line_balances}
use Rattle.desk.proofs.LawColumns.{zip, zip_at, zeros_at, Balanced, balanced_cell, balanced_wider, row_adds_up_lem}
use Rattle.desk.proofs.LawTable.{length_rows, line_balanced, total_balanced, lines_few}

-- each unit of a sheet divides the limit of a cell
pub unit_whole : (code : ℕ) → (0 < unit_of code) × Whole (unit_of code) limit
unfolding unit_of
unit_whole code = go (eqb code 1) (eqb code 2)
  where
    go : (a b : Bool) → (0 < cond a gram (cond b kilogram tonne)) × Whole (cond a gram (cond b kilogram tonne)) limit
    go true b = (lit< tt, refl)
    go false true = (lit< tt, refl)
    go false false = (lit< tt, refl)

-- ---- the cells of a table

after_seam : (p q : List ℕ) (n j : ℕ) → length p ≡ n → at (p ++ q) (n + j) ≡ at q j
after_seam p q n j e = subst (λ (k : ℕ). at (p ++ q) (k + j) ≡ at q j) e (get_or-append-add p q j 0)

-- row i of the table has these cells, which add up
pub record RowIs (t : List ℕ) (i : ℕ) : Type 0 where
  pub cells : List ℕ
  pub balanced : Balanced width (line_most * most_lines) cells
  pub stands : (j : ℕ) → j < width → at t (i * width + j) ≡ at cells j

module _ (l : ℕ → Result TableRow LineFault) where
  pub line_cell : (n i j : ℕ) (rest : List ℕ) → i < n → j < width → at (rows n l ++ rest) (i * width + j) ≡ at (cells_of (row_given (l i))) j
  unfolding rows
  line_cell zero i j rest h k = absurd (omega arith)
  line_cell (suc n) i j rest h k =
      let last = cells_of (row_given (l n)) in
      let here = after_seam (rows n l) (last ++ rest) (n * width) j (omega (arith, length_rows l n)) ∙ get_or-append last rest 0 j k in
      rw (append_assoc (rows n l) last rest)
      (⊎_elim
      (λ (q : i ≡ n). subst (λ (m : ℕ). at (rows n l ++ (last ++ rest)) (m * width + j) ≡ at (cells_of (row_given (l m))) j) (sym q) here)
      (λ (lt : i < n). line_cell n i j (last ++ rest) lt k)
      (eq-or-lt_of_le (le_of_suc-le-suc h)))

  module _ (n : ℕ) where
    total_cell : (j : ℕ) → at (table_of n l) (n * width + j) ≡ at (cells_of (total n l).sums) j
    unfolding table_of
    total_cell j = after_seam (rows n l) (cells_of (total n l).sums) (n * width) j (omega (arith, length_rows l n))

    pub table_size_lem : length (table_of n l) ≡ (n + 1) * width
    unfolding table_of
    table_size_lem = omega (arith, length-append (rows n l) (cells_of (total n l).sums), length_rows l n)

    column_sum : (m j : ℕ) → m ≤ n → j < width → sum (table_of n l) j width m ≡ at (cells_of (total m l).sums) j
    unfolding sum total table_of zip
    column_sum zero j h k = sym (zeros_at width j)
    column_sum (suc m) j h k =
        let e : j + m * width ≡ m * width + j = omega arith in
        rw (e, column_sum m j (omega arith) k, line_cell n m j (cells_of (total n l).sums) h k)
        (sym (zip_at (cells_of (total m l).sums) (cells_of (row_given (l m))) refl j))

    -- the last row has the columns' sums
    pub columns_right : (j : ℕ) → j < width → at (table_of n l) (n * width + j) ≡ sum (table_of n l) j width n
    columns_right j h = total_cell j ∙ sym (column_sum n j (omega arith) h)

    -- ---- a table whose lines balance

    module _ (f : (k : ℕ) → Balances (l k)) (few : n ≤ most_lines) where
      table_row : (i : ℕ) → i < n + 1 → RowIs (table_of n l) i
      unfolding table_of
      table_row i h =
          ⊎_elim
          (λ (q : i ≡ n). record {
            cells = cells_of (total n l).sums;
            balanced = balanced_wider (omega arith) (total_balanced l f n);
            stands = λ j k. rw q (total_cell j);
          })
          (λ (lt : i < n). record {
            cells = cells_of (row_given (l i));
            balanced = balanced_wider (omega arith) (line_balanced l f i);
            stands = λ j k. line_cell n i j (cells_of (total n l).sums) lt k;
          })
          (eq-or-lt_of_le (omega arith))

      cell_small : (i : ℕ) → i < (n + 1) * width → at (table_of n l) i ≤ limit
      cell_small i h =
          let r = table_row (i / width) ((div-lt_iff_lt-mul (lit< tt)).1 h) in
          let inside = mod-lt i (lit< tt) in
          let e : i / width * width + i % width ≡ i = div-add-mod' i width in
          let c = rw e at (r.stands (i % width) inside) in
          let m = balanced_cell r.balanced (i % width) inside in
          rw c (omega arith)

      pub sums_right : (W : ℕ) → Sums (table_grid W n) (table_of n l)
      sums_right W =
          let less : n + 1 - 1 ≡ n = omega arith in
          record {
            rows = λ i h. let r = table_row i h in row_adds_up_lem width i (table_of n l) r.cells r.stands (lit< tt) r.balanced.adds;
            columns = λ j h. rw less (columns_right j h);
          }

      -- such a table can be settled, in any unit of the sheet
      pub can_be_settled : (code : ℕ) → Good (table_grid (unit_of code) n) (table_of n l)
      can_be_settled code =
          let u = unit_whole code in
          record {
            shape = record { unit = u.0; whole = u.1; wide = lit< tt; narrow = lit≤ tt; high = omega arith; low = omega arith };
            size = table_size_lem;
            most = cell_small;
            sums = sums_right (unit_of code);
          }

-- ---- the shown cells

pub settled_cells : {g : Grid} {t lent lent' : List ℕ} {r : Result ℕ Unsettled} (m : ℕ) → Good g t → m ≡ area g → m ≤ length lent
    → AnswersShow g t lent lent' r → lent' ≡ shown_table g t ++ drop m lent
settled_cells {g} {t} {lent} m good e h a =
    (showing good (omega arith) a).cells ∙ ap (λ (k : ℕ). shown_table g t ++ drop k lent) (sym e)

-- the accepted cells begin with the table
pub first_cells : (n : ℕ) (l : ℕ → Result TableRow LineFault) (cells after : List ℕ) → after ≡ cells_after (Ok tt) n l cells
    → take (table_size n) after ≡ table_of n l
unfolding cells_after
first_cells n l cells after e = rw e (take_at (table_of n l) (drop (table_size n) cells) (table_size n) (omega (arith, table_size_lem l n)))

-- demand 3 of the lent cells
shown_over_lem : (g : Grid) (t rest s : List ℕ) → length t ≡ area g → Shown g t s → Shown g (t ++ rest) s
shown_over_lem g t rest s e h = record { cells = λ i l. rw (get_or-append t rest 0 i (omega arith)) (h.cells i l); sums = h.sums }

module _ (f : Lent) (good : Right f.sources) (bytes : AreBytes f.sources.fugitive) (right : sheet_ok f.sheet ≡ true) where
  few : line_count f.sheet ≤ most_lines
  few = lines_few f.sheet right

  pub settles : Good (table_grid (unit_of_sheet f.sheet) (line_count f.sheet)) (table_of (line_count f.sheet) (line_outcome f))
  settles = can_be_settled (line_outcome f) (line_count f.sheet) (line_balances f good bytes) few (sheet_header f.sheet).shown_unit

  module _ (n W : ℕ) (exact exact' : List ℕ) (e : n ≡ line_count f.sheet) (u : W ≡ unit_of_sheet f.sheet)
      (a : exact' ≡ cells_after (Ok tt) (line_count f.sheet) (line_outcome f) exact) where
    here : take (table_size n) exact' ≡ table_of (line_count f.sheet) (line_outcome f)
    here = rw e (first_cells (line_count f.sheet) (line_outcome f) exact exact' a)

    -- what `show` asks
    pub showable : (shown : List ℕ) → table_size (line_count f.sheet) ≤ length shown → Showable W n exact' shown
    unfolding cells_after
    showable shown room =
        let t = table_of (line_count f.sheet) (line_outcome f) in
        record {
          few = omega (arith, few);
          exact_room = omega (arith, ap length a, length-append t (drop (table_size (line_count f.sheet)) exact), table_size_lem (line_outcome f) (line_count f.sheet));
          shown_room = omega arith;
          good = rw (here, u, e) settles;
        }

    module _ (shown shown' : List ℕ) (s : shown' ≡ shown_over W n exact' shown) where
      -- what it gives
      is_shown : shown' ≡ shown_after (Ok tt) f shown
      unfolding shown_after
      is_shown = rw (here, u, e) at s

      pub tables_shown : BothAfter f exact shown (Ok tt) exact' shown'
      tables_shown = record { table = a; shows = is_shown }

      pub past_kept_lem : drop (table_size (line_count f.sheet)) shown' ≡ drop (table_size (line_count f.sheet)) shown
      unfolding shown_after
      past_kept_lem =
          let n = line_count f.sheet in
          let g = table_grid (unit_of_sheet f.sheet) n in
          let size = shown_length settles in
          rw is_shown (drop_at (shown_table g (table_of n (line_outcome f))) (drop (table_size n) shown) (table_size n) (omega arith))

      pub allows : Demand3 f exact' shown'
      unfolding cells_after shown_after
      allows =
          let lines = line_count f.sheet in
          let t = table_of lines (line_outcome f) in
          let g = table_grid (unit_of_sheet f.sheet) lines in
          let table = shown_table g t in
          let past = drop (table_size lines) shown in
          let law = shown_more settles table past (shown_length settles) (shown_law settles) in
          rw (a, is_shown) (shown_over_lem g t (drop (table_size lines) exact) (table ++ past) (table_size_lem (line_outcome f) lines) law)

pub both_refused : (f : Lent) (r : Result ⊤ Refusal) (exact shown exact' shown' : List ℕ) → r ≢ Ok tt
    → exact' ≡ cells_after r (line_count f.sheet) (line_outcome f) exact → shown' ≡ replicate (length shown) 0
    → BothAfter f exact shown r exact' shown'
unfolding shown_after
both_refused f (Ok _) exact shown exact' shown' refused e s = absurd (refused refl)
both_refused f (Err fault) exact shown exact' shown' refused e s = record { table = e; shows = s }
