-- The shown cells are, by the desk's own promise, as many steps from the exact table as it has cells, divided by W; and from the last step that
-- changes something on nothing changes.
use Prim.Native.Nat.{ℕ, zero, suc, ◌+◌, ◌/◌, ◌≤◌, min}
use mathlib.Core.Path.{◌≡◌, refl, sym, ap, subst, ◌∙◌}
use mathlib.Core.Bool.{true}
use mathlib.Core.List.{List}
use native.Mathlib.Decide.{dec_le}
use native.Mathlib.Nat.{mul-div_cancel}
use native.Mathlib.Omega.{arith}
use lib.Dec.{lit<}
use lib.ListN.{length, drop}
use lib.Seq.{take_at}
use Rattle.search.proofs.LawTest.{and_left, and_right, every_at}
use Rattle.little.specs.Read.{AreBytes}
use Rattle.headers.specs.House.{file_ok}
use Rattle.headers.specs.Sheet.{sheet_header, sheet_header_size, sheet_fits, sheet_header_ok, line_count}
use Rattle.headers.specs.Unit.{is_unit, unit_of_sheet}
use Rattle.std.specs.Prelude.{⊤, Result, Ok}
use Rattle.settle.specs.Grid.{grid}
use Rattle.settle.specs.declared.Grid.{Grid}
use Rattle.settle.specs.Table.{Good}
use Rattle.settle.specs.Step.{step, after, changes, units, shown_table}
use Rattle.settle.proofs.LawLine.{by_dec}
use Rattle.settle.proofs.LawShown.{shown_length, shown_steps}
use Rattle.settle.proofs.LawTable.{good_is}
use Rattle.desk.specs.Lent.{Lent}
use Rattle.desk.specs.Cells.{width, discharged, table_size}
use Rattle.desk.specs.Sheet.{sheet_ok}
use Rattle.desk.specs.Account.{line_outcome}
use Rattle.desk.specs.Table.{table_of, by_files, by_lines, answer_of}
use Rattle.desk.specs.Demands.{table_grid}
use Rattle.desk.specs.Declare.{shown_after, BothAfter, Declared}
use Rattle.desk.specs.Inner.{Right}
use Rattle.desk.proofs.LawTable.{accepted_both, ready}
use Rattle.desk.proofs.LawDeclare.{first_cells, table_size_lem, settles}
use Rattle.answers.specs.declared.answer.Refusal.{Refusal}
use Rattle.steps.specs.Table.{lent_grid, can_settle}
use Rattle.steps.specs.Count.{StepCount, count_answer}
use Rattle.steps.specs.Ends.{table_in, unit_code, EndsShown}
use Rattle.steps.proofs.LawStep.{step_count}

-- steps that change nothing may be left out
same_end : {g : Grid} {t : List ℕ} {n : ℕ} → StepCount g t n → (k : ℕ) → n ≤ k → after (step g) k t ≡ after (step g) n t
same_end {g} {t} {n} c zero l = let e : 0 ≡ n = omega arith in ap (λ (i : ℕ). after (step g) i t) e
same_end {g} {t} {n} c (suc k) l =
    by_dec (dec_le n k)
    (λ (q : n ≤ k). c.ended k q ∙ same_end c k q)
    (λ q. let e : suc k ≡ n = omega arith in ap (λ (i : ℕ). after (step g) i t) e)

-- a right sheet has a unit
sheet_unit : (s : List ℕ) → sheet_ok s ≡ true → is_unit (sheet_header s).shown_unit ≡ true
unfolding sheet_ok sheet_header_ok
sheet_unit s e =
    let fits = and_right (file_ok s 0 sheet_header_size) (sheet_fits (sheet_header s)) (and_left (sheet_header_ok s) _ e) in
    let low = every_at _ fits 6 in
    let high = every_at _ fits 7 in
    rw (low, high) refl

module _ (f : Lent) (good : Right f.sources) (bytes : AreBytes f.sources.fugitive) (right : sheet_ok f.sheet ≡ true) where
  abbrev lines : ℕ
  lines = line_count f.sheet

  abbrev table : List ℕ
  table = table_of lines (line_outcome f)

  abbrev g : Grid
  g = lent_grid (unit_code f) table

  -- the lent table has the desk's rows
  its_grid : g ≡ table_grid (unit_of_sheet f.sheet) lines
  its_grid =
      ap (λ (n : ℕ). grid (unit_of_sheet f.sheet) width n discharged)
      (ap (λ (n : ℕ). n / width) (table_size_lem (line_outcome f) lines) ∙ mul-div_cancel (lines + 1) (lit< tt))

  is_good_lem : Good g table
  is_good_lem = rw its_grid (settles f good bytes right)

  can : can_settle (unit_code f) table ≡ true
  unfolding can_settle
  can = rw (sheet_unit f.sheet right) (good_is is_good_lem)

  abbrev count : ℕ
  count = changes (step g) g.unit (length table) table

  counts : StepCount g table count
  counts = step_count g table is_good_lem

  -- the desk takes as many steps as there are cells
  ends : shown_table g table ≡ units g.unit (after (step g) count table)
  ends =
      shown_steps is_good_lem ∙ ap (units g.unit) (same_end counts (length table) (omega (arith, counts.most, is_good_lem.size)))

  module _ {exact shown exact' shown' : List ℕ} (h : BothAfter f exact shown (Ok tt) exact' shown') where
    here : table_in f exact' ≡ table
    here = first_cells lines (line_outcome f) exact exact' h.table

    there : table_in f shown' ≡ shown_table g table
    unfolding shown_after
    there =
        let s = shown_table (table_grid (unit_of_sheet f.sheet) lines) table in
        rw (h.shows, its_grid)
        (take_at s (drop (table_size lines) shown) (table_size lines) (omega (arith, shown_length (settles f good bytes right))))

    both_end : EndsShown f exact' shown'
    unfolding count_answer
    both_end =
        record {
          taken = rw here can;
          count = count;
          counted = rw (here, can) refl;
          counts = rw here counts;
          most = omega (arith, counts.most, is_good_lem.size, table_size_lem (line_outcome f) lines);
          shown = rw here (there ∙ ends);
        }

-- Where the steps from the exact table end is, divided by W, the desk's shown table. (That the fugitive table is bytes the code has by its type.)
pub steps_end_in_shown_table : (f : Lent) {exact shown exact' shown' : List ℕ} {r : Result ⊤ Refusal} → AreBytes f.sources.fugitive
    → Declared f exact shown r exact' shown' → r ≡ Ok tt → EndsShown f exact' shown'
unfolding answer_of
steps_end_in_shown_table f {exact} {shown} {exact'} {shown'} bytes d e =
    let room = min (length exact) (length shown) in
    let files = (accepted_both (by_files f room) (by_lines (line_count f.sheet) (line_outcome f)) (sym d.demand1.answer ∙ e)).0 in
    let ok = ready f room files in
    both_end f ok.sources bytes ok.sheet (subst (λ (o : Result ⊤ Refusal). BothAfter f exact shown o exact' shown') e d.tables)
