-- The whole desk: the exact table and, in whole shown units, the shown one.
use Rattle.std.specs.Prelude.{ℕ, ◌≡◌, List, ◌++◌, length, drop, replicate, ⊤, Result, Ok, Err}
use Rattle.settle.specs.Step.{shown_table}
use Rattle.desk.specs.Lent.{Lent}
use Rattle.headers.specs.Sheet.{line_count}
use Rattle.desk.specs.Account.{line_outcome}
use Rattle.desk.specs.Cells.{table_size}
use Rattle.headers.specs.Unit.{unit_of_sheet}
use Rattle.desk.specs.Table.{table_of, cells_after}
use Rattle.desk.specs.Demands.{table_grid, Demand1, Demand2, Demand3}
use Rattle.answers.specs.declared.answer.Refusal.{Refusal}

-- on acceptance the shown table, and past it what was there; on refusal zeros
unfoldable pub shown_after : (r : Result ⊤ Refusal) (f : Lent) (cells : List ℕ) → List ℕ
shown_after (Ok _) f cells =
    shown_table (table_grid (unit_of_sheet f.sheet) (line_count f.sheet)) (table_of (line_count f.sheet) (line_outcome f))
    ++ drop (table_size (line_count f.sheet)) cells
shown_after (Err refused) f cells = replicate (length cells) 0

-- which tables both results hold after the answer r: every cell of them, by an equation
pub record BothAfter (f : Lent) (exact shown : List ℕ) (r : Result ⊤ Refusal) (exact' shown' : List ℕ) : Type 0 where
  pub table : exact' ≡ cells_after r (line_count f.sheet) (line_outcome f) exact
  pub shows : shown' ≡ shown_after r f shown

-- the whole promise for the sources, a sheet and the two lent results
pub record Declared (f : Lent) (exact shown : List ℕ) (r : Result ⊤ Refusal) (exact' shown' : List ℕ) : Type 0 where
  pub demand1 : Demand1 f exact shown r exact' shown'
  pub demand2 : r ≡ Ok tt → Demand2 f exact'
  pub demand3 : r ≡ Ok tt → Demand3 f exact' shown'
  pub tables : BothAfter f exact shown r exact' shown'
