-- What the private functions of a whole works ask and answer. Nothing here is needed to read a promise.
use Rattle.std.specs.Prelude.{ℕ, ◌+◌, ◌*◌, ◌≤◌, ◌≡◌, List, length, take, drop, ⊤, Result}
use Rattle.bundle.specs.Bundle.{cells_per_sheet, sheet_of}
use Rattle.answers.specs.declared.answer.Refusal.{Refusal}
use Rattle.desk.specs.Lent.{Sources, lent}
use Rattle.desk.specs.Declare.{Declared}
use Rattle.desk.specs.Works.{run_of}

-- the cells before a part, and those past it, are as they were
pub record Around (from count : ℕ) (cells cells' : List ℕ) : Type 0 where
  pub before : take from cells' ≡ take from cells
  pub past : drop (from + count) cells' ≡ drop (from + count) cells

-- what one sheet of a bundle asks: both results have its run
pub record SheetRuns (bundle : List ℕ) (i : ℕ) (exact shown : List ℕ) : Type 0 where
  pub exact_run : i * cells_per_sheet bundle + cells_per_sheet bundle ≤ length exact
  pub shown_run : i * cells_per_sheet bundle + cells_per_sheet bundle ≤ length shown

-- and what it says: its runs are as alone, and nothing else changes
pub record SheetDone (from : Sources) (bundle : List ℕ) (i : ℕ) (exact shown : List ℕ) (r : Result ⊤ Refusal) (exact' shown' : List ℕ)
    : Type 0 where
  pub declared : Declared (lent from (sheet_of bundle i)) (run_of bundle i exact) (run_of bundle i shown) r
      (run_of bundle i exact') (run_of bundle i shown')
  pub exact_kept : Around (i * cells_per_sheet bundle) (cells_per_sheet bundle) exact exact'
  pub shown_kept : Around (i * cells_per_sheet bundle) (cells_per_sheet bundle) shown shown'
