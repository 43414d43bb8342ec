-- "A whole works in one call": the sheets of a bundle, each as if it were alone.
use Rattle.std.specs.Prelude.{ℕ, ◌*◌, ◌<◌, ◌≡◌, ◌≢◌, List, [], ◌∷◌, length, drop, replicate, ⊤, Result, Ok}
use Rattle.little.specs.Part.{part_of}
use Rattle.answers.specs.Answer.{code_of}
use Rattle.answers.specs.declared.answer.Refusal.{Refusal}
use Rattle.answers.specs.declared.bundle.BundleFault.{BundleFault}
use Rattle.bundle.specs.Bundle.{sheet_count, cells_per_sheet, sheet_of}
use Rattle.bundle.specs.Whole.{bundle_outcome}
use Rattle.desk.specs.Lent.{Sources, lent}
use Rattle.desk.specs.Declare.{Declared}

-- what is lent to be written: the two results and the outcomes, one a sheet
pub record Results : Type 0 where
  pub exact : List ℕ
  pub shown : List ℕ
  pub outcomes : List ℕ

abbrev pub results : (exact shown outcomes : List ℕ) → Results
results exact shown outcomes = record { exact = exact; shown = shown; outcomes = outcomes }

-- sheet i owns the i-th run of that many cells in each result; sheets count from 0
abbrev pub run_of : (bundle : List ℕ) (i : ℕ) (cells : List ℕ) → List ℕ
run_of bundle i cells = part_of cells (i * cells_per_sheet bundle) (cells_per_sheet bundle)

-- sheet i as alone: of its own runs, lent to it alone, the desk makes what stands in them, and its outcome is the desk's answer
pub record AsAlone (from : Sources) (bundle : List ℕ) (before after : Results) (i : ℕ) : Type 0 where
  pub answer : Result ⊤ Refusal
  pub declared : Declared (lent from (sheet_of bundle i))
      (run_of bundle i before.exact) (run_of bundle i before.shown)
      answer
      (run_of bundle i after.exact) (run_of bundle i after.shown)
  -- the one cell of the outcomes that is the sheet's
  pub outcome : part_of after.outcomes i 1 ≡ code_of answer ∷ []

-- the first n sheets, each as alone; cells past their runs, and outcomes past them, keep their values
pub record FirstSheets (n : ℕ) (from : Sources) (bundle : List ℕ) (before after : Results) : Type 0 where
  pub sheets : (i : ℕ) → i < n → AsAlone from bundle before after i
  pub exact_past : drop (n * cells_per_sheet bundle) after.exact ≡ drop (n * cells_per_sheet bundle) before.exact
  pub shown_past : drop (n * cells_per_sheet bundle) after.shown ≡ drop (n * cells_per_sheet bundle) before.shown
  pub outcomes_past : drop n after.outcomes ≡ drop n before.outcomes

-- all of them
abbrev pub SheetBySheet : (from : Sources) (bundle : List ℕ) (before after : Results) → Type 0
SheetBySheet from bundle before after = FirstSheets (sheet_count bundle) from bundle before after

-- every cell is zero
pub record AllZero (before after : Results) : Type 0 where
  pub exact : after.exact ≡ replicate (length before.exact) 0
  pub shown : after.shown ≡ replicate (length before.shown) 0
  pub outcomes : after.outcomes ≡ replicate (length before.outcomes) 0

-- the whole promise for the sources, a bundle and what is lent: 16, then 3, before anything else; or sheet by sheet
pub record BundleDeclared (from : Sources) (bundle : List ℕ) (before : Results) (r : Result ⊤ BundleFault) (after : Results) : Type 0 where
  pub answer : r ≡ bundle_outcome bundle (length before.exact) (length before.shown) (length before.outcomes)
  pub taken : r ≡ Ok tt → SheetBySheet from bundle before after
  pub refused : r ≢ Ok tt → AllZero before after
