-- "Refusals": 16 for a malformed bundle and 3 for bundle room, in that order before anything else.
use Rattle.std.specs.Prelude.{ℕ, ◌*◌, Bool, cond, List, [], ◌∷◌, leb, ⊤, Result, Ok, Err}
use Rattle.search.specs.Test.{every}
use Rattle.answers.specs.declared.bundle.BundleFault.{BundleFault}
use Rattle.answers.specs.declared.bundle.BundleFault.TheVariants.{BundleMalformed, ResultTooShort}
use Rattle.bundle.specs.Bundle.{sheet_count, cells_per_sheet, bundle_ok}

-- the cells of each result that the sheets own together
abbrev pub cells_owned : List ℕ → ℕ
cells_owned b = sheet_count b * cells_per_sheet b

-- a run for every sheet in each result of so many cells, and one outcome a sheet
unfoldable pub roomy : (b : List ℕ) (exact shown outcomes : ℕ) → Bool
roomy b exact shown outcomes =
    every (leb (cells_owned b) exact ∷ leb (cells_owned b) shown ∷ leb (sheet_count b) outcomes ∷ [])

unfoldable pub bundle_outcome : (b : List ℕ) (exact shown outcomes : ℕ) → Result ⊤ BundleFault
bundle_outcome b exact shown outcomes =
    cond (bundle_ok b)
    (cond (roomy b exact shown outcomes) (Ok tt) (Err ResultTooShort))
    (Err BundleMalformed)
