-- Readers of the fugitive table near the rules: each differs from them at a small entry or table that is computed here, or is refuted in
-- general.
use Prim.Native.Nat.{ℕ}
use mathlib.Core.Path.{◌≡◌, refl}
use mathlib.Core.Bool.{true, false}
use mathlib.Core.List.{List, [], ◌∷◌, ◌++◌}
use lib.ListN.{replicate}
use borrow.Author.Tests.{ne_eqb}
use Rattle.search.specs.Test.{every}
use Rattle.search.proofs.LawTest.{either_way}
use Rattle.little.specs.Read.{u16_at, u32_at}
use Rattle.headers.specs.House.{file_ok}
use Rattle.fugitive.specs.Entry.{chosen, factors_of}
use Rattle.fugitive.specs.Grades.{gas, is_given, above_most, grades_bad}
use Rattle.fugitive.specs.Table.{fugitive_header_ok}
use Rattle.fugitive.specs.declared.grades.Grades.{Grades}

-- ---- the factors

-- an entry whose nine factors are 1 to 9
abbrev one_to_nine : List ℕ
one_to_nine =
    replicate 10 0 ++ (1 ∷ 0 ∷ 2 ∷ 0 ∷ 3 ∷ 0 ∷ 4 ∷ 0 ∷ 5 ∷ 0 ∷ 6 ∷ 0 ∷ 7 ∷ 0 ∷ 8 ∷ 0 ∷ 9 ∷ 0 ∷ [])

abbrev grades : (crushing tapping spill : ℕ) → Grades
grades crushing tapping spill = record { crushing = crushing; tapping = tapping; spill = spill }

abbrev factors : (crushing tapping spill : ℕ) → ℕ
factors crushing tapping spill = factors_of one_to_nine (grades crushing tapping spill)

-- one that reads poor as good, or the grades the other way round: each grade of each place chooses its own factor
pub each_factor : (factors 1 0 0 ≡ 1) × (factors 2 0 0 ≡ 2) × (factors 3 0 0 ≡ 3) × (factors 0 1 0 ≡ 4) × (factors 0 2 0 ≡ 5) × (factors 0 3 0 ≡ 6)
    × (factors 0 0 1 ≡ 7) × (factors 0 0 2 ≡ 8) × (factors 0 0 3 ≡ 9)
unfolding factors_of chosen u16_at
each_factor = (refl, refl, refl, refl, refl, refl, refl, refl, refl)

-- one that takes the largest of the chosen factors, or the first, in the place of their sum; or counts an absent grade
pub factors_summed : (factors 1 2 3 ≡ 15) × (factors 0 0 0 ≡ 0)
unfolding factors_of chosen u16_at
factors_summed = (refl, refl)

-- ---- the grades

-- one that takes a grade on a sheet of another medium
pub graded_elsewhere : (g : Grades) (medium pollutant : ℕ) → is_given g ≡ true → (medium ≡ gas → ⊥) → grades_bad g medium pollutant ≡ true
unfolding grades_bad
graded_elsewhere g medium pollutant given other = either_way (above_most g) (λ a. rw a) (λ a. rw (a, given, ne_eqb medium gas other))

-- one that refuses a sheet without grades
pub ungraded_taken : (medium pollutant : ℕ) → grades_bad (grades 0 0 0) medium pollutant ≡ false
unfolding grades_bad is_given
ungraded_taken medium pollutant = refl

-- one that takes a grade above 3, at any place
pub above_poor : (grades_bad (grades 4 0 0) 2 3 ≡ true) × (grades_bad (grades 0 4 0) 2 3 ≡ true) × (grades_bad (grades 0 0 4) 2 3 ≡ true)
    × (grades_bad (grades 3 3 3) 2 3 ≡ false)
unfolding grades_bad is_given
above_poor = (refl, refl, refl, refl)

-- ---- the header

-- a table of no entries, by its length, its zero and its offset
abbrev table : (size nought offset : ℕ) → List ℕ
table size nought offset = size ∷ 0 ∷ 0 ∷ 0 ∷ 0 ∷ 0 ∷ nought ∷ 0 ∷ offset ∷ 0 ∷ 0 ∷ 0 ∷ []

-- one that takes another length than the bytes given, a zero that is none, or entries that begin in the header or behind the end
pub headers_refused : (fugitive_header_ok (table 12 0 12) ≡ true) × (fugitive_header_ok (table 13 0 12) ≡ false) × (fugitive_header_ok (table 12 1 12) ≡ false)
    × (fugitive_header_ok (table 12 0 11) ≡ false) × (fugitive_header_ok (table 12 0 13) ≡ false) × (fugitive_header_ok [] ≡ false)
unfolding fugitive_header_ok file_ok every u16_at u32_at
headers_refused = (refl, refl, refl, refl, refl, refl)
