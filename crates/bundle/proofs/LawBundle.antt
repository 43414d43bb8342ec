-- What a right bundle says of its sheets, which refusal comes first, and what room there is where a bundle is taken.
use Prim.Native.Nat.{ℕ, zero, suc, ◌+◌, ◌*◌, ◌≤◌, ◌<◌}
use mathlib.Core.Path.{◌≡◌, refl}
use mathlib.Core.Bool.{Bool, true, false}
use mathlib.Core.List.{List, [], ◌∷◌}
use mathlib.Core.Logic.{⊎_elim}
use native.Mathlib.Omega.{arith}
use native.Mathlib.Nat.{suc-mul, mul-le-mul_right, not-suc-le-zero, le_of_suc-le-suc, eq-or-lt_of_le}
use lib.Dec.{leb}
use borrow.Author.Tests.{leb-true}
use Rattle.std.specs.Prelude.{Result, Ok, Err, ⊤}
use Rattle.search.specs.Test.{every}
use Rattle.search.proofs.LawTest.{either_way, clash, and_left, and_right, all_at, every_at}
use Rattle.headers.specs.House.{file_ok}
use Rattle.answers.specs.declared.bundle.BundleFault.{BundleFault}
use Rattle.answers.specs.declared.bundle.BundleFault.TheVariants.{BundleMalformed, ResultTooShort}
use Rattle.bundle.specs.Bundle.{bundle_header, most_sheets, sheet_count, cells_per_sheet, entries_end, sheet_offset, sheet_end}
use Rattle.bundle.specs.Bundle.{bundle_header_size, bundle_fits, bundle_header_ok, after_the_one_before, entry_ok, entries_ok, bundle_ok}
use Rattle.bundle.specs.Whole.{cells_owned, roomy, bundle_outcome}

-- ---- the room

module _ (b : List ℕ) (exact shown outcomes : ℕ) (h : roomy b exact shown outcomes ≡ true) where
  abbrev tests : List Bool
  tests = leb (cells_owned b) exact ∷ leb (cells_owned b) shown ∷ leb (sheet_count b) outcomes ∷ []

  pub exact_room_lem : cells_owned b ≤ exact
  unfolding roomy
  exact_room_lem = leb-true _ _ (every_at tests h 0)

  pub shown_room_lem : cells_owned b ≤ shown
  unfolding roomy
  shown_room_lem = leb-true _ _ (every_at tests h 1)

  pub outcomes_room : sheet_count b ≤ outcomes
  unfolding roomy
  outcomes_room = leb-true _ _ (every_at tests h 2)

pub taken_right : (b : List ℕ) (exact shown outcomes : ℕ) → bundle_outcome b exact shown outcomes ≡ Ok tt → bundle_ok b ≡ true
unfolding bundle_outcome
taken_right b exact shown outcomes h =
    either_way (bundle_ok b) (λ p. p) (λ p. let e : ◌≡◌ {A = Result ⊤ BundleFault} (Err BundleMalformed) (Ok tt) = rw p at h in clash (cc))

pub taken_room : (b : List ℕ) (exact shown outcomes : ℕ) → bundle_outcome b exact shown outcomes ≡ Ok tt → roomy b exact shown outcomes ≡ true
unfolding bundle_outcome
taken_room b exact shown outcomes h =
    either_way (bundle_ok b)
    (λ p. either_way (roomy b exact shown outcomes)
    (λ q. q)
    (λ q. let e : ◌≡◌ {A = Result ⊤ BundleFault} (Err ResultTooShort) (Ok tt) = rw (p, q) at h in clash (cc)))
    (λ p. let e : ◌≡◌ {A = Result ⊤ BundleFault} (Err BundleMalformed) (Ok tt) = rw p at h in clash (cc))

-- each sheet's run lies in the cells that the sheets own together
pub run_inside : (b : List ℕ) (i : ℕ) → i < sheet_count b → i * cells_per_sheet b + cells_per_sheet b ≤ cells_owned b
run_inside b i h = omega (arith, suc-mul i (cells_per_sheet b), mul-le-mul_right (cells_per_sheet b) h)

-- ---- the order of the refusals

-- a malformed bundle is 16, whatever room there is
pub malformed_first : (b : List ℕ) (exact shown outcomes : ℕ) → bundle_ok b ≡ false → bundle_outcome b exact shown outcomes ≡ Err BundleMalformed
unfolding bundle_outcome
malformed_first b exact shown outcomes h = rw h refl

-- ---- where the sheets of a right bundle lie

module _ (b : List ℕ) (right : bundle_ok b ≡ true) where
  -- at most so many
  pub sheets_few : sheet_count b ≤ most_sheets
  unfolding bundle_ok bundle_header_ok
  sheets_few =
      let header = and_left (bundle_header_ok b) (entries_ok b) right in
      leb-true _ _ (every_at (bundle_fits b) (and_right (file_ok b 0 bundle_header_size) (every (bundle_fits b)) header) 0)

  entry_right : (i : ℕ) → i < sheet_count b → entry_ok b i ≡ true
  unfolding bundle_ok
  entry_right i h = all_at (entry_ok b) (sheet_count b) i (and_right (bundle_header_ok b) (entries_ok b) right) h

  -- none begins before the end of the entries, and none ends past the length
  pub sheet_after_entries : (i : ℕ) → i < sheet_count b → entries_end b ≤ sheet_offset b i
  unfolding entry_ok
  sheet_after_entries i h = leb-true _ _ (every_at _ (entry_right i h) 0)

  pub sheet_inside : (i : ℕ) → i < sheet_count b → sheet_end b i ≤ (bundle_header b).length
  unfolding entry_ok
  sheet_inside i h = leb-true _ _ (every_at _ (entry_right i h) 2)

  next_sheet : (i : ℕ) → suc i < sheet_count b → sheet_end b i ≤ sheet_offset b (suc i)
  unfolding entry_ok after_the_one_before
  next_sheet i h = leb-true _ _ (every_at _ (entry_right (suc i) h) 1)

  -- no two sheets overlap
  pub sheets_apart : (i j : ℕ) → i < j → j < sheet_count b → sheet_end b i ≤ sheet_offset b j
  sheets_apart i zero h k = absurd (not-suc-le-zero h)
  sheets_apart i (suc j) h k =
      ⊎_elim (λ (q : i ≡ j). rw q (next_sheet j k))
      (λ (l : i < j). omega (arith, sheets_apart i j l (omega arith), next_sheet j k))
      (eq-or-lt_of_le (le_of_suc-le-suc h))
