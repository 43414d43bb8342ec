-- What grades and factors say to whoever accounts for a line.
use Prim.Native.Nat.{ℕ, ◌≤◌, ◌<◌}
use mathlib.Core.Path.{◌≡◌, refl}
use mathlib.Core.Bool.{Bool, true, false, ◌||◌, not}
use mathlib.Core.List.{List}
use native.Mathlib.Omega.{arith}
use lib.Dec.{eqb}
use borrow.Author.Tests.{eqb-true}
use Rattle.search.proofs.LawTest.{either_way, or_left, or_right}
use Rattle.little.specs.Read.{AreBytes, u16_range}
use Rattle.little.proofs.LawRead.{u16_below}
use Rattle.fugitive.specs.Entry.{crushing, tapping, spill, chosen, factors_of}
use Rattle.fugitive.specs.Grades.{gas, particulates, is_given, above_most, grades_bad}
use Rattle.fugitive.specs.declared.grades.Grades.{Grades}

-- a sheet whose grades rule 15 leaves, where one is given, is of particulates in gas
pub graded_gas : (g : Grades) (medium pollutant : ℕ) → is_given g ≡ true → grades_bad g medium pollutant ≡ false
    → (medium ≡ gas) × (pollutant ≡ particulates)
unfolding grades_bad
graded_gas g medium pollutant given h =
    let other : (not (eqb medium gas) || not (eqb pollutant particulates)) ≡ false = rw given at (or_right (above_most g) _ h) in (
      eqb-true medium gas (not_not (eqb medium gas) (or_left (not (eqb medium gas)) (not (eqb pollutant particulates)) other)),
      eqb-true pollutant particulates (not_not (eqb pollutant particulates) (or_right (not (eqb medium gas)) (not (eqb pollutant particulates)) other)),
    )
  where
    not_not : (t : Bool) → not t ≡ false → t ≡ true
    not_not true e = refl
    not_not false e = cc

module _ (entry : List ℕ) (bytes : AreBytes entry) where
  chosen_below : (place grade : ℕ) → chosen entry place grade < u16_range
  unfolding chosen
  chosen_below place grade =
      either_way (eqb grade 1)
      (λ a. rw a (u16_below entry bytes _))
      (λ a. either_way (eqb grade 2)
      (λ b. rw (a, b) (u16_below entry bytes _))
      (λ b. either_way (eqb grade 3) (λ c. rw (a, b, c) (u16_below entry bytes _)) (λ c. rw (a, b, c) (omega arith))))

-- three factors u16 are at most 3 × 65,535
pub factors_most : (entry : List ℕ) (g : Grades) → AreBytes entry → factors_of entry g ≤ 196_605
unfolding factors_of
factors_most entry g bytes =
    omega (arith, chosen_below entry bytes crushing g.crushing, chosen_below entry bytes tapping g.tapping, chosen_below entry bytes spill g.spill)
