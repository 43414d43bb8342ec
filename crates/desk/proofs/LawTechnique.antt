-- What rising codes make of a search that halves.
use Prim.Native.Nat.{ℕ, ◌+◌, ◌<◌}
use mathlib.Core.Bool.{true, false}
use mathlib.Core.Path.{◌≡◌}
use mathlib.Core.List.{List}
use native.Mathlib.Omega.{arith}
use borrow.Author.Tests.{lt-ltb, ltb-true, ltb-false, ne_eqb}
use Rattle.search.specs.Cut.{Falls}
use Rattle.desk.specs.Book.{technique_code}
use Rattle.desk.specs.Technique.{technique_has}
use Rattle.desk.specs.Inner.{Listed, code_below}

module _ (t : List ℕ) (from code : ℕ) where
  -- a technique with a lower code has not this one
  pub below_other : (j : ℕ) → code_below t from code j ≡ true → technique_has t from code j ≡ false
  unfolding code_below technique_has
  below_other j e = let c = technique_code t (from + j) in ne_eqb c code (λ q. omega (arith, ltb-true c code e))

  module _ (count : ℕ) (listed : Listed t from count) where
    pub codes_fall : Falls count (code_below t from code)
    unfolding code_below
    codes_fall i j lt m e =
        lt-ltb (technique_code t (from + i)) code (omega (arith, listed.rises i j lt m, ltb-true (technique_code t (from + j)) code e))

    -- nor has a technique past one whose code is not lower
    pub past_other : (r : ℕ) → code_below t from code r ≡ false → (j : ℕ) → r < j → j < count → technique_has t from code j ≡ false
    unfolding code_below technique_has
    past_other r e j lt m =
        ne_eqb (technique_code t (from + j)) code
        (λ q. omega (arith, listed.rises r j lt m, ltb-false (technique_code t (from + r)) code e))
