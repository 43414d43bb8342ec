-- Tables that demand 3 shuts out: one cell or one sum of each is not what the demand says.
use mathlib.Core.Path.{◌≡◌}
use mathlib.Core.List.{List, [], ◌∷◌}
use Prim.Native.Nat.{ℕ, ◌+◌, ◌/◌, ◌≤◌, ◌<◌}
use native.Mathlib.Nat.{le-div_iff_mul-le}
use native.Mathlib.Omega.{arith}
use Rattle.settle.specs.Grid.{Grid, grid, area}
use Rattle.settle.specs.Shown.{at, Whole, sum, Shown}

-- zeros, where some exact cell is a unit or more
pub zeros_not_shown : {g : Grid} {exact shown : List ℕ} (i : ℕ) → 0 < g.unit → i < area g → g.unit ≤ at exact i →
    ((j : ℕ) → at shown j ≡ 0) → Shown g exact shown → ⊥
zeros_not_shown {g} {exact} i h l m z s =
    let q : 1 ≤ at exact i / g.unit = (le-div_iff_mul-le h).1 (omega arith) in
    omega (arith, (s.cells i l).low, z i)

-- two lines of 150,000 units in grams, as the paper has them
abbrev two_lines : List ℕ
two_lines = 150000 ∷ 0 ∷ 0 ∷ 150000 ∷ 150000 ∷ 0 ∷ 0 ∷ 150000 ∷ 300000 ∷ 0 ∷ 0 ∷ 300000 ∷ []

-- each cell rounded to nearest: 2 and 2 under 3
pub nearest_not_shown : (marked : ℕ) → Shown (grid 100000 4 3 marked) two_lines (2 ∷ 0 ∷ 0 ∷ 2 ∷ 2 ∷ 0 ∷ 0 ∷ 2 ∷ 3 ∷ 0 ∷ 0 ∷ 3 ∷ []) → ⊥
unfolding sum
nearest_not_shown marked s = let e : ◌≡◌ {A = ℕ} 3 4 = s.sums.columns 0 (omega arith) in omega arith

-- each cell rounded down, under totals that are those of the exact table rounded down: 1 and 1 under 3
pub down_not_shown : (marked : ℕ) → Shown (grid 100000 4 3 marked) two_lines (1 ∷ 0 ∷ 0 ∷ 1 ∷ 1 ∷ 0 ∷ 0 ∷ 1 ∷ 3 ∷ 0 ∷ 0 ∷ 3 ∷ []) → ⊥
unfolding sum
down_not_shown marked s = let e : ◌≡◌ {A = ℕ} 3 2 = s.sums.columns 0 (omega arith) in omega arith

-- a total that is a unit more than a whole exact one
pub more_not_shown : {g : Grid} {exact shown : List ℕ} (i : ℕ) → i < area g → Whole g.unit (at exact i) →
    at shown i ≡ at exact i / g.unit + 1 → Shown g exact shown → ⊥
more_not_shown i l w e s = omega (arith, (s.cells i l).whole w)
