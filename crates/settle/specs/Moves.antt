-- What the laws of a step speak of.
use Rattle.std.specs.Prelude.{◌≡◌, ◌≢◌, ◌⊎◌, List, [], ◌∷◌, ◌++◌, ℕ, ◌+◌, ◌*◌, ◌/◌, ◌%◌, ◌≤◌, ◌<◌}
use Rattle.std.proofs.Math.Decide.{ℕ_discrete}
use Rattle.settle.specs.Grid.{Grid, area}
use Rattle.settle.specs.Shown.{at, Whole}
use Rattle.settle.specs.Step.{pick, twin, end_column}

-- y is what steps may make of the cell x: it is not carried past a whole unit, and a whole cell is not broken
pub record Within (W x y : ℕ) : Type 0 where
  pub low : x / W * W ≤ y
  pub high : y ≤ x / W * W + W
  pub kept : Whole W x → y ≡ x

-- all cells of a round: those by which its rows are entered, and those by which they are left
unfoldable pub twins : (K x : ℕ) (us : List ℕ) → List ℕ
twins K x [] = []
twins K x (u ∷ us) = twin K x u ∷ twins K (u % K) us

abbrev pub round_cells : (K : ℕ) (us : List ℕ) → List ℕ
round_cells K us = us ++ twins K (end_column K 0 us) us

-- v is one of the cells
abbrev pub Among : (v : ℕ) (us : List ℕ) → Type 0
Among v [] = ⊥
Among v (u ∷ us) = (u ≡ v) ⊎ Among v us

-- how many of the cells have r for their f; with the row or the column of a cell for f, how many are in row r, or in column c
abbrev pub same : (a b : ℕ) → ℕ
same a b = pick (ℕ_discrete a b) 1 0

unfoldable pub in_line : (f : ℕ → ℕ) (r : ℕ) (us : List ℕ) → ℕ
in_line f r [] = 0
in_line f r (u ∷ us) = same (f u) r + in_line f r us

abbrev pub in_row : (K r : ℕ) (us : List ℕ) → ℕ
in_row K r us = in_line (λ u. u / K) r us

abbrev pub in_column : (K c : ℕ) (us : List ℕ) → ℕ
in_column K c us = in_line (λ u. u % K) c us

-- from t to s the cells of one closed round moved, each up or down by d, and no other
pub record OneRound (g : Grid) (t s cells : List ℕ) (d : ℕ) : Type 0 where
  pub some : 0 < d
  pub inside : (v : ℕ) → Among v cells → (v < area g) × (at t v % g.unit ≢ 0)
  pub rows : (r : ℕ) → (in_row g.columns r cells ≡ 0) ⊎ (in_row g.columns r cells ≡ 2)
  pub columns : (c : ℕ) → (in_column g.columns c cells ≡ 0) ⊎ (in_column g.columns c cells ≡ 2)
  pub moved : (v : ℕ) → Among v cells → (at s v ≡ at t v + d) ⊎ (at s v + d ≡ at t v)
  pub others : (v : ℕ) → (Among v cells → ⊥) → at s v ≡ at t v
