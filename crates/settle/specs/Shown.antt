-- Demand 3: what a shown table may be.
use Rattle.std.specs.Prelude.{◌≡◌, List, ℕ, zero, suc, ◌+◌, ◌-◌, ◌*◌, ◌/◌, ◌%◌, ◌≤◌, ◌<◌, get_or}
use Rattle.settle.specs.Grid.{Grid, area}

-- the cell at place i; 0 past the end
abbrev pub at : (t : List ℕ) (i : ℕ) → ℕ
at t i = get_or t i 0

-- x is a whole number of units
abbrev pub Whole : (W x : ℕ) → Type 0
Whole W x = x % W ≡ 0

-- the sum of a line: the m cells at b, b + s, b + 2s, ..
unfoldable pub sum : (t : List ℕ) (b s m : ℕ) → ℕ
sum t b s zero = 0
sum t b s (suc m) = sum t b s m + at t (b + m * s)

-- in every row, column 0 is the sum of the other columns; in every column, the last row is the sum of the rows above
pub record Sums (g : Grid) (t : List ℕ) : Type 0 where
  pub rows : (i : ℕ) → i < g.rows → at t (i * g.columns) ≡ sum t (i * g.columns + 1) 1 (g.columns - 1)
  pub columns : (j : ℕ) → j < g.columns → at t ((g.rows - 1) * g.columns + j) ≡ sum t j g.columns (g.rows - 1)

-- a cell of x is shown as y: one of the two whole numbers around x / W, and x / W itself where W divides x
pub record ShownCell (W x y : ℕ) : Type 0 where
  pub low : x / W ≤ y
  pub high : y ≤ x / W + 1
  pub whole : Whole W x → y ≡ x / W

-- the shown table of an exact one, in whole units: each cell shown so, and all sums right
pub record Shown (g : Grid) (exact shown : List ℕ) : Type 0 where
  pub cells : (i : ℕ) → i < area g → ShownCell g.unit (at exact i) (at shown i)
  pub sums : Sums g shown
