-- Which tables can be settled: a statement, and the test that decides it.
use Rattle.std.specs.Prelude.{◌≡◌, Bool, ◌&&◌, List, ℕ, ◌+◌, ◌-◌, ◌*◌, ◌%◌, ◌≤◌, ◌<◌, eqb, leb, length}
use Rattle.search.specs.Test.{all}
use Rattle.settle.specs.Grid.{Grid, area}
use Rattle.settle.specs.Shown.{at, Whole, sum, Sums}

-- no cell is above it, and it is a whole number of units
abbrev pub limit : ℕ
limit = 16_000_000_000_000_000_000

abbrev pub most_columns : ℕ
most_columns = 5

abbrev pub most_rows : ℕ
most_rows = 129

-- a unit that divides the limit, and a table that is neither empty nor too large. Which column is marked does not matter
pub record Shape (g : Grid) : Type 0 where
  pub unit : 0 < g.unit
  pub whole : Whole g.unit limit
  pub wide : 0 < g.columns
  pub narrow : g.columns ≤ most_columns
  pub high : 0 < g.rows
  pub low : g.rows ≤ most_rows

-- a table of this shape, with no cell above the limit, whose sums are right
pub record Good (g : Grid) (t : List ℕ) : Type 0 where
  pub shape : Shape g
  pub size : length t ≡ area g
  pub most : (i : ℕ) → i < area g → at t i ≤ limit
  pub sums : Sums g t

-- ---- the test

abbrev pub is_small : (W K n : ℕ) → Bool
is_small W K n = leb 1 W && leb 1 K && leb K most_columns && leb 1 n && leb n most_rows

unfoldable pub is_sized : (g : Grid) (cells : ℕ) → Bool
is_sized g cells = is_small g.unit g.columns g.rows && (eqb (limit % g.unit) 0 && eqb cells (area g))

unfoldable pub cell_fits : (t : List ℕ) (i : ℕ) → Bool
cell_fits t i = leb (at t i) limit

-- of a table with K columns and n rows
unfoldable pub row_adds_up : (K : ℕ) (t : List ℕ) (i : ℕ) → Bool
row_adds_up K t i = eqb (at t (i * K)) (sum t (i * K + 1) 1 (K - 1))

unfoldable pub column_adds_up : (K n : ℕ) (t : List ℕ) (j : ℕ) → Bool
column_adds_up K n t j = eqb (at t ((n - 1) * K + j)) (sum t j K (n - 1))

unfoldable pub is_good : (g : Grid) (t : List ℕ) → Bool
is_good g t =
    is_sized g (length t)
    && (all (length t) (cell_fits t) && all g.rows (row_adds_up g.columns t) && all g.columns (column_adds_up g.columns g.rows t))
