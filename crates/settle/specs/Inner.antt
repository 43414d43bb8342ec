-- What the private functions ask of their callers and answer them: nothing that a caller of the library has to read.
use Rattle.std.specs.Prelude.{◌≡◌, ◌≢◌, ◌⊎◌, List, [], ◌∷◌, ℕ, ◌+◌, ◌-◌, ◌*◌, ◌/◌, ◌%◌, ◌≤◌, ◌<◌, length}
use Rattle.settle.specs.Grid.{Grid, area}
use Rattle.settle.specs.Shown.{at, Whole, sum}
use Rattle.settle.specs.Table.{limit, most_columns, most_rows, Shape, Good}
use Rattle.settle.specs.Step.{twin, end_column, first_loose, after, changes}

-- ---- sizes

abbrev pub most_cells : ℕ
most_cells = most_rows * most_columns

-- K columns and n rows, neither none nor too many
pub record Small (K n : ℕ) : Type 0 where
  pub wide : 0 < K
  pub narrow : K ≤ most_columns
  pub high : 0 < n
  pub few : n * K ≤ most_cells

-- a list of so many cells; one with no cell above the limit
pub record Frame (K n : ℕ) (t : List ℕ) : Type 0 where
  pub small : Small K n
  pub size : length t ≡ n * K

pub record Bounded (K n : ℕ) (t : List ℕ) : Type 0 where
  pub frame : Frame K n t
  pub most : (i : ℕ) → at t i ≤ limit

-- the line b, b + s, .., of m places is in the list, and the place after its last is at most a row past the largest table's end
pub record Line (t : List ℕ) (b s m : ℕ) : Type 0 where
  pub cells : (k : ℕ) → k < m → b + k * s < length t
  pub small : b + m * s ≤ most_cells + most_columns

-- ---- the mirror of a table

-- t is t₀ with f put to work on the cells before place i (f has the place and the old cell)
pub record Written (f : ℕ → ℕ → ℕ) (i : ℕ) (t₀ t : List ℕ) : Type 0 where
  pub size : length t ≡ length t₀
  pub done : (j : ℕ) → j < i → at t j ≡ f j (at t₀ j)
  pub rest : (j : ℕ) → i ≤ j → at t j ≡ at t₀ j

-- every row and every column sums to a whole number of units
pub record Even (W K n : ℕ) (t : List ℕ) : Type 0 where
  pub size : length t ≡ n * K
  pub rows : (i : ℕ) → i < n → Whole W (sum t (i * K) 1 K)
  pub columns : (j : ℕ) → j < K → Whole W (sum t j K n)

-- the mirror of a good table
pub record Table (g : Grid) (t : List ℕ) : Type 0 where
  pub shape : Shape g
  pub even : Even g.unit g.columns g.rows t
  pub most : (i : ℕ) → at t i ≤ limit

-- ---- searches

-- all cells before place i are whole
abbrev pub WholeTo : (W : ℕ) (t : List ℕ) (i : ℕ) → Type 0
WholeTo W t i = (j : ℕ) → j < i → Whole W (at t j)

-- the places of a line before f need not be searched: each is q, or is whole
abbrev pub Passed : (W : ℕ) (t : List ℕ) (b s q f : ℕ) → Type 0
Passed W t b s q f = (j : ℕ) → j < f → (j ≡ q) ⊎ Whole W (at t (b + j * s))

-- a line can be searched from place f on
pub record Sought (W : ℕ) (t : List ℕ) (b s q f m : ℕ) : Type 0 where
  pub unit : 0 < W
  pub line : Line t b s m
  pub from : f ≤ m
  pub passed : Passed W t b s q f

-- the cells can be searched from place f on
pub record SoughtAll (W : ℕ) (t : List ℕ) (f : ℕ) : Type 0 where
  pub unit : 0 < W
  pub few : length t ≤ most_cells
  pub from : f ≤ length t
  pub passed : WholeTo W t f

-- row r can be searched
pub record SoughtRow (W K : ℕ) (t : List ℕ) (r : ℕ) : Type 0 where
  pub unit : 0 < W
  pub wide : 0 < K
  pub line : Line t (r * K) 1 K

-- ---- paths and rounds

-- cell u, and its twin in column x, are two loose cells of the table
pub record Hop (W K : ℕ) (t : List ℕ) (x u : ℕ) : Type 0 where
  pub inside : u < length t
  pub twin_inside : twin K x u < length t
  pub column : x < K
  pub other : u % K ≢ x
  pub loose : at t u % W ≢ 0
  pub twin_loose : at t (twin K x u) % W ≢ 0

-- no cell has r for its f; so r is the row of none of the cells, or c the column of none
abbrev pub Misses : (f : ℕ → ℕ) (r : ℕ) (us : List ℕ) → Type 0
Misses f r [] = Unit {0}
Misses f r (v ∷ vs) = (f v ≢ r) × Misses f r vs

abbrev pub Apart : (K r : ℕ) (us : List ℕ) → Type 0
Apart K r us = Misses (λ v. v / K) r us

abbrev pub New : (K c : ℕ) (us : List ℕ) → Type 0
New K c us = Misses (λ v. v % K) c us

-- a path that is left by column x: its cells and their twins are loose, its rows are apart, its columns are apart
abbrev pub Trail : (W K : ℕ) (t : List ℕ) (x : ℕ) (us : List ℕ) → Type 0
Trail W K t x [] = Unit {0}
Trail W K t x (u ∷ us) = Hop W K t x u × Apart K (u / K) us × New K (u % K) us × Trail W K t (u % K) us

-- a path that is left by its own last column
pub record Closed (W K : ℕ) (t us : List ℕ) : Type 0 where
  pub some : 0 < length us
  pub trail : Trail W K t (end_column K 0 us) us

-- two cells that have room for a move by p and m; a path of such
pub record Move (W K p m : ℕ) (t : List ℕ) (x u : ℕ) : Type 0 where
  pub hop : Hop W K t x u
  pub up : p ≤ W - at t u % W
  pub down : m ≤ at t u % W
  pub twin_up : m ≤ W - at t (twin K x u) % W
  pub twin_down : p ≤ at t (twin K x u) % W

abbrev pub Fit : (W K p m : ℕ) (t : List ℕ) (x : ℕ) (us : List ℕ) → Type 0
Fit W K p m t x [] = Unit {0}
Fit W K p m t x (u ∷ us) = Move W K p m t x u × Apart K (u / K) us × Fit W K p m t (u % K) us

-- ---- what is asked of the walk and of the moves, and what they answer

-- i is the first loose cell of an even table
pub record Start (W K n : ℕ) (t : List ℕ) (i : ℕ) : Type 0 where
  pub unit : 0 < W
  pub small : Small K n
  pub even : Even W K n t
  pub inside : i < n * K
  pub loose : at t i % W ≢ 0
  pub before : WholeTo W t i

-- cells that may be moved up to the limit
pub record Bounds (W K : ℕ) (t : List ℕ) : Type 0 where
  pub unit : 0 < W
  pub wide : 0 < K
  pub whole : Whole W limit
  pub most : (i : ℕ) → at t i ≤ limit

-- a path that can be measured; one that can be moved; a round that can be moved
pub record Measured (W K : ℕ) (t : List ℕ) (x : ℕ) (us : List ℕ) : Type 0 where
  pub unit : 0 < W
  pub wide : 0 < K
  pub trail : Trail W K t x us

pub record Movable (W K p m : ℕ) (t : List ℕ) (x : ℕ) (us : List ℕ) : Type 0 where
  pub bounds : Bounds W K t
  pub fit : Fit W K p m t x us

pub record MovableRound (W K : ℕ) (t us : List ℕ) : Type 0 where
  pub bounds : Bounds W K t
  pub closed : Closed W K t us

-- ---- what is asked of the steps, and what they answer

-- a step can start at i
pub record Unsettled (g : Grid) (t : List ℕ) (i : ℕ) : Type 0 where
  pub table : Table g t
  pub first : i ≡ first_loose g.unit t
  pub inside : i < length t

-- a good table, and a list that has room for it
pub record Lent (g : Grid) (t lent : List ℕ) : Type 0 where
  pub good : Good g t
  pub room : length lent ≡ area g

-- f steps lead from t to s, and r of them changed something
pub record Steps (next : List ℕ → List ℕ) (W f : ℕ) (t s : List ℕ) (r : ℕ) : Type 0 where
  pub table : s ≡ after next f t
  pub count : r ≡ changes next W f t
