-- The test for a good table goes conjunct by conjunct the way the statement goes field by field, so that each says the other. A line is added
-- up by taking its cells off the total: what is left and what was taken off always make the total.
use mathlib.Core.Path.{◌≡◌, refl, sym, ap}
use mathlib.Core.Bool.{true, false, ◌&&◌}
use mathlib.Core.List.{List}
use Prim.Native.Nat.{ℕ, zero, suc, ◌+◌, ◌-◌, ◌*◌, ◌%◌, ◌≤◌, ◌<◌}
use native.Mathlib.Nat.{mul-le-mul, mul-le-mul_right}
use native.Mathlib.Numerals.{add-one}
use native.Mathlib.Decide.{ℕ_discrete}
use native.Mathlib.Omega.{arith}
use borrow.Author.Tests.{leb-true, eqb-true, le-leb, eq-eqb, ne_eqb}
use lib.Dec.{eqb, leb}
use lib.ListN.{length}
use Rattle.search.specs.Test.{all}
use Rattle.search.proofs.LawTest.{and_left, and_right, all_at, all_of}
use Rattle.settle.specs.Grid.{Grid, area}
use Rattle.settle.specs.Shown.{at, sum}
use Rattle.settle.specs.Table.{limit, most_columns, most_rows, Shape, Good, cell_fits, row_adds_up, column_adds_up, is_small, is_sized, is_good}
use Rattle.settle.specs.Inner.{Small, Frame, Line}
use Rattle.settle.proofs.LawLine.{by_dec}

-- a sum that is taken off x, cell by cell
sum_most : (t : List ℕ) (b s j m : ℕ) → j ≤ m → sum t b s j ≤ sum t b s m
unfolding sum
sum_most t b s j zero l = let e : j ≡ 0 = omega arith in rw e (omega arith)
sum_most t b s j (suc m) l =
    by_dec (ℕ_discrete j (suc m))
    (λ q. rw q (omega arith))
    (λ q. omega (arith, sum_most t b s j m (omega arith)))

module _ (t : List ℕ) (b s j left : ℕ) {x : ℕ} (h : left + sum t b s j ≡ x) where
  pub adds_more : at t (b + j * s) ≤ left → left - at t (b + j * s) + sum t b s (j + 1) ≡ x
  unfolding sum
  adds_more l = rw add-one (omega arith)

  pub adds_over : {m : ℕ} → j < m → left < at t (b + j * s) → false ≡ eqb x (sum t b s m)
  unfolding sum
  adds_over {m} l q = sym (ne_eqb x (sum t b s m) (λ e. omega (arith, sum_most t b s (suc j) m l)))

-- what the test says of the table's shape
pub record Sizes (W K n : ℕ) : Type 0 where
  pub unit : 0 < W
  pub wide : 0 < K
  pub narrow : K ≤ most_columns
  pub high : 0 < n
  pub low : n ≤ most_rows

pub sizes : (W K n : ℕ) → is_small W K n ≡ true → Sizes W K n
sizes W K n h =
    let a = leb 1 W && leb 1 K in
    let b = a && leb K most_columns in
    let c = b && leb 1 n in
    let e = and_left c (leb n most_rows) h in
    let f = and_left b (leb 1 n) e in
    let g = and_left a (leb K most_columns) f in
    record {
      unit = leb-true 1 W (and_left _ (leb 1 K) g);
      wide = leb-true 1 K (and_right (leb 1 W) _ g);
      narrow = leb-true K most_columns (and_right a _ f);
      high = leb-true 1 n (and_right b _ e);
      low = leb-true n most_rows (and_right c _ h);
    }

module _ (g : Grid) (cells : ℕ) (h : is_sized g cells ≡ true) where
  shape_of : Shape g
  unfolding is_sized
  shape_of =
      let small = is_small g.unit g.columns g.rows in
      let s = sizes g.unit g.columns g.rows (and_left small _ h) in
      record {
        unit = s.unit;
        whole = eqb-true (limit % g.unit) 0 (and_left _ (eqb cells (area g)) (and_right small _ h));
        wide = s.wide;
        narrow = s.narrow;
        high = s.high;
        low = s.low;
      }

  size_of : cells ≡ area g
  unfolding is_sized
  size_of =
      let small = is_small g.unit g.columns g.rows in
      eqb-true cells (area g) (and_right (eqb (limit % g.unit) 0) _ (and_right small _ h))

pub small_of : {g : Grid} → Shape g → Small g.columns g.rows
small_of s = record { wide = s.wide; narrow = s.narrow; high = s.high; few = mul-le-mul s.low s.narrow }

pub sized_frame : (g : Grid) {t : List ℕ} → is_sized g (length t) ≡ true → Frame g.columns g.rows t
sized_frame g {t} h = record { small = small_of (shape_of g (length t) h); size = size_of g (length t) h }

-- the test holds of the good tables and of no other
pub good_of : (g : Grid) (t : List ℕ) → is_good g t ≡ true → Good g t
unfolding is_good cell_fits row_adds_up column_adds_up
good_of g t h =
    let cells = all (length t) (cell_fits t) in
    let rows = all g.rows (row_adds_up g.columns t) in
    let columns = all g.columns (column_adds_up g.columns g.rows t) in
    let s = and_left (is_sized g (length t)) (cells && rows && columns) h in
    let e = and_right (is_sized g (length t)) (cells && rows && columns) h in
    let f = and_left (cells && rows) columns e in
    let z = size_of g (length t) s in
    record {
      shape = shape_of g (length t) s;
      size = z;
      most = λ i l. leb-true (at t i) limit (all_at (cell_fits t) (length t) i (and_left cells rows f) (omega arith));
      sums =
          record {
            rows = λ i l. eqb-true _ _ (all_at (row_adds_up g.columns t) g.rows i (and_right cells rows f) l);
            columns = λ j l. eqb-true _ _ (all_at (column_adds_up g.columns g.rows t) g.columns j (and_right (cells && rows) columns e) l);
          };
    }

pub good_is : {g : Grid} {t : List ℕ} → Good g t → is_good g t ≡ true
unfolding is_good is_sized cell_fits row_adds_up column_adds_up
good_is {g} {t} h =
    let s = h.shape in
    rw (le-leb 1 _ s.unit, le-leb 1 _ s.wide, le-leb _ _ s.narrow, le-leb 1 _ s.high, le-leb _ _ s.low)
    (rw (eq-eqb _ 0 s.whole, eq-eqb _ _ h.size)
    (rw (
      all_of (cell_fits t) (length t) (λ i l. le-leb (at t i) limit (h.most i (omega (arith, h.size)))),
      all_of (row_adds_up g.columns t) g.rows (λ i l. eq-eqb _ _ (h.sums.rows i l)),
      all_of (column_adds_up g.columns g.rows t) g.columns (λ j l. eq-eqb _ _ (h.sums.columns j l)),
    ) refl))

-- the last row ends where the table does
pub last_row : (K : ℕ) {n : ℕ} → 0 < n → (n - 1) * K + K ≡ n * K
last_row K {n} h = let e : n ≡ suc (n - 1) = omega arith in omega (arith, ap (λ (k : ℕ). k * K) e)

-- it has a first cell
pub last_row_begins : (K : ℕ) {n : ℕ} → 0 < K → 0 < n → (n - 1) * K + 1 ≤ n * K
last_row_begins K w h = omega (arith, last_row K h)

-- a row ends where the table does, at the latest
pub row_ends : (K : ℕ) {i n : ℕ} → i < n → i * K + K ≤ n * K
row_ends K l = omega (arith, mul-le-mul_right K l)

-- a place of a line is in the list
pub on_line : {t : List ℕ} {b s m k i : ℕ} → Line t b s m → k < m → i ≡ b + k * s → i < length t
on_line {k = k} line l e = rw e (line.cells k l)

module _ {K n : ℕ} {t : List ℕ} (f : Frame K n t) where
  -- the first cell of row i, in a list as long as the table
  pub row_begins : (i : ℕ) (s : List ℕ) → length s ≡ length t → i < n → i * K < length s
  row_begins i s e l = omega (arith, row_ends K l, f.size, f.small.wide)
