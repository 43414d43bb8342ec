-- The cells of a row and of a column, over lists: nothing here says how many columns there are.
use Prim.Native.Nat.{ℕ, zero, suc, ◌+◌, ◌*◌, ◌-◌, ◌≤◌, ◌<◌}
use mathlib.Core.Path.{◌≡◌, refl}
use mathlib.Core.List.{List, [], ◌∷◌}
use mathlib.Core.Logic.{⊎_elim}
use native.Mathlib.Omega.{arith}
use native.Mathlib.Nat.{le_of_suc-le-suc, eq-or-lt_of_le, not-suc-le-zero}
use lib.ListN.{length, replicate}
use Rattle.settle.specs.Shown.{at, sum}

-- ---- sums

-- lines that hold the same numbers have the same sum
pub sum_same : (t u : List ℕ) (b c s m : ℕ) → ((k : ℕ) → k < m → at t (b + k * s) ≡ at u (c + k * s)) → sum t b s m ≡ sum u c s m
unfolding sum
sum_same t u b c s zero same = refl
sum_same t u b c s (suc m) same = rw (sum_same t u b c s m (λ k l. same k (omega arith)), same m (omega arith))

-- no number of a line is above its sum
pub term_most : (t : List ℕ) (b s m k : ℕ) → k < m → at t (b + k * s) ≤ sum t b s m
unfolding sum
term_most t b s zero k l = absurd (not-suc-le-zero l)
term_most t b s (suc m) k l =
    ⊎_elim (λ (q : k ≡ m). rw q (omega arith)) (λ (lt : k < m). omega (arith, term_most t b s m k lt)) (eq-or-lt_of_le (le_of_suc-le-suc l))

-- the sum of a line whose numbers are those of two others, added
pub sum_both : (z x y : List ℕ) (b s m : ℕ) → ((j : ℕ) → at z j ≡ at x j + at y j) → sum z b s m ≡ sum x b s m + sum y b s m
unfolding sum
sum_both z x y b s zero both = refl
sum_both z x y b s (suc m) both = rw (sum_both z x y b s m both, both (b + m * s)) (omega arith)

-- ---- cell by cell

unfoldable pub zip : (xs ys : List ℕ) → List ℕ
zip [] ys = []
zip (x ∷ xs) [] = []
zip (x ∷ xs) (y ∷ ys) = (x + y) ∷ zip xs ys

pub zip_at : (xs ys : List ℕ) → length xs ≡ length ys → (j : ℕ) → at (zip xs ys) j ≡ at xs j + at ys j
unfolding zip
zip_at [] [] e j = refl
zip_at [] (y ∷ ys) e j = absurd (omega arith)
zip_at (x ∷ xs) [] e j = absurd (omega arith)
zip_at (x ∷ xs) (y ∷ ys) e zero = refl
zip_at (x ∷ xs) (y ∷ ys) e (suc j) = zip_at xs ys (omega arith) j

pub zeros_at : (n j : ℕ) → at (replicate n 0) j ≡ 0
zeros_at zero j = refl
zeros_at (suc n) zero = refl
zeros_at (suc n) (suc j) = zeros_at n j

-- ---- a row of w cells that adds up: its first cell is the sum of the others, and at most a bound

pub record Balanced (w most : ℕ) (cells : List ℕ) : Type 0 where
  pub adds : at cells 0 ≡ sum cells 1 1 (w - 1)
  pub small : at cells 0 ≤ most

pub balanced_cell : {w most : ℕ} {cells : List ℕ} → Balanced w most cells → (j : ℕ) → j < w → at cells j ≤ most
balanced_cell b zero l = b.small
balanced_cell {w} {most} {cells} b (suc k) l =
    let e : 1 + k * 1 ≡ suc k = omega arith in
    let term : at cells (suc k) ≤ sum cells 1 1 (w - 1) = rw e at (term_most cells 1 1 (w - 1) k (omega arith)) in
    omega (arith, b.adds, b.small)

pub balanced_more : {w m n : ℕ} {x y z : List ℕ} → ((j : ℕ) → at z j ≡ at x j + at y j) → Balanced w m x → Balanced w n y → Balanced w (m + n) z
balanced_more {w} {m} {n} {x} {y} {z} both a b =
    let s = sum_both z x y 1 1 (w - 1) both in
    record { adds = omega (arith, both 0, a.adds, b.adds); small = omega (arith, both 0, a.small, b.small) }

pub balanced_wider : {w m n : ℕ} {cells : List ℕ} → m ≤ n → Balanced w m cells → Balanced w n cells
balanced_wider h b = record { adds = b.adds; small = omega (arith, b.small) }

-- a row that stands in a table, and adds up there
pub row_adds_up_lem : (w i : ℕ) (t cells : List ℕ) → ((j : ℕ) → j < w → at t (i * w + j) ≡ at cells j) → 0 < w
    → at cells 0 ≡ sum cells 1 1 (w - 1) → at t (i * w) ≡ sum t (i * w + 1) 1 (w - 1)
row_adds_up_lem w i t cells stands some adds =
    let first : i * w + 0 ≡ i * w = omega arith in
    let head = rw first at (stands 0 some) in
    let same = sum_same t cells (i * w + 1) 1 1 (w - 1)
    (λ k l. let e : i * w + 1 + k * 1 ≡ i * w + (1 + k * 1) = omega arith in rw e (stands (1 + k * 1) (omega arith))) in
    rw (head, same) adds
