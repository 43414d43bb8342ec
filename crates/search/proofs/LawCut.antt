-- What rises, how halving closes in on where a test stops holding, and what is found there.
use Prim.Native.Nat.{ℕ, zero, suc, ◌+◌, ◌≤◌, ◌<◌}
use mathlib.Core.Path.{◌≡◌, sym, ◌∙◌}
use mathlib.Core.Bool.{Bool, true, false}
use mathlib.Core.Logic.{◌⊎◌, inl, inr, ⊎_elim}
use native.Mathlib.Nat.{eq-or-lt_of_le, le_of_suc-le-suc}
use native.Mathlib.Omega.{arith}
use Rattle.search.specs.Cut.{Cut, Falls}
use Rattle.search.specs.First.{first}
use Rattle.std.specs.Prelude.{Some, None}
use Rattle.search.proofs.LawTest.{either_way}
use Rattle.search.proofs.LawFirst.{first_start, first_here, first_rest}

-- what holds of each number and the next, and is handed on, holds of each number and every later one
pub rising : (R : ℕ → ℕ → Type 0) → ((i j k : ℕ) → R i j → R j k → R i k) → (n : ℕ) → ((j : ℕ) → suc j < n → R j (suc j))
    → (i j : ℕ) → i < j → j < n → R i j
rising R trans n next i zero l m = absurd (omega arith)
rising R trans n next i (suc j) l m =
    ⊎_elim (λ (q : i ≡ j). rw q (next j m)) (λ (lt : i < j). trans i j (suc j) (rising R trans n next i j lt (omega arith)) (next j m))
    (eq-or-lt_of_le (le_of_suc-le-suc l))

-- the half above m, and the half below
module _ {n : ℕ} {p : ℕ → Bool} (falls : Falls n p) {low high : ℕ} (C : Cut n p low high) (m : ℕ) (l : low ≤ m) (h : m < high) where
  pub cut_low : p m ≡ true → Cut n p (m + 1) high
  cut_low e =
      record {
        order = omega arith;
        within = C.within;
        below = λ i q. ⊎_elim (λ (s : i ≡ m). rw s e) (λ (lt : i < m). falls i m lt (omega (arith, C.within)) e) (eq-or-lt_of_le (omega arith));
        above = C.above;
      }

  pub cut_high : p m ≡ false → Cut n p low m
  cut_high e = record { order = l; within = omega (arith, C.within); below = C.below; above = λ i q s. later i (eq-or-lt_of_le q) s }
    where
      later : (i : ℕ) → (m ≡ i) ⊎ (m < i) → i < n → p i ≡ false
      later i (inl q) s = rw (← q) e
      later i (inr lt) s = either_way (p i) (λ t. let z : true ≡ false = sym (falls m i lt s t) ∙ e in cc) (λ t. t)

-- the ends have met
pub cut_met : {n : ℕ} {p : ℕ → Bool} {low high : ℕ} → Cut n p low high → high ≤ low → Cut n p low low
cut_met {n} {p} {low} {high} C l = let e : high ≡ low = omega (arith, C.order) in rw e at C

-- what is looked for is not where the test holds
pub nothing_below : {n : ℕ} {p : ℕ → Bool} {low high : ℕ} → Cut n p low high → (q : ℕ → Bool) → ((i : ℕ) → p i ≡ true → q i ≡ false) → first low q ≡ None
nothing_below {n} {p} {low} {high} C q apart = first_rest q 0 low (first_start q) (omega arith) (λ i l m. apart i (C.below i m))

-- so it is found where the test stops holding, or nowhere
module _ {n : ℕ} {p : ℕ → Bool} {r : ℕ} (C : Cut n p r r) (q : ℕ → Bool) (apart : (i : ℕ) → p i ≡ true → q i ≡ false) where
  pub cut_here : r < n → q r ≡ true → Some r ≡ first n q
  cut_here l e = first_here q r n (nothing_below C q apart) e l

  pub cut_other : q r ≡ false → ((i : ℕ) → r < i → i < n → q i ≡ false) → None ≡ first n q
  cut_other e after = sym (first_rest q r n (nothing_below C q apart) C.within (λ i l m. at i (eq-or-lt_of_le l) m))
    where
      at : (i : ℕ) → (r ≡ i) ⊎ (r < i) → i < n → q i ≡ false
      at i (inl s) m = rw (← s) e
      at i (inr lt) m = after i lt m

  pub cut_none : n ≤ r → None ≡ first n q
  cut_none l = let e : r ≡ n = omega (arith, C.within) in sym (rw e at (nothing_below C q apart))
