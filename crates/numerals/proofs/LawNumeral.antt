-- How a loop writes digits, the last first: each turn moves the last digit of what is left in front of those that stand. Assumes nothing.
use Prim.Native.Nat.{ℕ, zero, suc, ◌-◌, ◌/◌, ◌≤◌, ◌<◌}
use mathlib.Core.Path.{◌≡◌, refl, ◌∙◌}
use mathlib.Core.Bool.{true, false, ◌&&◌, and-false}
use mathlib.Core.List.{List, [], ◌∷◌, ◌++◌, append_assoc, append-nil}
use native.Mathlib.Numerals.{sub-one}
use native.Mathlib.Omega.{arith}
use lib.Dec.{eqb, ltb}
use lib.ListN.{length, take, drop, set, length-set, length-append, length-drop, drop_of_length-le}
use lib.Seq.{take_all, drop-cons, get_or-set_same, drop-set-lt}
use borrow.Author.Tests.{lt-ltb, eq-eqb, ne_eqb, ltb-true}
use Rattle.search.proofs.LawTest.{and_left, either_way, clash}
use Rattle.numerals.specs.Laid.{Lays}
use Rattle.numerals.specs.Numeral.{most_digits, zero_digit, digit, significant, numeral}
use Rattle.numerals.specs.Inner.{Ends}

-- a store in front of what stands from suc k on
stored : (k v : ℕ) (t : List ℕ) → k < length t → drop k (set t k v) ≡ v ∷ drop (suc k) t
stored k v t h =
    let l : k < length (set t k v) = omega (arith, length-set t k v) in
    rw (drop-cons (set t k v) k 0 l, get_or-set_same t k v 0 h, drop-set-lt (suc k) t k v (omega arith))

-- a turn
pub digits_step : (i n : ℕ) (t : List ℕ) → 0 < i → (n ≡ 0 → ⊥) → i ≤ length t
    → significant (i - 1) (n / 10) ++ drop (i - 1) (set t (i - 1) (digit n)) ≡ significant i n ++ drop i t
unfolding significant
digits_step zero n t h some l = absurd (omega arith)
digits_step (suc k) n t h some l = rw (sub-one, ne_eqb n 0 some, stored k (digit n) t (omega arith), append_assoc)

-- no turn is left: no place, or nothing of the number
pub digits_done : (i n : ℕ) (t : List ℕ) → (ltb 0 i && ltb 0 n) ≡ false → significant i n ++ drop i t ≡ drop i t
unfolding significant
digits_done zero n t h = refl
digits_done (suc k) zero t h = refl
digits_done (suc k) (suc m) t h =
    let a : ltb 0 (suc k) ≡ true = lt-ltb 0 (suc k) (omega arith) in
    let b : ltb 0 (suc m) ≡ true = lt-ltb 0 (suc m) (omega arith) in
    let both : (true && true) ≡ false = rw (a, b) at h in
    clash (cc)

-- where a turn is left, so is a place
pub digits_some : (i n : ℕ) → (ltb 0 i && ltb 0 n) ≡ true → 0 < i
digits_some i n h = ltb-true 0 i (and_left (ltb 0 i) (ltb 0 n) h)

-- nothing is left of the number
pub nothing_left : (i n : ℕ) (t : List ℕ) → n ≡ 0 → significant i n ++ drop i t ≡ drop i t
nothing_left i n t none = digits_done i n t (rw (none, and-false))

pub digits_start : (n : ℕ) (t : List ℕ) → length t ≡ most_digits → significant most_digits n ++ drop most_digits t ≡ significant most_digits n
digits_start n t h = rw (drop_of_length-le t {i = most_digits} (omega arith), append-nil)

-- ---- the numeral

pub significant_few : (most n : ℕ) → length (significant most n) ≤ most
unfolding significant
significant_few zero n = omega arith
significant_few (suc most) n =
    either_way (eqb n 0) (λ e. rw e (omega arith))
    (λ e. rw (e, length-append) (omega (arith, significant_few most (n / 10))))

module _ (n at r : ℕ) (text text' : List ℕ) where
  pub zero_numeral : n ≡ 0 → Lays (zero_digit ∷ []) 1 at text r text' → Lays (numeral n) most_digits at text r text'
  unfolding numeral
  zero_numeral z h = rw (eq-eqb n 0 z) (record { counts = h.counts; few = omega (arith, h.few); holds = h.holds })

  -- the digits that stand at the end of a list of that size
  pub some_numeral : (n ≡ 0 → ⊥) → (from : ℕ) (list : List ℕ) → Ends (significant most_digits n) from list
      → Lays (take (most_digits - from) (drop from list)) (length (take (most_digits - from) (drop from list))) at text r text'
      → Lays (numeral n) most_digits at text r text'
  unfolding numeral
  some_numeral some from list e h =
      let size : length (drop from list) ≡ most_digits - from = omega (arith, length-drop from list, e.size) in
      let all : take (most_digits - from) (drop from list) ≡ significant most_digits n = take_all (most_digits - from) (drop from list) (omega arith) ∙ e.ends in
      let l : Lays (significant most_digits n) (length (significant most_digits n)) at text r text' = rw all at h in
      rw (ne_eqb n 0 some) (record { counts = l.counts; few = omega (arith, l.few, significant_few most_digits n); holds = l.holds })
