-- By induction on a line's length: a store on the line changes the sum by what it changes the cell, and one off the line not at all; a line of
-- which all cells but one are whole has the remainder of that one, so a loose cell of a line whose sum is whole has another one.
use mathlib.Core.Path.{◌≡◌, refl, sym, ap, ◌∙◌}
use mathlib.Core.Logic.{◌≢◌, ◌⊎◌, ⊎_elim}
use mathlib.Core.List.{List}
use Prim.Native.Nat.{ℕ, zero, suc, ◌+◌, ◌-◌, ◌*◌, ◌%◌, ◌≤◌, ◌<◌}
use native.Mathlib.Nat.{mul-lt-mul_of_pos_right, add-mod, zero-mod, mod-mod, add-zero, zero-add, sub-zero}
use native.Mathlib.Decide.{ℕ_discrete}
use native.Mathlib.Omega.{arith}
use lib.ListN.{length, set}
use lib.Seq.{get_or-set_same, get_or-set_other}
use Rattle.settle.specs.Shown.{at, Whole, sum}
use Rattle.settle.specs.Step.{pick, whole?, seek}
use Rattle.settle.specs.Inner.{Passed}

-- the two cases of a pick
pub pick_yes : {A P : Type 0} (d : Dec P) (a b : A) → P → pick d a b ≡ a
pick_yes (yes p) a b h = refl
pick_yes (no q) a b h = absurd (q h)

pub pick_no : {A P : Type 0} (d : Dec P) (a b : A) → (P → ⊥) → pick d a b ≡ b
pick_no (yes p) a b h = absurd (h p)
pick_no (no q) a b h = refl

pub by_dec : {P C : Type 0} → Dec P → (P → C) → ((P → ⊥) → C) → C
by_dec (yes p) f g = f p
by_dec (no q) f g = g q

-- a store off the line
pub sum_out : (t : List ℕ) (b s n i v : ℕ) → ((k : ℕ) → k < n → b + k * s ≢ i) → sum (set t i v) b s n ≡ sum t b s n
unfolding sum
sum_out t b s zero i v h = refl
sum_out t b s (suc n) i v h =
    let e = sum_out t b s n i v (λ k l. h k (omega arith)) in
    let g = get_or-set_other t i (b + n * s) v 0 (h n (omega arith)) in
    omega arith

-- a store at place k of the line
pub sum_in : (t : List ℕ) (b s n k i v : ℕ) → 0 < s → k < n → i ≡ b + k * s → i < length t →
    sum (set t i v) b s n + at t i ≡ sum t b s n + v
unfolding sum
sum_in t b s zero k i v hs hk e hi = omega arith
sum_in t b s (suc n) k i v hs hk e hi =
    by_dec (ℕ_discrete k n)
    (λ p.
    let same : i ≡ b + n * s = rw p at e in
    let o = sum_out t b s n i v (λ k' l q. omega (arith, mul-lt-mul_of_pos_right l hs)) in
    let g = get_or-set_same t i v 0 hi in
    let g' : at (set t i v) (b + n * s) ≡ v = rw (← same) g in
    let g'' : at t i ≡ at t (b + n * s) = ap (at t) same in
    omega arith)
    (λ q.
    let l : k < n = omega arith in
    let r = sum_in t b s n k i v hs l e hi in
    let g = get_or-set_other t i (b + n * s) v 0 (λ z. omega (arith, mul-lt-mul_of_pos_right l hs)) in
    omega arith)

-- a sum of whole cells is whole
pub sum_whole : (W : ℕ) (t : List ℕ) (b s n : ℕ) → ((k : ℕ) → k < n → Whole W (at t (b + k * s))) → Whole W (sum t b s n)
unfolding sum
sum_whole W t b s zero h = zero-mod W
sum_whole W t b s (suc n) h =
    add-mod (sum t b s n) (at t (b + n * s)) W
    ∙ rw (sum_whole W t b s n (λ k l. h k (omega arith)), h n (omega arith), zero-add) (zero-mod W)

-- where all but one are whole, the sum is as that one
pub sum_one : (W : ℕ) (t : List ℕ) (b s n k : ℕ) → k < n → ((j : ℕ) → j < n → j ≢ k → Whole W (at t (b + j * s))) →
    sum t b s n % W ≡ at t (b + k * s) % W
unfolding sum
sum_one W t b s zero k l h = absurd (omega arith)
sum_one W t b s (suc n) k l h =
    by_dec (ℕ_discrete k n)
    (λ p.
    add-mod (sum t b s n) (at t (b + n * s)) W
    ∙ rw (sum_whole W t b s n (λ j m. h j (omega arith) (omega arith)), zero-add, mod-mod, p) refl)
    (λ q.
    add-mod (sum t b s n) (at t (b + n * s)) W
    ∙ rw (h n (omega arith) (omega arith), add-zero, mod-mod) (sum_one W t b s n k (omega arith) (λ j m. h j (omega arith))))

-- what seek finds
pub record Seen (W : ℕ) (t : List ℕ) (b s q m k r : ℕ) : Type 0 where
  pub most : r ≤ k + m
  pub hit : r < k + m → (r ≢ q) × (at t (b + r * s) % W ≢ 0)
  pub passed : (j : ℕ) → k ≤ j → j < r → j ≢ q → Whole W (at t (b + j * s))

module _ (W : ℕ) (t : List ℕ) (b s q : ℕ) where
  more : (m k r : ℕ) → Seen W t b s q m (suc k) r → (k ≢ q → Whole W (at t (b + k * s))) → Seen W t b s q (suc m) k r
  more m k r g h =
      record {
        most = omega (arith, g.most);
        hit = λ l. g.hit (omega arith);
        passed = λ j a l z. by_dec (ℕ_discrete j k) (λ e. rw e (h (λ y. z (e ∙ y)))) (λ n. g.passed j (omega arith) l z);
      }

  pub seen : (m k : ℕ) → Seen W t b s q m k (seek W t b s q m k)
  unfolding seek
  seen zero k = record { most = omega arith; hit = λ l. absurd (omega arith); passed = λ j a l z. absurd (omega arith) }
  seen (suc m) k =
      by_dec (ℕ_discrete k q)
      (λ e. rw (pick_yes (ℕ_discrete k q) (seek W t b s q m (suc k)) _ e) (more m k _ (seen m (suc k)) (λ z. absurd (z e))))
      (λ e. rw (pick_no (ℕ_discrete k q) (seek W t b s q m (suc k)) _ e)
      (by_dec (whole? W (at t (b + k * s)))
      (λ w. rw (pick_yes (whole? W (at t (b + k * s))) (seek W t b s q m (suc k)) k w) (more m k _ (seen m (suc k)) (λ z. w)))
      (λ w. rw (pick_no (whole? W (at t (b + k * s))) (seek W t b s q m (suc k)) k w)
      (record { most = omega arith; hit = λ l. (e, w); passed = λ j a l z. absurd (omega arith) }))))

-- a line whose sum is whole and that has a loose cell at q has another one, and seek finds it
pub record Found (W : ℕ) (t : List ℕ) (b s n q r : ℕ) : Type 0 where
  pub within : r < n
  pub other : r ≢ q
  pub loose : at t (b + r * s) % W ≢ 0

pub finds : (W : ℕ) (t : List ℕ) (b s n q : ℕ) → Whole W (sum t b s n) → q < n → at t (b + q * s) % W ≢ 0 →
    Found W t b s n q (seek W t b s q n 0)
finds W t b s n q w l h =
    let g = seen W t b s q n 0 in
    by_dec (ℕ_discrete (seek W t b s q n 0) n)
    (λ e. absurd (h (sym (sum_one W t b s n q l (λ j m z. g.passed j (omega arith) (omega arith) z)) ∙ w)))
    (λ e.
    let i : seek W t b s q n 0 < n = omega (arith, g.most) in
    let p = g.hit (omega arith) in
    record { within = i; other = p.0; loose = p.1 })

-- what a loop that seeks asks: one place on
module _ (W : ℕ) (t : List ℕ) (b s q n k : ℕ) where
  pub seek_skip : k < n → (k ≡ q) ⊎ Whole W (at t (b + k * s)) → seek W t b s q (n - k) k ≡ seek W t b s q (n - (k + 1)) (k + 1)
  unfolding seek
  seek_skip l h =
      let e : n - k ≡ suc (n - (k + 1)) = omega arith in
      let e' : k + 1 ≡ suc k = omega arith in
      rw (e, e')
      (⊎_elim
      (λ z. pick_yes (ℕ_discrete k q) _ _ z)
      (λ w. by_dec (ℕ_discrete k q) (λ z. pick_yes (ℕ_discrete k q) _ _ z) (λ z. pick_no (ℕ_discrete k q) _ _ z ∙ pick_yes (whole? W (at t (b + k * s))) _ _ w))
      h)

  pub seek_here : k < n → k ≢ q → at t (b + k * s) % W ≢ 0 → seek W t b s q (n - k) k ≡ k
  unfolding seek
  seek_here l z w =
      let e : n - k ≡ suc (n - (k + 1)) = omega arith in
      rw e (pick_no (ℕ_discrete k q) _ _ z ∙ pick_no (whole? W (at t (b + k * s))) _ _ w)

  pub seek_end : k ≡ n → seek W t b s q (n - k) k ≡ n
  unfolding seek
  seek_end h = let e : n - k ≡ 0 = omega arith in rw e h

-- places that are known to be whole need not be searched
pub seek_jump : (W : ℕ) (t : List ℕ) (b s q n f : ℕ) → f ≤ n → Passed W t b s q f → seek W t b s q (n - f) f ≡ seek W t b s q n 0
seek_jump W t b s q n zero l h = rw sub-zero refl
seek_jump W t b s q n (suc f) l h =
    let e : f + 1 ≡ suc f = omega arith in
    rw e at (sym (seek_skip W t b s q n f (omega arith) (h f (omega arith))))
    ∙ seek_jump W t b s q n f (omega arith) (λ j m. h j (omega arith))
