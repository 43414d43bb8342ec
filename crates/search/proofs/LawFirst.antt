-- What a search finds, and how a loop finds it.
use Prim.Native.Nat.{ℕ, zero, suc, ◌+◌, ◌≤◌, ◌<◌}
use mathlib.Core.Bool.{Bool, true, false}
use mathlib.Core.Path.{◌≡◌, refl, sym, ◌∙◌}
use mathlib.Core.Logic.{⊎_elim}
use native.Mathlib.Numerals.{add-one}
use native.Mathlib.Nat.{not-suc-le-zero, le_of_suc-le-suc, eq-or-lt_of_le}
use native.Mathlib.Omega.{arith}
use Rattle.search.proofs.LawTest.{clash}
use Rattle.search.specs.First.{or_at, first, Finds}
use Rattle.std.specs.Option.{option_or}
use Rattle.std.specs.Prelude.{Option, Some, None}

-- a loop `if test(i) { return Some(i) }`, i from 0 up to n, with the invariant `(i ≤ n) × (first i p ≡ None)`
pub first_start : (p : ℕ → Bool) → first 0 p ≡ None
unfolding first
first_start p = refl

pub first_more : (p : ℕ → Bool) (i : ℕ) → first i p ≡ None → p i ≡ false → first (i + 1) p ≡ None
unfolding first
first_more p i h e = rw (add-one, h, e)

pub first_here : (p : ℕ → Bool) (i n : ℕ) → first i p ≡ None → p i ≡ true → i < n → Some i ≡ first n p
unfolding first
first_here p i zero h e l = absurd (not-suc-le-zero l)
first_here p i (suc m) h e l =
    ⊎_elim (λ q. rw (← q, h, e)) (λ lt. rw (← first_here p i m h e lt)) (eq-or-lt_of_le (le_of_suc-le-suc l))

-- nothing passes from i on
pub first_rest : (p : ℕ → Bool) (i n : ℕ) → first i p ≡ None → i ≤ n → ((j : ℕ) → i ≤ j → j < n → p j ≡ false) → first n p ≡ None
unfolding first
first_rest p i zero h l f = let q : i ≡ 0 = omega arith in rw q at h
first_rest p i (suc n) h l f =
    ⊎_elim (λ (q : i ≡ suc n). rw q at h)
    (λ (lt : i < suc n). rw (first_rest p i n h (le_of_suc-le-suc lt) (λ j a b. f j a (omega arith)), f n (le_of_suc-le-suc lt) (omega arith)))
    (eq-or-lt_of_le l)

-- what is found is below n
or_at_below : (f : Option ℕ) (hit : Bool) (n i : ℕ) → ((j : ℕ) → f ≡ Some j → j < n) → or_at f hit n ≡ Some i → i < suc n
or_at_below (Some k) hit n i g h = let l : i < n = g i h in omega arith
or_at_below None true n i g h = let e : n ≡ i = cc in omega arith
or_at_below None false n i g h = clash (cc)

pub first_below : (p : ℕ → Bool) (n i : ℕ) → first n p ≡ Some i → i < n
unfolding first
first_below p zero i h = clash (cc)
first_below p (suc n) i h = or_at_below (first n p) (p n) n i (λ j q. first_below p n j q) h

pub or_else_below : (f g : Option ℕ) (n i : ℕ) → ((j : ℕ) → f ≡ Some j → j < n) → ((j : ℕ) → g ≡ Some j → j < n) → option_or f g ≡ Some i → i < n
or_else_below (Some k) g n i p q h = p i h
or_else_below None g n i p q h = q i h

-- what is found of two searches, one after the other
pub or_else_found : {r f : Option ℕ} {i bound : ℕ} (g : Option ℕ) → Finds r f bound → r ≡ Some i → Finds (Some i) (option_or f g) bound
or_else_found {r} {f} {i} g found is = let e : f ≡ Some i = sym found.eq ∙ is in record { eq = rw e refl; below = rw is at found.below }

pub or_else_other : {r s f g : Option ℕ} {bound : ℕ} → Finds r f bound → r ≡ None → Finds s g bound → Finds s (option_or f g) bound
or_else_other {r} {s} {f} found none other = let e : f ≡ None = sym found.eq ∙ none in rw e other
