-- What tests of many things say, and how a loop makes them.
use Prim.Native.Nat.{ℕ, zero, suc, ◌+◌, ◌<◌}
use mathlib.Core.Bool.{Bool, true, false, ◌&&◌, ◌||◌}
use mathlib.Core.Path.{◌≡◌, refl, ◌∙◌}
use mathlib.Core.List.{List, [], ◌∷◌}
use mathlib.Core.Logic.{⊎_elim}
use native.Mathlib.Nat.{not-suc-le-zero, le_of_suc-le-suc, eq-or-lt_of_le}
use native.Mathlib.Omega.{arith}
use lib.ListN.{get_or}
use denote.Param.Members.{Mut}
use Rattle.std.specs.Fn.{Called}
use Rattle.std.specs.Iterator.{ChecksAll}
use Rattle.std.specs.List.{list_all, range_with_len}
use Rattle.std.proofs.lemmas.Iterator.{YieldsList}
use Rattle.std.specs.Prelude.{Option}
use Rattle.std.proofs.lemmas.Iterator.Search.{all_from_yields_List}
use Rattle.search.specs.Test.{all, every, every_from}

-- by cases on a test
pub either_way : {P : Type 0} (t : Bool) → (t ≡ true → P) → (t ≡ false → P) → P
either_way true a b = a refl
either_way false a b = b refl

-- two cases of an enum that would be equal: `clash (cc)`
pub clash : {P : Type 0} → ◌≡◌ {A = ℕ} 0 1 → P
clash e = absurd (omega arith)

pub and_left : (a b : Bool) → (a && b) ≡ true → a ≡ true
and_left true b h = refl
and_left false b h = h

pub and_right : (a b : Bool) → (a && b) ≡ true → b ≡ true
and_right true b h = h
and_right false b h = cc

-- what `all` says of a number below n
pub all_at : (p : ℕ → Bool) (n i : ℕ) → all n p ≡ true → i < n → p i ≡ true
unfolding all
all_at p zero i h l = absurd (not-suc-le-zero l)
all_at p (suc n) i h l =
    ⊎_elim (λ (q : i ≡ n). rw q (and_right (all n p) (p n) h))
    (λ (lt : i < n). all_at p n i (and_left (all n p) (p n) h) lt)
    (eq-or-lt_of_le (le_of_suc-le-suc l))

pub all_of : (p : ℕ → Bool) (n : ℕ) → ((i : ℕ) → i < n → p i ≡ true) → all n p ≡ true
unfolding all
all_of p zero f = refl
all_of p (suc n) f = rw (all_of p n (λ i l. f i (omega arith)), f n (omega arith))

-- what `(0..n).all(..)` answers is the test at every number below n
one_more : (p : ℕ → Bool) (a n : ℕ) → list_all p (range_with_len a (suc n)) ≡ (list_all p (range_with_len a n) && p (a + n))
one_more p a zero = let e : a + 0 ≡ a = omega arith in rw e (alone (p a))
  where
    alone : (t : Bool) → (t && true) ≡ t
    alone true = refl
    alone false = refl
one_more p a (suc n) =
    let e : a + 1 + n ≡ a + suc n = omega arith in
    rw (one_more p (a + 1) n, e) (grouped (p a) (list_all p (range_with_len (a + 1) n)) (p (a + suc n)))
  where
    grouped : (s t u : Bool) → (s && (t && u)) ≡ ((s && t) && u)
    grouped true t u = refl
    grouped false t u = refl

all_counted : (p : ℕ → Bool) (n : ℕ) → list_all p (range_with_len 0 n) ≡ all n p
unfolding all
all_counted p zero = refl
all_counted p (suc n) = let e : 0 + n ≡ n = omega arith in one_more p 0 n ∙ rw (all_counted p n, e) refl

-- given what that call says of itself under `ran`, that it goes over a range, and that f answers the test
pub all_of_range : {S F : Type 0} {steps : S → Option ℕ → S → Type 0} {g : Mut F (ℕ × Unit {0}) Bool} {s : S}
    (p : ℕ → Bool) (n : ℕ) (u : S) (f : F) (r : Bool) → ChecksAll steps g s f r u → YieldsList steps (λ x. x) s (range_with_len 0 n)
    → ((x : ℕ) (b : Bool) (q : F) → Called g f (x, tt) b q → (q ≡ f) × (b ≡ p x)) → r ≡ all n p
all_of_range p n u f r ran range told = all_from_yields_List p u f r ran range told ∙ all_counted p n

-- what `every` says of the entry at k
from_first : (a : Bool) (l : List Bool) → every_from a l ≡ true → a ≡ true
from_first a [] h = h
from_first a (x ∷ xs) h = and_left a x (from_first (a && x) xs h)

from_at : (a : Bool) (l : List Bool) → every_from a l ≡ true → (k : ℕ) → get_or l k true ≡ true
from_at a [] h k = refl
from_at a (x ∷ xs) h zero = and_right a x (from_first (a && x) xs h)
from_at a (x ∷ xs) h (suc k) = from_at (a && x) xs h k

pub every_at : (l : List Bool) → every l ≡ true → (k : ℕ) → get_or l k true ≡ true
unfolding every
every_at [] h k = refl
every_at (x ∷ xs) h zero = from_first x xs h
every_at (x ∷ xs) h (suc k) = from_at x xs h k

-- ---- what `or` leaves where it does not hold

pub or_left : (a b : Bool) → (a || b) ≡ false → a ≡ false
or_left true b h = h
or_left false b h = refl

pub or_right : (a b : Bool) → (a || b) ≡ false → b ≡ false
or_right true b h = cc
or_right false b h = h
