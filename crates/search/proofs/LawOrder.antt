-- How a dictionary order is found: by the first numbers that differ.
use Prim.Native.Nat.{ℕ, ◌≤◌, ◌<◌}
use mathlib.Core.Path.{◌≡◌, refl, ap, ◌∙◌}
use mathlib.Core.Bool.{◌&&◌, ◌||◌}
use mathlib.Core.List.{List, [], ◌∷◌, ◌++◌}
use native.Mathlib.Omega.{arith}
use borrow.Author.Tests.{ltb-true, ltb-false, lt-ltb, le-ltb, eq-eqb, ne_eqb}
use lib.Dec.{ltb, eqb}
use lib.ListN.{length}
use Rattle.std.specs.declared.cmp.Ordering.{Ordering}
use Rattle.std.specs.declared.cmp.Ordering.TheVariants.{Less, Equal, Greater}
use Rattle.std.specs.Ordering.{MatchOrdering, nat_cmp, ordering_then, is_lt, is_eq}
use Rattle.search.specs.InnerOrder.{list_order}
use Rattle.search.proofs.LawTest.{either_way}

module _ (x y : ℕ) where
  pub number_before : x < y → nat_cmp x y ≡ Less
  number_before l = rw (lt-ltb x y l)

  pub number_same : x ≡ y → nat_cmp x y ≡ Equal
  number_same e = let h : y ≤ x = omega arith in rw (le-ltb x y h, eq-eqb x y e)

  pub number_after : y < x → nat_cmp x y ≡ Greater
  number_after l = let h : y ≤ x = omega arith in rw (le-ltb x y h, ne_eqb x y (λ e. omega arith))

  -- a last number decides by itself
  pub last_decides : nat_cmp x y ≡ list_order (x ∷ []) (y ∷ [])
  unfolding list_order
  last_decides = by_itself (nat_cmp x y)
    where
      by_itself : (o : Ordering) → o ≡ ordering_then o Equal
      by_itself Less = refl
      by_itself Equal = refl
      by_itself Greater = refl

  module _ (xs ys : List ℕ) where
    -- the first numbers decide where they differ
    pub first_differ : (x ≡ y → ⊥) → nat_cmp x y ≡ list_order (x ∷ xs) (y ∷ ys)
    unfolding list_order
    first_differ n =
        either_way (ltb x y)
        (λ l. rw (number_before (ltb-true x y l)))
        (λ l. rw (number_after (omega (arith, ltb-false x y l, n))))

    -- and leave it to the rest where they are the same
    pub first_same : x ≡ y → list_order xs ys ≡ list_order (x ∷ xs) (y ∷ ys)
    unfolding list_order
    first_same e = rw (number_same e)

    pub before_first : is_lt (list_order (x ∷ xs) (y ∷ ys)) ≡ (ltb x y || eqb x y && is_lt (list_order xs ys))
    unfolding list_order
    before_first = either_way (ltb x y) (λ l. rw l) (λ l. either_way (eqb x y) (λ e. rw (l, e)) (λ e. rw (l, e)))

    pub same_first : is_eq (list_order (x ∷ xs) (y ∷ ys)) ≡ (eqb x y && is_eq (list_order xs ys))
    unfolding list_order
    same_first =
        either_way (ltb x y)
        (λ l. let n = ltb-true x y l in rw (l, ne_eqb x y (λ e. omega arith)))
        (λ l. either_way (eqb x y) (λ e. rw (l, e)) (λ e. rw (l, e)))

-- ---- the order of two lists, part by part

then_then : (o p q : Ordering) → ordering_then o (ordering_then p q) ≡ ordering_then (ordering_then o p) q
then_then Less p q = refl
then_then Equal p q = refl
then_then Greater p q = refl

pub order_joined : (xs ys us vs : List ℕ) → length xs ≡ length us
    → list_order (xs ++ ys) (us ++ vs) ≡ ordering_then (list_order xs us) (list_order ys vs)
unfolding list_order
order_joined [] ys [] vs e = refl
order_joined [] ys (u ∷ us) vs e = absurd (omega arith)
order_joined (x ∷ xs) ys [] vs e = absurd (omega arith)
order_joined (x ∷ xs) ys (u ∷ us) vs e =
    ap (ordering_then (nat_cmp x u)) (order_joined xs ys us vs (omega arith)) ∙ then_then (nat_cmp x u) (list_order xs us) (list_order ys vs)

-- given what a call `s = r.then_with(..)` says of itself, and what the closure answers
pub then_told : (r s o : Ordering) (P : Type 0) → MatchOrdering r (s ≡ Less) P (s ≡ Greater) → (P → s ≡ o) → s ≡ ordering_then r o
then_told Less s o P told other = told
then_told Equal s o P told other = other told
then_told Greater s o P told other = told
