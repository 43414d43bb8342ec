-- A loop that writes the cells anew has, before place i, the new cells, and from there on the old ones; at its end all are new. It may pass
-- cells that stay as they are.
use mathlib.Core.Path.{◌≡◌, refl, sym, ap, ◌∙◌}
use mathlib.Core.List.{List, [], ◌∷◌}
use Prim.Native.Nat.{ℕ, zero, suc, ◌+◌, ◌/◌, ◌≤◌, ◌<◌}
use native.Mathlib.Nat.{le_of_suc-le-suc}
use native.Mathlib.Decide.{ℕ_discrete, dec_lt}
use native.Mathlib.Omega.{arith}
use lib.ListN.{length, set, length-set}
use lib.Seq.{get_or-set_same, get_or-set_other, ext_get_or}
use Rattle.settle.specs.Inner.{Written}
use Rattle.settle.specs.Shown.{at}
use Rattle.settle.specs.Step.{units}
use Rattle.settle.proofs.LawLine.{by_dec}

pub written_none : {f : ℕ → ℕ → ℕ} {t : List ℕ} → Written f 0 t t
written_none = record { size = refl; done = λ j l. absurd (omega arith); rest = λ j l. refl }

pub written_more : {f : ℕ → ℕ → ℕ} {i : ℕ} {t₀ t : List ℕ} {y : ℕ} → Written f i t₀ t → i < length t → y ≡ f i (at t i) →
    Written f (i + 1) t₀ (set t i y)
written_more {f} {i} {t₀} {t} {y} h l e =
    record {
      size = length-set t i y ∙ h.size;
      done = λ j m.
          by_dec (ℕ_discrete j i)
          (λ q. rw q (get_or-set_same t i y 0 l ∙ e ∙ ap (f i) (h.rest i (omega arith))))
          (λ q. get_or-set_other t i j y 0 q ∙ h.done j (omega arith));
      rest = λ j m. get_or-set_other t i j y 0 (omega arith) ∙ h.rest j (omega arith);
    }

-- cells that f leaves as they are need not be written
pub written_on : {f : ℕ → ℕ → ℕ} {i m : ℕ} {t₀ t : List ℕ} → Written f i t₀ t → i ≤ m →
    ((j : ℕ) → i ≤ j → j < m → (x : ℕ) → f j x ≡ x) → Written f m t₀ t
written_on {f} {i} {m} {t₀} {t} h l e =
    record {
      size = h.size;
      done = λ j b. by_dec (dec_lt j i) (λ a. h.done j a) (λ a. h.rest j (omega arith) ∙ sym (e j (omega arith) b (at t₀ j)));
      rest = λ j b. h.rest j (omega arith);
    }

pub written_all : {f : ℕ → ℕ → ℕ} {i : ℕ} {t₀ t s : List ℕ} → Written f i t₀ t → length t ≤ i → length s ≡ length t₀ →
    ((j : ℕ) → j < length t₀ → at s j ≡ f j (at t₀ j)) → t ≡ s
written_all {t = t} {s = s} h l e g =
    ext_get_or 0 t s (h.size ∙ sym e) (λ j m. h.done j (omega arith) ∙ sym (g j (omega (arith, h.size))))

pub length_units : (W : ℕ) (t : List ℕ) → length (units W t) ≡ length t
unfolding units
length_units W [] = refl
length_units W (x ∷ xs) = ap suc (length_units W xs)

pub at_units : (W : ℕ) (t : List ℕ) (i : ℕ) → i < length t → at (units W t) i ≡ at t i / W
unfolding units
at_units W [] i l = absurd (omega arith)
at_units W (x ∷ xs) zero l = refl
at_units W (x ∷ xs) (suc i) l = at_units W xs i (le_of_suc-le-suc l)
