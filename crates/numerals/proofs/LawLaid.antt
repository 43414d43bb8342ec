-- What stands after bytes are laid: one byte is one store, and two runs of bytes, the second where the first ends, are laid as one run.
-- Assumes nothing.
use Prim.Native.Nat.{ℕ, suc, ◌+◌, ◌≤◌, ◌<◌}
use mathlib.Core.Path.{◌≡◌, refl, sym, ap, ◌∙◌}
use mathlib.Core.List.{List, [], ◌∷◌, ◌++◌, append_assoc}
use native.Mathlib.Nat.{zero-add, add-zero, add-suc, suc-add}
use native.Mathlib.Numerals.{add-one}
use native.Mathlib.Omega.{arith}
use lib.ListN.{length, take, drop, get_or, set, length-append}
use lib.Seq.{drop-drop, sets-eq, set_out, set_comm, length-sets, length-take-le, take-suc, take_all}
use borrow.Rule.Slice.PartMut.{put_mid}
use Rattle.numerals.specs.Laid.{laid, Lays}

pub length_laid : (at : ℕ) (bytes text : List ℕ) → length (laid at bytes text) ≡ length text
unfolding laid
length_laid at bytes text = length-sets text at bytes

-- one byte, stored or dropped
pub laid_one : (k byte : ℕ) (text : List ℕ) → set text k byte ≡ laid k (byte ∷ []) text
unfolding laid
laid_one k byte text = refl

pub laid_past : (k byte : ℕ) (text : List ℕ) → length text ≤ k → text ≡ laid k (byte ∷ []) text
unfolding laid
laid_past k byte text h = sym (set_out text k byte h)

-- where there is room
pub laid_is : (bytes text : List ℕ) → length bytes ≤ length text → laid 0 bytes text ≡ bytes ++ drop (length bytes) text
unfolding laid
laid_is bytes text h = sets-eq bytes text 0 (rw zero-add h) ∙ rw zero-add

-- the second run where the first ends
pub laid_more : (at : ℕ) (a b text : List ℕ) → laid (at + length a) b (laid at a text) ≡ laid at (a ++ b) text
unfolding laid
laid_more at [] b text = rw add-zero
laid_more at (x ∷ a) b text = rw (add-suc, ← suc-add) (laid_more (suc at) a b (set text at x))

-- one byte more
laid_next : (at byte : ℕ) (a text : List ℕ) {i : ℕ} {x : List ℕ} → length a ≡ i → x ≡ laid at a text
    → laid (at + i) (byte ∷ []) x ≡ laid at (a ++ (byte ∷ [])) text
laid_next at byte a text size e = rw (e, ← size) (laid_more at a (byte ∷ []) text)

-- four bytes more, one after the other
pub four_more : (b c d e : ℕ) {bytes : List ℕ} {most at : ℕ} {text : List ℕ} {r : ℕ} {t u v w x : List ℕ} → Lays bytes most at text r t
    → u ≡ laid (at + r) (b ∷ []) t → v ≡ laid (at + (r + 1)) (c ∷ []) u → w ≡ laid (at + (r + 2)) (d ∷ []) v
    → x ≡ laid (at + (r + 3)) (e ∷ []) w → Lays (bytes ++ (b ∷ c ∷ d ∷ e ∷ [])) (most + 4) at text (r + 4) x
four_more b c d e {bytes} {most} {at} {text} {r} {t} {u} {v} {w} {x} h i j k l =
    let one : length (bytes ++ (b ∷ [])) ≡ r + 1 = rw length-append (omega (arith, h.counts)) in
    let two : length (bytes ++ (b ∷ []) ++ (c ∷ [])) ≡ r + 2 = rw (length-append, length-append) (omega (arith, h.counts)) in
    let three : length (bytes ++ (b ∷ []) ++ (c ∷ []) ++ (d ∷ [])) ≡ r + 3 = rw (length-append, length-append, length-append) (omega (arith, h.counts)) in
    let after-b = i ∙ laid_next at b bytes text (sym h.counts) h.holds in
    let after-c = j ∙ laid_next at c (bytes ++ (b ∷ [])) text one after-b in
    let after-d = k ∙ laid_next at d (bytes ++ (b ∷ []) ++ (c ∷ [])) text two after-c in
    let after-e = l ∙ laid_next at e (bytes ++ (b ∷ []) ++ (c ∷ []) ++ (d ∷ [])) text three after-d in
    record {
      counts = rw length-append (omega (arith, h.counts));
      few = omega (arith, h.few);
      holds = simp append_assoc at after-e;
    }

-- ---- a loop that lays one byte after the other, i of them so far

pub laid_none : (at : ℕ) (text : List ℕ) → text ≡ laid at [] text
unfolding laid
laid_none at text = refl

pub laid_step : (at i : ℕ) (bytes text : List ℕ) {x : List ℕ} → i < length bytes → x ≡ laid at (take i bytes) text
    → laid (at + i) (get_or bytes i 0 ∷ []) x ≡ laid at (take (i + 1) bytes) text
laid_step at i bytes text h e =
    let size : length (take i bytes) ≡ i = length-take-le i bytes (omega arith) in
    rw (add-one, take-suc bytes i 0 h) (laid_next at (get_or bytes i 0) (take i bytes) text size e)

pub laid_done : (at i : ℕ) (bytes text text' : List ℕ) → text' ≡ laid at (take i bytes) text → length bytes ≤ i → text' ≡ laid at bytes text
laid_done at i bytes text text' e h = e ∙ ap (λ (b : List ℕ). laid at b text) (take_all i bytes h)

-- ---- a part of the text, stored over

pub laid_over : (at k : ℕ) (bytes text x : List ℕ) → x ≡ bytes → k ≡ length bytes → at + length bytes ≤ length text
    → put_mid at k text x ≡ laid at bytes text
unfolding laid
laid_over at k bytes text x e size h = rw (e, size, sets-eq bytes text at h, drop-drop (length bytes) at text, append_assoc)

-- ---- the first run after the second, which begins where it ends

-- a store before all that is laid
store_before : (k x at : ℕ) (b text : List ℕ) → k < at → set (laid at b text) k x ≡ laid at b (set text k x)
unfolding laid
store_before k x at [] text h = refl
store_before k x at (y ∷ b) text h =
    store_before k x (suc at) b (set text at y) (omega (arith, h)) ∙ ap (λ (t : List ℕ). laid (suc at) b t) (set_comm text at k y x (λ e. omega (arith, e, h)))

pub laid_before : (at : ℕ) (a b text : List ℕ) → laid at a (laid (at + length a) b text) ≡ laid at (a ++ b) text
unfolding laid
laid_before at [] b text = rw add-zero
laid_before at (x ∷ a) b text =
    let later : at + suc (length a) ≡ suc at + length a = omega arith in
    rw (later, store_before at x (suc at + length a) b text (omega arith)) (laid_before (suc at) a b (set text at x))
