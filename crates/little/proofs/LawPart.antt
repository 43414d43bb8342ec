-- Parts of lists, read and written: `take` and `drop` at a place that is past the end, or is where two lists were joined. Assumes nothing.
use Prim.Native.Nat.{ℕ, zero, suc, ◌+◌, ◌*◌, ◌≤◌, ◌<◌}
use mathlib.Core.Path.{◌≡◌, refl, sym, ap, ◌∙◌}
use mathlib.Core.List.{List, [], ◌∷◌, ◌++◌, append-nil}
use native.Mathlib.Nat.{le_antisymm, not-suc-le-zero, le_of_suc-le-suc, mul-suc, zero-mul, suc-mul}
use native.Mathlib.Numerals.{add-one}
use native.Mathlib.Omega.{arith}
use lib.ListN.{length, set, take, drop, replicate, drop_of_length-le, take-append-drop}
use lib.Seq.{take_at, drop_at, drop-drop, take-take, take-add, length-take-le}
use borrow.Rule.Slice.PartMut.{put_mid}
use Rattle.little.specs.Part.{part_of}

-- a fill from the front: one more entry, and that it reached the end
fill_next : {X : Type 0} (v : X) (n : ℕ) (d : List X) → n < length d → set (replicate n v ++ drop n d) n v ≡ replicate (suc n) v ++ drop (suc n) d
fill_next v n [] l = absurd (not-suc-le-zero l)
fill_next v zero (x ∷ d) l = refl
fill_next v (suc n) (x ∷ d) l = ap (λ t. v ∷ t) (fill_next v n d (le_of_suc-le-suc l))

pub fill_more : {X : Type 0} (v : X) (n : ℕ) (d : List X) → n < length d → set (replicate n v ++ drop n d) n v ≡ replicate (n + 1) v ++ drop (n + 1) d
fill_more v n d l = rw add-one (fill_next v n d l)

pub fill_done : {X : Type 0} (d : List X) (v : X) (i : ℕ) → length d ≤ i → i ≤ length d → replicate i v ++ drop i d ≡ replicate (length d) v
fill_done d v i h g =
    ap (λ t. replicate i v ++ t) (drop_of_length-le d h)
    ∙ append-nil (replicate i v)
    ∙ ap (λ (k : ℕ). replicate k v) (le_antisymm g h)

-- of a list cut into parts of k entries each, part i is written: before it stands p, and what follows is as it was
pub put_part : (k i : ℕ) (p e v : List ℕ) → length p ≡ k * i
    → put_mid (k * i) k (p ++ drop (k * i) e) v ≡ p ++ (v ++ drop (k * (i + 1)) e)
put_part k i p e v h =
    let rest = drop (k * i) e in
    rw (take_at p rest (k * i) h, drop_at p rest (k * i) h, drop-drop k (k * i) e, add-one i, mul-suc k i)

-- a part that is written and read again
pub put_read : (from count : ℕ) (s v : List ℕ) → from ≤ length s → length v ≡ count → part_of (put_mid from count s v) from count ≡ v
put_read from count s v h e =
    ap (take count) (drop_at (take from s) (v ++ drop count (drop from s)) from (length-take-le from s h))
    ∙ take_at v (drop count (drop from s)) count e

-- a part is decided by what stands before any place from its end on
part_of_front : (s : List ℕ) (from count n : ℕ) → from + count ≤ n → n ≤ length s → drop from (take (from + count) (take n s)) ≡ part_of s from count
part_of_front s from count n h g =
    rw (take-take (from + count) n s h, take-add from count s) (drop_at (take from s) (part_of s from count) from (length-take-le from s (omega arith)))

pub part_kept : (s t : List ℕ) (from count n : ℕ) → from + count ≤ n → n ≤ length s → n ≤ length t → take n s ≡ take n t
    → part_of s from count ≡ part_of t from count
part_kept s t from count n h g k e =
    sym (part_of_front s from count n h g)
    ∙ ap (λ (z : List ℕ). drop from (take (from + count) z)) e
    ∙ part_of_front t from count n h k

-- lists whose first n runs of so many entries are the same, and that go on alike, are equal
runs_front : (count n : ℕ) (s t : List ℕ) → ((i : ℕ) → i < n → part_of s (i * count) count ≡ part_of t (i * count) count)
    → take (n * count) s ≡ take (n * count) t
runs_front count zero s t same = rw (zero-mul count) refl
runs_front count (suc n) s t same =
    rw (suc-mul n count, take-add (n * count) count s, take-add (n * count) count t, runs_front count n s t (λ i h. same i (omega arith)), same n (omega arith))

pub runs_decide : (count n : ℕ) (s t : List ℕ) → ((i : ℕ) → i < n → part_of s (i * count) count ≡ part_of t (i * count) count)
    → drop (n * count) s ≡ drop (n * count) t → s ≡ t
runs_decide count n s t same past =
    sym (take-append-drop (n * count) s)
    ∙ rw (runs_front count n s t same, past) (take-append-drop (n * count) t)
