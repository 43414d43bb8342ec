-- Past the end every number is 0, of bytes every number is below its range, and a number is what stands from its place on: each of its
-- halves is, by the law of half its bytes. Assumes nothing.
use Prim.Native.Nat.{ℕ, zero, suc, ◌+◌, ◌^◌, ◌≤◌, ◌<◌}
use mathlib.Core.List.{List, [], ◌∷◌}
use mathlib.Core.Path.{◌≡◌, sym}
use native.Mathlib.Nat.{add_assoc}
use native.Mathlib.Omega.{arith}
use lib.ListN.{length, take, drop, get_or-eq_default}
use lib.Seq.{get_or-drop}
use Rattle.little.specs.Part.{part_of}
use Rattle.little.specs.Read.{u16_range, u32_range, byte_at, u16_at, u32_at, u64_at, AreBytes}

pub byte_past : (s : List ℕ) (at : ℕ) → length s ≤ at → byte_at s at ≡ 0
byte_past s at h = get_or-eq_default s 0 h

pub u16_past : (s : List ℕ) (at : ℕ) → length s ≤ at → u16_at s at ≡ 0
unfolding u16_at
u16_past s at h = omega (arith, byte_past s at h, byte_past s (at + 1) (omega arith))

pub u32_past : (s : List ℕ) (at : ℕ) → length s ≤ at → u32_at s at ≡ 0
unfolding u32_at
u32_past s at h = omega (arith, u16_past s at h, u16_past s (at + 2) (omega arith))

pub u64_past : (s : List ℕ) (at : ℕ) → length s ≤ at → u64_at s at ≡ 0
unfolding u64_at
u64_past s at h = omega (arith, u32_past s at h, u32_past s (at + 4) (omega arith))

pub u16_below : (s : List ℕ) → AreBytes s → (at : ℕ) → u16_at s at < u16_range
unfolding u16_at
u16_below s bytes at = omega (arith, bytes at, bytes (at + 1))

pub u32_below : (s : List ℕ) → AreBytes s → (at : ℕ) → u32_at s at < u32_range
unfolding u32_at
u32_below s bytes at = omega (arith, u16_below s bytes at, u16_below s bytes (at + 2))

pub u64_below : (s : List ℕ) → AreBytes s → (at : ℕ) → u64_at s at < 2 ^ 64
unfolding u64_at
u64_below s bytes at = omega (arith, u32_below s bytes at, u32_below s bytes (at + 4))

-- a part of bytes is bytes
take_bytes : (n : ℕ) (s : List ℕ) → AreBytes s → AreBytes (take n s)
take_bytes zero s bytes i = omega arith
take_bytes (suc n) [] bytes i = bytes i
take_bytes (suc n) (x ∷ s) bytes zero = bytes 0
take_bytes (suc n) (x ∷ s) bytes (suc i) = take_bytes n s (λ j. bytes (suc j)) i

pub part_bytes : (s : List ℕ) (from count : ℕ) → AreBytes s → AreBytes (part_of s from count)
part_bytes s from count bytes = take_bytes count (drop from s) (λ i. rw (get_or-drop from s i 0) (bytes (from + i)))

pub byte_from : (s : List ℕ) (at k : ℕ) → byte_at s (at + k) ≡ byte_at (drop at s) k
byte_from s at k = sym (get_or-drop at s k 0)

pub u16_from : (s : List ℕ) (at k : ℕ) → u16_at s (at + k) ≡ u16_at (drop at s) k
unfolding u16_at
u16_from s at k = rw (← byte_from s at k, ← byte_from s at (k + 1), add_assoc)

pub u32_from : (s : List ℕ) (at k : ℕ) → u32_at s (at + k) ≡ u32_at (drop at s) k
unfolding u32_at
u32_from s at k = rw (← u16_from s at k, ← u16_from s at (k + 2), add_assoc)

pub u64_from : (s : List ℕ) (at k : ℕ) → u64_at s (at + k) ≡ u64_at (drop at s) k
unfolding u64_at
u64_from s at k = rw (← u32_from s at k, ← u32_from s at (k + 4), add_assoc)
