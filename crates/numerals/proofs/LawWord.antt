-- A word has as many bytes as its size, and is read again as its number. Assumes nothing.
use Prim.Native.Nat.{ℕ, zero, suc, ◌+◌, ◌-◌, ◌/◌, ◌%◌, ◌^◌, ◌≤◌, ◌<◌}
use mathlib.Core.Path.{◌≡◌, refl, ap, ◌∙◌}
use mathlib.Core.List.{List, ◌∷◌, ◌++◌}
use native.Mathlib.Omega.{arith}
use lib.ListN.{length, take}
use native.Mathlib.Nat.{pow-suc, suc-add, div-div-eq-div-mul}
use Rattle.std.specs.Int.{w64, to_le_bytes, bytes_low_first, byte_at as number_byte}
use Rattle.little.specs.Read.{byte_range, u16_range, u32_range, byte_at, u16_at, u32_at, u64_at}
use Rattle.numerals.specs.Laid.{Lays}
use Rattle.numerals.specs.Word.{word}

pub length_word : (size n : ℕ) → length (word size n) ≡ size
unfolding word
length_word zero n = refl
length_word (suc size) n = ap suc (length_word size (n / byte_range))

-- ---- of the library's bytes of a number, the low ones

low_first : (i k n : ℕ) → bytes_low_first i k n ≡ word k (n / byte_range ^ i)
unfolding word
low_first i zero n = refl
low_first i (suc k) n =
    let next : n / byte_range ^ suc i ≡ n / byte_range ^ i / byte_range = rw (pow-suc, ← div-div-eq-div-mul n (byte_range ^ i) byte_range) refl in
    rw (here i, low_first (suc i) k n, next) refl
  where
    here : (i : ℕ) → number_byte i n ≡ n / byte_range ^ i % byte_range
    here zero = omega arith
    here (suc i) = refl

take_word : (size more n : ℕ) → take size (word (size + more) n) ≡ word size n
unfolding word
take_word zero more n = refl
take_word (suc size) more n = rw suc-add (ap (λ (bytes : List ℕ). n % byte_range ∷ bytes) (take_word size more (n / byte_range)))

word_of_bytes : (size n : ℕ) → size ≤ 8 → take size (to_le_bytes w64 n) ≡ word size n
word_of_bytes size n h =
    let whole : size + (8 - size) ≡ 8 = omega arith in
    let first : n / byte_range ^ 0 ≡ n = omega arith in
    ap (take size) (low_first 0 8 n) ∙ rw (first, ← whole) (take_word size (8 - size) n)

pub lays_word : (size n : ℕ) {bytes text text' : List ℕ} {at r : ℕ} → size ≤ 8 → bytes ≡ to_le_bytes w64 n
    → Lays (take size bytes) (length (take size bytes)) at text r text' → Lays (word size n) size at text r text'
lays_word size n {bytes} {text} {text'} {at} {r} h e laid =
    let same : take size bytes ≡ word size n = rw e (word_of_bytes size n h) in
    let l : Lays (word size n) (length (word size n)) at text r text' = rw same at laid in
    record { counts = l.counts; few = omega (arith, l.few, length_word size n); holds = l.holds }

-- ---- read again, whatever follows

-- the four low bytes, and the four behind them
low_four : (n : ℕ) (rest : List ℕ) → u32_at (word 4 n ++ rest) 0 ≡ n % u32_range
unfolding word u32_at u16_at
low_four n rest = omega arith

high_four : (n : ℕ) (rest : List ℕ) → u32_at (word 8 n ++ rest) 4 ≡ n / u32_range % u32_range
unfolding word u32_at u16_at
high_four n rest = omega arith

module _ (n : ℕ) (rest : List ℕ) where
  pub word_one : n < byte_range → byte_at (word 1 n ++ rest) 0 ≡ n
  unfolding word
  word_one h = omega arith

  pub word_two : n < u16_range → u16_at (word 2 n ++ rest) 0 ≡ n
  unfolding word u16_at
  word_two h = omega arith

  pub word_four : n < u32_range → u32_at (word 4 n ++ rest) 0 ≡ n
  word_four h = omega (arith, low_four n rest)

  pub word_eight : n < 2 ^ 64 → u64_at (word 8 n ++ rest) 0 ≡ n
  unfolding u64_at word
  word_eight h =
      let behind = word 4 (n / byte_range / byte_range / byte_range / byte_range) ++ rest in
      let low : u32_at (word 8 n ++ rest) 0 ≡ n % u32_range = low_four n behind in
      let high : u32_at (word 8 n ++ rest) (0 + 4) ≡ n / u32_range % u32_range = high_four n rest in
      omega arith
