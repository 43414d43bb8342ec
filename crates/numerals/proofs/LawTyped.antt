-- How a loop reads a number as it was typed, from the front, and how large it can be. A digit more never makes a number smaller, so that
-- the loop may stop where the number passes its limit. Assumes nothing.
use Rattle.std.specs.Prelude.{Some, None}
use Prim.Native.Nat.{ℕ, ◌+◌, ◌-◌, ◌*◌, ◌≤◌, ◌<◌}
use mathlib.Core.Path.{◌≡◌}
use mathlib.Core.Bool.{true, false, ◌||◌, and-false}
use mathlib.Core.List.{List, [], ◌∷◌}
use native.Mathlib.Numerals.{add-one}
use native.Mathlib.Omega.{arith}
use lib.Dec.{leb, ltb}
use lib.ListN.{length, drop, get_or, drop_of_length-le}
use lib.Seq.{drop-cons}
use borrow.Author.Tests.{le-leb, lt-leb, leb-true, ltb-true, ltb-false}
use Rattle.search.proofs.LawTest.{either_way, clash, and_left, and_right, every_at, or_left, or_right}
use Rattle.search.specs.Test.{every}
use Rattle.numerals.specs.Numeral.{zero_digit, value_of}
use Rattle.numerals.specs.Typed.{nine_digit, is_digit, all_digits, is_numeral, number_in}
use Rattle.numerals.specs.Inner.{onward}

-- ---- a numeral

pub digit_low : (byte : ℕ) → is_digit byte ≡ true → zero_digit ≤ byte
digit_low byte h = leb-true zero_digit byte (and_left (leb zero_digit byte) (leb byte nine_digit) h)

pub digit_high : (byte : ℕ) → is_digit byte ≡ true → byte ≤ nine_digit
digit_high byte h = leb-true byte nine_digit (and_right (leb zero_digit byte) (leb byte nine_digit) h)

value_grows : (so_far : ℕ) (bytes : List ℕ) → so_far ≤ value_of so_far bytes
unfolding value_of
value_grows so_far [] = omega arith
value_grows so_far (b ∷ bytes) = omega (arith, value_grows (10 * so_far + (b - zero_digit)) bytes)

-- ---- a loop over the bytes: i of them are digits, and were read as v

module _ (most v i : ℕ) (bytes : List ℕ) (h : i < length bytes) where
  pub onward_digit : is_digit (get_or bytes i 0) ≡ true
      → onward most v (drop i bytes) ≡ onward most (10 * v + (get_or bytes i 0 - zero_digit)) (drop (i + 1) bytes)
  unfolding onward all_digits value_of
  onward_digit d = rw (add-one, drop-cons bytes i 0 h, d)

  pub onward_other : is_digit (get_or bytes i 0) ≡ false → onward most v (drop i bytes) ≡ None
  unfolding onward all_digits
  onward_other d = rw (drop-cons bytes i 0 h, d)

  pub onward_over : most < 10 * v + (get_or bytes i 0 - zero_digit) → onward most v (drop i bytes) ≡ None
  unfolding onward value_of
  onward_over over =
      let next = 10 * v + (get_or bytes i 0 - zero_digit) in
      let all : most < value_of next (drop (i + 1) bytes) = omega (arith, value_grows next (drop (i + 1) bytes)) in
      rw (drop-cons bytes i 0 h, ← add-one, lt-leb (value_of next (drop (i + 1) bytes)) most all, and-false)

pub onward_done : (most v i : ℕ) (bytes : List ℕ) → length bytes ≤ i → v ≤ most → onward most v (drop i bytes) ≡ Some v
unfolding onward all_digits value_of
onward_done most v i bytes h l = rw (drop_of_length-le bytes h, le-leb v most l)

-- ---- the length, which is looked at first

module _ (digits most : ℕ) (bytes : List ℕ) where
  pub size_other : (ltb (length bytes) 1 || ltb digits (length bytes)) ≡ true → number_in digits most bytes ≡ None
  unfolding number_in is_numeral every
  size_other h =
      either_way (ltb (length bytes) 1) (λ e. rw (lt-leb 1 (length bytes) (ltb-true (length bytes) 1 e)))
      (λ e.
      let long : ltb digits (length bytes) ≡ true = rw e at h in
      rw (lt-leb (length bytes) digits (ltb-true digits (length bytes) long), and-false))

  pub size_right : (ltb (length bytes) 1 || ltb digits (length bytes)) ≡ false → number_in digits most bytes ≡ onward most 0 bytes
  unfolding number_in is_numeral every onward
  size_right h =
      let some = ltb-false (length bytes) 1 (or_left (ltb (length bytes) 1) (ltb digits (length bytes)) h) in
      let few = ltb-false digits (length bytes) (or_right (ltb (length bytes) 1) (ltb digits (length bytes)) h) in
      rw (le-leb 1 (length bytes) some, le-leb (length bytes) digits few)

  -- ---- what a number that was read says of the bytes

  pub number_is : (n : ℕ) → number_in digits most bytes ≡ Some n → (is_numeral digits most bytes ≡ true) × (value_of 0 bytes ≡ n)
  unfolding number_in
  number_is n e =
      either_way (is_numeral digits most bytes)
      (λ t. let same : Some (value_of 0 bytes) ≡ Some n = rw t at e in (t, cc))
      (λ t. let other : None ≡ Some n = rw t at e in clash (cc))

  pub number_most : (n : ℕ) → number_in digits most bytes ≡ Some n → n ≤ most
  unfolding is_numeral
  number_most n e =
      let is = number_is n e in
      omega (arith, leb-true (value_of 0 bytes) most (every_at _ is.0 3), is.1)
