-- What private functions and laws use, beside what a promise says. Nothing here is needed to read a promise. Assumes nothing.
use Rattle.std.specs.Prelude.{ℕ, ◌+◌, ◌≤◌, ◌≡◌, Bool, true, cond, ◌&&◌, ◌||◌, List, [], ◌∷◌, leb, ltb, eqb, length, drop, Option, Some, None}
use Rattle.numerals.specs.Numeral.{most_digits, point, value_of}
use Rattle.numerals.specs.Typed.{is_digit, all_digits, places, most_places, places_in, joined}
use Rattle.numerals.specs.Ahead.{front_digits, ending_at}
use Rattle.numerals.specs.declared.ahead.Ahead.{Ahead}
use Rattle.numerals.specs.declared.ahead.Digits.{Digits}

-- the list is these digits from r on
pub record Ends (digits : List ℕ) (r : ℕ) (list : List ℕ) : Type 0 where
  pub within : r ≤ most_digits
  pub size : length list ≡ most_digits
  pub ends : drop r list ≡ digits

-- the number of bytes that are all digits, behind the number that was read so far, where it is at most `most`
unfoldable pub onward : (most so_far : ℕ) (bytes : List ℕ) → Option ℕ
onward most so_far bytes = cond (all_digits bytes && leb (value_of so_far bytes) most) (Some (value_of so_far bytes)) None

-- a number, if it is one, is at most so large
abbrev pub AtMost : (most : ℕ) (typed : Option ℕ) → Type 0
AtMost most typed = (n : ℕ) → typed ≡ Some n → n ≤ most

-- 1 to 3 digits, if they are a number
abbrev pub FewPlaces : (size : ℕ) (digits : Option ℕ) → Type 0
FewPlaces size digits = (n : ℕ) → digits ≡ Some n → (1 ≤ size) × (size ≤ places) × (n ≤ most_places)

-- ---- a number from a place on

-- the digits there, as their number and where they end
unfoldable pub digits_from : (text : List ℕ) (at : ℕ) → Digits
digits_from text at =
    record { value = value_of 0 (front_digits (drop at text)); end = at + length (front_digits (drop at text)) }

-- the number of so many digits
unfoldable pub number_of : (size value digits most : ℕ) → Option ℕ
number_of size value digits most = cond (ltb size 1 || ltb digits size) None (cond (ltb most value) None (Some value))

-- the places from there on, behind what stands before the point
unfoldable pub with_places : (text : List ℕ) (at : ℕ) (whole : Option ℕ) → Option Ahead
with_places text at whole =
    ending_at (at + length (front_digits (drop at text))) (joined whole (places_in (front_digits (drop at text))))

-- ---- the bytes of a decimal numeral
abbrev pub digit_or_point : (byte : ℕ) → Bool
digit_or_point byte = is_digit byte || eqb byte point

unfoldable pub all_decimal : List ℕ → Bool
all_decimal [] = true
all_decimal (b ∷ bytes) = digit_or_point b && all_decimal bytes
