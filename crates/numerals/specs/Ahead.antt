-- A number that stands in a text from a place on: as far as its digits go, whatever follows them. Assumes nothing.
use Rattle.std.specs.Prelude.{ℕ, ◌+◌, ◌-◌, ◌*◌, cond, ◌&&◌, List, [], ◌∷◌, ◌++◌, leb, eqb, length, drop, Option, Some, None}
use Rattle.numerals.specs.Numeral.{zero_digit, point}
use Rattle.numerals.specs.Typed.{is_digit, number_in, decimal_in}
use Rattle.numerals.specs.declared.ahead.Ahead.{Ahead}

-- behind a number above this no further digit is taken: ten times it and a digit may be more than 64 bits hold
abbrev pub most_before : ℕ
most_before = 1_844_674_407_370_955_160

-- the digits that a text begins with, behind the number that was read so far
unfoldable pub digits_after : (so_far : ℕ) (text : List ℕ) → List ℕ
digits_after so_far [] = []
digits_after so_far (b ∷ text) =
    cond (is_digit b && leb so_far most_before) (b ∷ digits_after (10 * so_far + (b - zero_digit)) text) []

abbrev pub front_digits : (text : List ℕ) → List ℕ
front_digits text = digits_after 0 text

-- a number, and the place behind the bytes that it was read from
abbrev pub ahead : (n end : ℕ) → Option Ahead
ahead n end = Some (record { number = n; end = end })

abbrev pub ending_at : (end : ℕ) (typed : Option ℕ) → Option Ahead
ending_at end (Some n) = ahead n end
ending_at end None = None

-- the number of the digits from `at` on, if they are a numeral of the form that is asked for
unfoldable pub number_from : (digits most : ℕ) (text : List ℕ) (at : ℕ) → Option Ahead
number_from digits most text at =
    ending_at (at + length (front_digits (drop at text))) (number_in digits most (front_digits (drop at text)))

-- ---- a decimal numeral

-- behind a point the digits that follow it
abbrev pub point_and_digits : (text : List ℕ) → List ℕ
point_and_digits [] = []
point_and_digits (b ∷ text) = cond (eqb b point) (b ∷ front_digits text) []

unfoldable pub front_decimal : (text : List ℕ) → List ℕ
front_decimal text = front_digits text ++ point_and_digits (drop (length (front_digits text)) text)

-- the thousandths of these bytes from `at` on, if they are a decimal numeral
unfoldable pub decimal_from : (text : List ℕ) (at : ℕ) → Option Ahead
decimal_from text at = ending_at (at + length (front_decimal (drop at text))) (decimal_in (front_decimal (drop at text)))
