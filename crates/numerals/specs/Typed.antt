-- A number as it was typed: a numeral, or a decimal numeral. Assumes nothing.
use Rattle.std.specs.Prelude.{ℕ, ◌+◌, ◌-◌, ◌*◌, ◌^◌, Bool, true, cond, ◌&&◌, List, [], ◌∷◌, leb, eqb, length, take, drop, Option, Some, None}
use Rattle.little.specs.Read.{byte_at}
use Rattle.search.specs.Test.{every}
use Rattle.search.specs.First.{first}
use Rattle.numerals.specs.Numeral.{zero_digit, value_of, point, thousand}

abbrev pub nine_digit : ℕ
nine_digit = 57

abbrev pub is_digit : (byte : ℕ) → Bool
is_digit byte = leb zero_digit byte && leb byte nine_digit

unfoldable pub all_digits : List ℕ → Bool
all_digits [] = true
all_digits (b ∷ bytes) = is_digit b && all_digits bytes

-- 1 to so many digits, leading zeros among them, and a number of at most `most`; no sign, no space, nothing else
unfoldable pub is_numeral : (digits most : ℕ) (bytes : List ℕ) → Bool
is_numeral digits most bytes =
    every (leb 1 (length bytes) ∷ leb (length bytes) digits ∷ all_digits bytes ∷ leb (value_of 0 bytes) most ∷ [])

unfoldable pub number_in : (digits most : ℕ) (bytes : List ℕ) → Option ℕ
number_in digits most bytes = cond (is_numeral digits most bytes) (Some (value_of 0 bytes)) None

-- ---- a decimal numeral, in thousandths: 1 to 11 digits, with or without a point and 1 to 3 more

abbrev pub whole_digits : ℕ
whole_digits = 11

abbrev pub places : ℕ
places = 3

-- the largest numbers of so many digits
abbrev pub most_whole : ℕ
most_whole = 99_999_999_999

abbrev pub most_places : ℕ
most_places = 999

-- the point's place
abbrev pub is_point_at : (bytes : List ℕ) (i : ℕ) → Bool
is_point_at bytes i = eqb (byte_at bytes i) point

unfoldable pub point_in : (bytes : List ℕ) → Option ℕ
point_in bytes = first (length bytes) (is_point_at bytes)

abbrev pub whole_in : (bytes : List ℕ) → Option ℕ
whole_in bytes = number_in whole_digits most_whole bytes

-- of digits that are places, as many of them as stand there: one is tenths, two are hundredths
abbrev pub as_places : (size : ℕ) (digits : Option ℕ) → Option ℕ
as_places size (Some n) = Some (n * 10 ^ (places - size))
as_places size None = None

unfoldable pub places_in : (bytes : List ℕ) → Option ℕ
places_in bytes = as_places (length bytes) (number_in places most_places bytes)

abbrev pub joined : (whole part : Option ℕ) → Option ℕ
joined (Some n) (Some p) = Some (n * thousand + p)
joined (Some n) None = None
joined None part = None

abbrev pub by_point : (bytes : List ℕ) (place : Option ℕ) → Option ℕ
by_point bytes None = joined (whole_in bytes) (Some 0)
by_point bytes (Some i) = joined (whole_in (take i bytes)) (places_in (drop (i + 1) bytes))

-- the thousandths
unfoldable pub decimal_in : (bytes : List ℕ) → Option ℕ
decimal_in bytes = by_point bytes (point_in bytes)
