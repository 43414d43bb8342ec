-- What is taken and what is not at the edges of both forms of a numeral, as computed tests over lists of texts. Assumes nothing.
use Rattle.std.specs.Prelude.{Option, Some, None}
use Prim.Native.Nat.{ℕ, ◌+◌, ◌-◌}
use mathlib.Core.Path.{◌≡◌, refl}
use mathlib.Core.Bool.{Bool, true, false}
use mathlib.Core.List.{List, [], ◌∷◌, ◌++◌}
use lib.Dec.{eqb}
use lib.ListN.{replicate}
use Rattle.search.specs.Test.{every}
use Rattle.search.specs.First.{first}
use Rattle.numerals.specs.Numeral.{zero_digit, significant, numeral, value_of, point}
use Rattle.numerals.specs.Typed.{nine_digit, all_digits, is_numeral, number_in, point_in, places_in, decimal_in}

abbrev is : ℕ → Option ℕ → Bool
is n (Some m) = eqb m n
is n None = false

abbrev none : List (Option ℕ) → Bool
none [] = true
none (Some n ∷ rest) = false
none (None ∷ rest) = none rest

abbrev zeros : ℕ → List ℕ
zeros n = replicate n zero_digit

abbrev nines : ℕ → List ℕ
nines n = replicate n nine_digit

-- ---- numerals of at most 20 digits

abbrev typed : (most : ℕ) (bytes : List ℕ) → Option ℕ
typed most bytes = number_in 20 most bytes

numbers_taken : every
    (is 0 (typed 3 (zeros 1))
    ∷ is 7 (typed 255 (zeros 19 ++ numeral 7))
    ∷ is 65_535 (typed 65_535 (numeral 65_535))
    ∷ is 18_446_744_073_709_551_615 (typed 18_446_744_073_709_551_615 (numeral 18_446_744_073_709_551_615))
    ∷ []) ≡ true
unfolding number_in is_numeral every all_digits numeral significant value_of
numbers_taken = refl

-- nothing; 21 digits; one above the limit of a byte, of 16, of 64 bits; a space behind it; a sign; the bytes next to the digits
numbers_malformed : none
    (typed 3 []
    ∷ typed 255 (zeros 21)
    ∷ typed 255 (numeral 256)
    ∷ typed 65_535 (numeral 65_536)
    ∷ typed 18_446_744_073_709_551_615 (numeral 18_446_744_073_709_551_616)
    ∷ typed 255 (numeral 7 ++ (32 ∷ []))
    ∷ typed 255 (43 ∷ numeral 7)
    ∷ typed 255 ((zero_digit - 1) ∷ [])
    ∷ typed 255 ((nine_digit + 1) ∷ [])
    ∷ []) ≡ true
unfolding number_in is_numeral every all_digits numeral significant value_of
numbers_malformed = refl

-- ---- decimal numerals

decimals_taken : every
    (is 0 (decimal_in (zeros 1))
    ∷ is 7_920_000 (decimal_in (numeral 7920))
    ∷ is 63 (decimal_in (zeros 1 ++ (point ∷ zeros 1 ++ numeral 63)))
    ∷ is 7_900 (decimal_in (zeros 10 ++ numeral 7 ++ (point ∷ nines 1)))
    ∷ is 7_990 (decimal_in (numeral 7 ++ (point ∷ nines 2)))
    ∷ is 99_999_999_999_999 (decimal_in (nines 11 ++ (point ∷ nines 3)))
    ∷ []) ≡ true
unfolding decimal_in point_in first places_in number_in is_numeral every all_digits numeral significant value_of
decimals_taken = refl

-- nothing; 12 digits; a point with nothing before or behind it; 4 places; two points; a comma for the point
decimals_malformed : none
    (decimal_in []
    ∷ decimal_in (zeros 12)
    ∷ decimal_in (zeros 12 ++ (point ∷ zeros 1))
    ∷ decimal_in (point ∷ [])
    ∷ decimal_in (point ∷ zeros 1)
    ∷ decimal_in (zeros 1 ++ (point ∷ []))
    ∷ decimal_in (zeros 1 ++ (point ∷ zeros 4))
    ∷ decimal_in (zeros 1 ++ (point ∷ zeros 1 ++ (point ∷ zeros 1)))
    ∷ decimal_in (zeros 1 ++ (44 ∷ zeros 1))
    ∷ []) ≡ true
unfolding decimal_in point_in first places_in number_in is_numeral every all_digits numeral significant value_of
decimals_malformed = refl
