-- A number's decimal numeral, in ASCII. Assumes nothing.
use Rattle.std.specs.Prelude.{ℕ, zero, suc, ◌+◌, ◌-◌, ◌*◌, ◌/◌, ◌%◌, cond, List, [], ◌∷◌, ◌++◌, eqb}

-- a u64 has at most these digits
abbrev pub most_digits : ℕ
most_digits = 20

-- the digit 0; the others follow it in order
abbrev pub zero_digit : ℕ
zero_digit = 48

-- the last digit of n
abbrev pub digit : (n : ℕ) → ℕ
digit n = zero_digit + n % 10

-- the digits of n, the most significant first and no leading zeros: none for 0; at most so many of the last
unfoldable pub significant : (most n : ℕ) → List ℕ
significant zero n = []
significant (suc most) n = cond (eqb n 0) [] (significant most (n / 10) ++ (digit n ∷ []))

-- 0 is written `0`, and any other number by its digits
unfoldable pub numeral : (n : ℕ) → List ℕ
numeral n = cond (eqb n 0) (zero_digit ∷ []) (significant most_digits n)

-- the number that digits are read as, behind what was read so far
unfoldable pub value_of : (so_far : ℕ) (digits : List ℕ) → ℕ
value_of so_far [] = so_far
value_of so_far (d ∷ digits) = value_of (10 * so_far + (d - zero_digit)) digits

-- ---- a decimal numeral, in thousandths

abbrev pub point : ℕ
point = 46

abbrev pub thousand : ℕ
thousand = 1000

-- t thousandths with all three places: the whole part with no leading zeros, a point, and three digits
unfoldable pub decimal_numeral : (t : ℕ) → List ℕ
decimal_numeral t = numeral (t / thousand) ++ (point ∷ digit (t / 100) ∷ digit (t / 10) ∷ digit t ∷ [])

-- its bytes, at most
abbrev pub most_decimal : ℕ
most_decimal = most_digits + 4
