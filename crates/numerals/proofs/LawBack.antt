-- What is written: its bytes, its length, its first digit, and that it is read again, a numeral as its number, a decimal numeral as its
-- thousandths. Assumes nothing.
use Rattle.std.specs.Prelude.{Some, None}
use Prim.Native.Nat.{ℕ, zero, suc, ◌+◌, ◌*◌, ◌/◌, ◌%◌, ◌^◌, ◌≤◌, ◌<◌}
use mathlib.Core.Path.{◌≡◌, refl, sym, ap, ◌∙◌}
use mathlib.Core.Bool.{true, false}
use mathlib.Core.List.{List, [], ◌∷◌, ◌++◌, append-nil}
use native.Mathlib.Nat.{pow-suc, mul-one, le_trans}
use native.Mathlib.Omega.{arith}
use lib.Dec.{eqb, lit≤}
use lib.ListN.{length, get_or, length-append, get_or-append}
use lib.Seq.{take_at, drop-append-add, get_or-append_seam}
use borrow.Author.Tests.{le-leb, eq-eqb, ne_eqb, eqb-true, eqb-false}
use Rattle.little.specs.Read.{byte_at}
use Rattle.search.specs.Test.{every}
use Rattle.search.proofs.LawTest.{either_way, and_left, and_right}
use Rattle.search.proofs.LawFirst.{first_start, first_rest, first_here}
use Rattle.search.specs.First.{first}
use Rattle.numerals.specs.Numeral.{most_digits, zero_digit, digit, significant, numeral, value_of, point, thousand, decimal_numeral}
use Rattle.numerals.specs.Typed.{nine_digit, is_digit, all_digits, is_numeral, number_in, places, whole_digits, most_whole, most_places, is_point_at, point_in, whole_in, places_in, decimal_in}
use Rattle.numerals.specs.Inner.{all_decimal}
use Rattle.numerals.proofs.LawNumeral.{significant_few}
use Rattle.numerals.proofs.LawValue.{numeral_value}
use Rattle.numerals.proofs.LawTyped.{digit_low}
use Rattle.numerals.proofs.LawDecimal.{places_scaled, decimal_parts}

-- ---- its bytes

digit_is : (n : ℕ) → is_digit (digit n) ≡ true
digit_is n = rw (le-leb zero_digit (digit n) (omega arith), le-leb (digit n) nine_digit (omega arith))

all_joined : (a b : List ℕ) → all_digits a ≡ true → all_digits b ≡ true → all_digits (a ++ b) ≡ true
unfolding all_digits
all_joined [] b p q = q
all_joined (x ∷ a) b p q = rw (and_left (is_digit x) (all_digits a) p) (all_joined a b (and_right (is_digit x) (all_digits a) p) q)

significant_digits : (most n : ℕ) → all_digits (significant most n) ≡ true
unfolding significant all_digits
significant_digits zero n = refl
significant_digits (suc most) n =
    either_way (eqb n 0) (λ e. rw e)
    (λ e. rw e (all_joined (significant most (n / 10)) (digit n ∷ []) (significant_digits most (n / 10)) (rw (digit_is n))))

numeral_digits : (n : ℕ) → all_digits (numeral n) ≡ true
unfolding numeral all_digits
numeral_digits n = either_way (eqb n 0) (λ e. rw e) (λ e. rw e (significant_digits most_digits n))

pub digits_decimal : (bytes rest : List ℕ) → all_digits bytes ≡ true → all_decimal rest ≡ true → all_decimal (bytes ++ rest) ≡ true
unfolding all_digits all_decimal
digits_decimal [] rest p q = q
digits_decimal (b ∷ bytes) rest p q =
    rw (and_left (is_digit b) (all_digits bytes) p) (digits_decimal bytes rest (and_right (is_digit b) (all_digits bytes) p) q)

pub numeral_bytes : (n : ℕ) → all_decimal (numeral n) ≡ true
unfolding all_decimal
numeral_bytes n = rw append-nil at (digits_decimal (numeral n) [] (numeral_digits n) refl)

pub decimal_bytes : (t : ℕ) → all_decimal (decimal_numeral t) ≡ true
unfolding decimal_numeral all_decimal
decimal_bytes t =
    digits_decimal (numeral (t / thousand)) _ (numeral_digits (t / thousand)) (rw (digit_is (t / 100), digit_is (t / 10), digit_is t))

-- ---- its length

significant_short : (most digits n : ℕ) → n < 10 ^ digits → length (significant most n) ≤ digits
unfolding significant
significant_short zero digits n h = omega arith
significant_short (suc most) zero n h = let none : n ≡ 0 = omega arith in rw (eq-eqb n 0 none) (omega arith)
significant_short (suc most) (suc digits) n h =
    either_way (eqb n 0) (λ e. rw e (omega arith))
    (λ e.
    let all : n < 10 ^ digits * 10 = rw pow-suc at h in
    let few : n / 10 < 10 ^ digits = omega arith in
    rw (e, length-append) (omega (arith, significant_short most digits (n / 10) few)))

significant_some : (most n : ℕ) → eqb n 0 ≡ false → 1 ≤ length (significant (suc most) n)
unfolding significant
significant_some most n e = rw (e, length-append) (omega arith)

numeral_some : (n : ℕ) → 1 ≤ length (numeral n)
unfolding numeral
numeral_some n = either_way (eqb n 0) (λ e. rw e (omega arith)) (λ e. rw e (significant_some 19 n e))

numeral_short : (digits n : ℕ) → n < 10 ^ digits → 1 ≤ digits → length (numeral n) ≤ digits
unfolding numeral
numeral_short digits n h some = either_way (eqb n 0) (λ e. rw e some) (λ e. rw e (significant_short most_digits digits n h))

pub numeral_few : (n : ℕ) → length (numeral n) ≤ most_digits
unfolding numeral
numeral_few n = either_way (eqb n 0) (λ e. rw e (lit≤ tt)) (λ e. rw e (significant_few most_digits n))

-- ---- its first digit: a zero leads only 0

significant_zero : (most : ℕ) → significant most 0 ≡ []
unfolding significant
significant_zero zero = refl
significant_zero (suc most) = refl

-- of two digits or more the first is not the last
first_of : (most n : ℕ) → n < 10 ^ most → eqb n 0 ≡ false → (d : ℕ) → byte_at (significant most n ++ (d ∷ [])) 0 ≡ byte_at (significant most n) 0
first_of zero n h z d = absurd (eqb-false n 0 z (omega arith))
first_of (suc most) n h z d = get_or-append (significant (suc most) n) (d ∷ []) 0 0 (significant_some most n z)

significant_leads : (most n : ℕ) → n < 10 ^ most → byte_at (significant most n) 0 ≡ zero_digit → n ≡ 0
unfolding significant
significant_leads zero n h e = omega arith
significant_leads (suc most) n h e =
    let all : n < 10 ^ most * 10 = rw pow-suc at h in
    let few : n / 10 < 10 ^ most = omega arith in
    either_way (eqb n 0) (λ z. eqb-true n 0 z)
    (λ z.
    let leads : byte_at (significant most (n / 10) ++ (digit n ∷ [])) 0 ≡ zero_digit = rw z at e in
    either_way (eqb (n / 10) 0)
    (λ one.
    let nought : n / 10 ≡ 0 = eqb-true (n / 10) 0 one in
    let alone : digit n ≡ zero_digit = rw (nought, significant_zero most) at leads in
    omega arith)
    (λ many. absurd (eqb-false (n / 10) 0 many (significant_leads most (n / 10) few (sym (first_of most (n / 10) few many (digit n)) ∙ leads)))))

pub numeral_leads : (n : ℕ) → n < 10 ^ most_digits → byte_at (numeral n) 0 ≡ zero_digit → n ≡ 0
unfolding numeral
numeral_leads n h e =
    either_way (eqb n 0) (λ z. eqb-true n 0 z) (λ z. significant_leads most_digits n h (rw z at e))

-- ---- its number

short_back : (digits most n : ℕ) → n ≤ most → n < 10 ^ most_digits → length (numeral n) ≤ digits → number_in digits most (numeral n) ≡ Some n
unfolding number_in is_numeral every
short_back digits most n within fits few =
    rw (numeral_value n fits, le-leb 1 (length (numeral n)) (numeral_some n), le-leb (length (numeral n)) digits few, numeral_digits n, le-leb n most within)

pub number_back : (digits most n : ℕ) → n ≤ most → n < 10 ^ most_digits → most_digits ≤ digits → number_in digits most (numeral n) ≡ Some n
number_back digits most n within fits room = short_back digits most n within fits (le_trans (numeral_few n) room)

-- ---- a decimal numeral's thousandths

digits_at : (bytes : List ℕ) (i : ℕ) → all_digits bytes ≡ true → i < length bytes → is_digit (get_or bytes i 0) ≡ true
unfolding all_digits
digits_at [] i h l = absurd (omega arith)
digits_at (b ∷ bytes) zero h l = and_left (is_digit b) (all_digits bytes) h
digits_at (b ∷ bytes) (suc i) h l = digits_at bytes i (and_right (is_digit b) (all_digits bytes) h) (omega arith)

digit_no_point : (bytes : List ℕ) (i : ℕ) → all_digits bytes ≡ true → i < length bytes → is_point_at bytes i ≡ false
digit_no_point bytes i h l = ne_eqb (get_or bytes i 0) point (λ e. omega (arith, digit_low (get_or bytes i 0) (digits_at bytes i h l)))

pub no_point : (bytes : List ℕ) → all_digits bytes ≡ true → point_in bytes ≡ None
unfolding point_in
no_point bytes h =
    first_rest (is_point_at bytes) 0 (length bytes) (first_start (is_point_at bytes)) (omega arith) (λ i a b. digit_no_point bytes i h b)

-- the point is the first byte that is no digit
pub point_at : (whole rest : List ℕ) → all_digits whole ≡ true → point_in (whole ++ (point ∷ rest)) ≡ Some (length whole)
unfolding point_in
point_at whole rest h =
    sym (first_here (is_point_at bytes) (length whole) (length bytes) none (eq-eqb _ _ (get_or-append_seam whole point rest 0)) within)
  where
    bytes : List ℕ
    bytes = whole ++ (point ∷ rest)

    before : (i : ℕ) → i < length whole → is_point_at bytes i ≡ false
    before i l = rw (get_or-append whole (point ∷ rest) 0 i l) (digit_no_point whole i h l)

    none : first (length whole) (is_point_at bytes) ≡ None
    none = first_rest (is_point_at bytes) 0 (length whole) (first_start (is_point_at bytes)) (omega arith) (λ i a b. before i b)

    within : length whole < length bytes
    within = omega (arith, length-append whole (point ∷ rest))

abbrev three_digits : (t : ℕ) → List ℕ
three_digits t = digit (t / 100) ∷ digit (t / 10) ∷ digit t ∷ []

three_value : (t : ℕ) → value_of 0 (three_digits t) ≡ t % thousand
unfolding value_of
three_value t =
    let tenths : t / 100 ≡ t / 10 / 10 = omega arith in
    let whole : t / thousand ≡ t / 10 / 10 / 10 = omega arith in
    let rest : t % thousand + thousand * (t / thousand) ≡ t = omega arith in
    omega arith

three_number : (t : ℕ) → number_in places most_places (three_digits t) ≡ Some (t % thousand)
unfolding number_in is_numeral every all_digits
three_number t = rw (three_value t, digit_is (t / 100), digit_is (t / 10), digit_is t, le-leb (t % thousand) most_places (omega arith))

three_places : (t : ℕ) → places_in (three_digits t) ≡ Some (t % thousand)
three_places t = places_scaled (three_digits t) (t % thousand) (three_number t) 3 1 refl refl ∙ ap Some (mul-one (t % thousand))

pub decimal_back : (t : ℕ) → t < 10 ^ 14 → decimal_in (decimal_numeral t) ≡ Some t
unfolding decimal_numeral
decimal_back t h =
    let whole = numeral (t / thousand) in
    let point-here = point_at whole (three_digits t) (numeral_digits (t / thousand)) in
    let few = numeral_short whole_digits (t / thousand) (omega arith) (omega arith) in
    let before : whole_in whole ≡ Some (t / thousand) = short_back whole_digits most_whole (t / thousand) (omega arith) (omega arith) few in
    let sum : t / thousand * thousand + t % thousand ≡ t = omega arith in
    decimal_parts (decimal_numeral t) (length whole) point-here
    ∙ rw (take_at whole (point ∷ three_digits t) (length whole) refl, drop-append-add whole (point ∷ three_digits t) 1, before, three_places t, sum)

pub zero_decimal : decimal_in (numeral 0) ≡ Some 0
unfolding numeral decimal_in point_in first number_in is_numeral every all_digits value_of
zero_decimal = refl
