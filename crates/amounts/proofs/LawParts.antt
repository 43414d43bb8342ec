-- t parts, divided once by the parts of a unit and rounded to a binary64, are taken as t again: the quotient is off by at most half of what
-- its last digit counts, and that is less than a part. Assumes nothing.
use Rattle.std.proofs.Common.{◌≡◌, ℕ, zero, suc, ◌+◌, ◌-◌, ◌*◌, ◌/◌, ◌%◌, ◌^◌, ◌<◌, ◌≤◌, Bool, true, false, cond, not, T, ltb, ◌⊎◌, pos, Ok, refl, ap, ◌∙◌, inl, inr, le_trans, mul-le-mul_right, mod-lt, eq-zero-or-pos, lt_of_mul-lt-mul_right, mul-le-mul_left, mul-lt-mul_of_pos_right, mul-pos, div-add-mod', le-div_iff_mul-le, div-mul-le_self, arith, lit<, lit≤, eqb→eq, leb→le, pow_pos, pow-add}
use Prim.Native.Nat.{compare, Ordering}
use native.Mathlib.Nat.{lt-div-mul-add}
use lib.Dec.{is_le, compare_is_eq, nleb→lt}
use lib.Ieee.{Float, nan, inf, fin, binary64, prec, low, up, down, unlike, nearest, size, odd, units, round, div, of_int, of_bits, is_nan}
use lib.Ieee.Bits.{of_bits-to_bits, to_bits-lt}
use lib.Ieee.Digits.{size_reaches}
use lib.Ieee.Exact.{HasValue}
use lib.Ieee.Fits.{down_pos, div-fits, round_is}
use lib.Ieee.Nearest.{closest}
use lib.Ieee.Scale.{grid, overflow, round_val, round_same}
use lib.Ieee.Back.{round_whole}
use Rattle.amounts.specs.Reading.{parts_per_unit, limited, taken_of, of_parts, parts_bits}
use Rattle.amounts.proofs.LawReading.{by_value_lem, within_limit}

-- ---- whole numbers only

-- the closest whole number to a / b is off by at most a half
near_of : (a b q r : ℕ) (o : Ordering) → q * b + r ≡ a → r < b → (T (is_le o) → r * 2 ≤ b) → (T (not (is_le o)) → b < r * 2)
    → (T (compare_is_eq o) → r * 2 ≡ b) → (nearest q o * b * 2 ≤ a * 2 + b) × (a * 2 ≤ nearest q o * b * 2 + b)
near_of a b q r Ordering.lt w h l g e = let x = l tt in (omega arith, omega arith)
near_of a b q r Ordering.eq w h l g e =
    let x = e tt in
    let one : q % 2 ≤ 1 = omega arith in
    let y : q % 2 * b ≤ 1 * b = mul-le-mul_right b one in
    (omega arith, omega arith)
near_of a b q r Ordering.gt w h l g e = let x = g tt in (omega arith, omega arith)

near : (a b : ℕ) → 0 < b → (closest a b * b * 2 ≤ a * 2 + b) × (a * 2 ≤ closest a b * b * 2 + b)
near a b h =
    near_of a b (a / b) (a % b) (compare (a % b * 2) b) (div-add-mod' a b) (mod-lt a h) (leb→le (a % b * 2) b) (nleb→lt (a % b * 2) b)
    (eqb→eq (a % b * 2) b)

-- t / F, rounded to c times K / L, is t parts again where K / L is less than a part
module _ (F t c K L : ℕ) (low : c * (F * K) * 2 ≤ t * L * 2 + F * K) (fine : F * K < L) where
  again : 0 < L → t * L * 2 ≤ c * (F * K) * 2 + F * K → (2 * F * (c * K) / L + 1) / 2 ≡ t
  again p high = ends (2 * F * (c * K) / L) lower upper
    where
      ends : (y : ℕ) → 2 * t < y + 2 → y < 2 * t + 1 → (y + 1) / 2 ≡ t
      ends y f g = omega arith

      lower : 2 * t < 2 * F * (c * K) / L + 2
      lower = lt_of_mul-lt-mul_right L (omega (arith, lt-div-mul-add {a = 2 * F * (c * K)} p))

      upper : 2 * F * (c * K) / L < 2 * t + 1
      upper = lt_of_mul-lt-mul_right L (omega (arith, div-mul-le_self (2 * F * (c * K)) L))

  -- and no infinity, for a bound B above t
  small : (B : ℕ) → 0 < F → (2 * t + 1) * L ≤ B → c * K < B
  small B p b = omega (arith, mul-le-mul_left (c * K) p)

-- 2 ^ (z - 53) is what the last digit of t / F counts, where 2 ^ l make one and z digits are before the last of these
fine_enough : (F l t z : ℕ) → 0 < F → F < 2 ^ l → t < 2 ^ 52 → ((j : ℕ) → j < z → 2 ^ j ≤ t * 2 ^ l / F) → F * 2 ^ (z - 53) < 2 ^ l
fine_enough F l t z some h few reaches = go (z - 53) refl (eq-zero-or-pos (z - 53))
  where
    go : (k : ℕ) → z - 53 ≡ k → (k ≡ 0) ⊎ (0 < k) → F * 2 ^ k < 2 ^ l
    go k e (inl p) = rw p (omega arith)
    go k e (inr p) =
        let a : 2 ^ (k + 52) * F ≤ t * 2 ^ l = (le-div_iff_mul-le some).0 (reaches (k + 52) (omega arith)) in
        let b : t * 2 ^ l < 2 ^ 52 * 2 ^ l = mul-lt-mul_of_pos_right few (pow_pos l) in
        let c : 2 ^ (k + 52) * F ≡ 2 ^ k * 2 ^ 52 * F = ap (λ (y : ℕ). y * F) (pow-add 2 k 52) in
        lt_of_mul-lt-mul_right (2 ^ 52) (omega arith)

-- ---- a quotient by the parts of a unit

abbrev unit : Float
unit = fin false 125 (pos 3)

unit_whole : of_int binary64 (pos parts_per_unit) ≡ unit
unfolding of_int round
unit_whole = refl

unit_bits : of_bits binary64 0x408f_4000_0000_0000 ≡ unit
unfolding of_bits
unit_bits = refl

-- as the code has it
pub by_unit : (t : ℕ) → of_parts t ≡ div binary64 (of_int binary64 (pos t)) (of_bits binary64 0x408f_4000_0000_0000)
unfolding of_parts
by_unit t = rw (unit_whole, unit_bits)

-- ... which is never a NaN
odd_number : (d : ℕ) (s : Bool) (q k l : ℕ) → T (not (is_nan (odd d s q k l)))
unfolding odd is_nan
odd_number d s zero k l = tt
odd_number d s (suc q) k l = tt

units_number : (s : Bool) (q k : ℕ) → T (not (is_nan (units binary64 s q k)))
unfolding units is_nan
units_number s q k = go (ltb (q * 2 ^ k) (overflow binary64))
  where
    go : (b : Bool) → T (not (is_nan (cond b (odd (suc (prec binary64)) s q k (low binary64)) (inf s))))
    go true = odd_number (suc (prec binary64)) s q k (low binary64)
    go false = tt

round_number : (s : Bool) (a b : ℕ) → T (not (is_nan (round binary64 s a b)))
round_number s a b =
    let n = a * 2 ^ low binary64 in
    let k = size (n / b) - prec binary64 in
    rw (round_is binary64 s a b) (units_number s (closest n (b * 2 ^ k)) k)

by_unit_number : (x : Float) → T (not (is_nan x)) → T (not (is_nan (div binary64 x unit)))
unfolding div is_nan
by_unit_number nan h = absurd h
by_unit_number (inf s) h = tt
by_unit_number (fin s m e) h = round_number (unlike s false) (m * up e * 1) (125 * 2 ^ 3 * down e)

pub parts_number : (t : ℕ) → T (not (is_nan (of_parts t)))
unfolding of_parts of_int
parts_number t = rw unit_whole (by_unit_number (of_int binary64 (pos t)) (round_number false t 1))

over_unit : (x : Float) (t : ℕ) → HasValue x false t 1 → div binary64 x unit ≡ round binary64 false t parts_per_unit
unfolding div
over_unit nan t v = absurd v
over_unit (inf s) t v = absurd v
over_unit (fin s m e) t v =
    ap (λ (b : Bool). round binary64 (unlike b false) (m * up e * 1) (parts_per_unit * down e)) v.0
    ∙ round_same binary64 false (m * up e * 1) (parts_per_unit * down e) t parts_per_unit (mul-pos (lit< tt) (down_pos e)) (lit< tt)
    (omega (arith, v.1))

whole_float : (t : ℕ) → t ≤ 2 ^ 53 → HasValue (of_int binary64 (pos t)) false t 1
unfolding of_int
whole_float t h = round_whole binary64 false t h

-- ---- taken again

rounded_back : (most t : ℕ) → t < 2 ^ 52 → t ≤ parts_per_unit * most → taken_of parts_per_unit most (round binary64 false t parts_per_unit) ≡ Ok t
rounded_back most t few h =
    let n = t * 2 ^ 1074 in
    let k = size (n / parts_per_unit) - 53 in
    let c = closest n (parts_per_unit * 2 ^ k) in
    let N = near n (parts_per_unit * 2 ^ k) (mul-pos (lit< tt) (pow_pos k)) in
    let F = fine_enough parts_per_unit 1074 t (size (n / parts_per_unit)) (lit< tt) (lit< tt) few (size_reaches (n / parts_per_unit)) in
    let top : (2 * t + 1) * 2 ^ 1074 ≤ overflow binary64 = le_trans (mul-le-mul_right (2 ^ 1074) (below t few)) (lit≤ tt) in
    let finite = small parts_per_unit t c (2 ^ k) (2 ^ 1074) N.0 F (overflow binary64) (lit< tt) top in
    by_value_lem parts_per_unit most (round binary64 false t parts_per_unit) false (grid binary64 t parts_per_unit) (2 ^ 1074) (pow_pos 1074)
    (round_val binary64 t parts_per_unit finite)
    ∙ ap (limited (parts_per_unit * most)) (again parts_per_unit t c (2 ^ k) (2 ^ 1074) N.0 F (pow_pos 1074) N.1)
    ∙ within_limit (parts_per_unit * most) t h
  where
    below : (t : ℕ) → t < 2 ^ 52 → 2 * t + 1 ≤ 2 ^ 53
    below t h = omega arith

pub parts_back : (most t : ℕ) → most < 2 ^ 32 → t ≤ parts_per_unit * most → taken_of parts_per_unit most (of_bits binary64 (parts_bits t)) ≡ Ok t
unfolding parts_bits of_parts
parts_back most t h l =
    let few : t < 2 ^ 52 = omega arith in
    ap (taken_of parts_per_unit most) (of_bits-to_bits binary64 (of_parts t) (div-fits binary64 _ _))
    ∙ rw (unit_whole, over_unit (of_int binary64 (pos t)) t (whole_float t (omega arith))) (rounded_back most t few l)

pub parts_fit : (t : ℕ) → parts_bits t < 2 ^ 64
unfolding parts_bits of_parts
parts_fit t = to_bits-lt binary64 (of_parts t) (div-fits binary64 _ _)
