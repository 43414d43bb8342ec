-- The parts of a binary64, in three steps. A float of the size a / c has half of one more than the whole part of its half parts, 2 F a / c.
-- A pattern's size is its digits times a power of two, over 2^1074. As 2 F is odd · 2^shift, the half parts are odd · digits, shifted.
-- Assumes nothing.
use Rattle.std.proofs.Common.{◌≡◌, ℕ, zero, suc, ◌+◌, ◌-◌, ◌*◌, ◌/◌, ◌%◌, ◌^◌, ◌<◌, ◌≤◌, Bool, true, false, cond, not, ◌&&◌, T, eqb, ltb, leb, ◌⊎◌, ℤ, Result, Ok, Err, sym, refl, ap, ◌∙◌, subst, ap₂, inl, inr, le_trans, lt_of_lt_of_le, lt_of_le_of_lt, mul-le-mul_right, mod-eq_of_lt, eq-zero-or-pos, mul-le-mul_left, mul-pos, le-div_iff_mul-le, div-mul-le_self, arith, pow_pos, pow_mono, pow-add, lt-ltb, ne_eqb, eqb-true, le-leb, leb-true}
use native.Mathlib.Nat.{mul-div-mul_right, div-eq_of_lt}
use native.Mathlib.Nat.{add-div_right, div-div-eq-div-mul, lt-div-mul-add}
use native.Mathlib.Nat.{mul-lt-mul_of_pos_left}
use lib.Ieee.{Float, nan, inf, fin, binary64, up, down, ne, is_nan, odd, of_fields, of_bits}
use lib.Ieee.Compare.{differs_from_itself}
use lib.Ieee.Exact.{HasValue, odd_sign}
use lib.Ieee.Fits.{up_pos, down_pos}
use borrow.Author.Tests.{lt-leb, eqb-false}
use Rattle.amounts.specs.declared.reading.ReadingFault.{ReadingFault}
use Rattle.amounts.specs.declared.reading.ReadingFault.TheVariants.{Over, Bad}
use Rattle.amounts.specs.Inner.{Split}
use Rattle.amounts.specs.Reading.{nearest_parts, Nearest, limited, taken_of}
use Rattle.amounts.proofs.LawPattern.{sign_bit, first_digit, full_field, ones_field, by_fields}

-- ---- whole numbers only

-- the same fraction by two numerators and denominators has the same nearest number of parts
same_nearest : (F m u w a c : ℕ) → 0 < c → 0 < w → m * u * c ≡ a * w → (2 * F * m * u + w) / (2 * w) ≡ (2 * F * a + c) / (2 * c)
same_nearest F m u w a c hc hw e =
    let num : (2 * F * m * u + w) * c ≡ (2 * F * a + c) * w = omega (arith, ap (λ (y : ℕ). F * y) e) in
    let den : 2 * w * c ≡ 2 * c * w = omega arith in
    sym (mul-div-mul_right (2 * F * m * u + w) (2 * w) hc)
    ∙ ap₂ (λ (x y : ℕ). x / y) num den
    ∙ mul-div-mul_right (2 * F * a + c) (2 * c) hw

-- rounding to the nearest is halving the half parts
halves : (X c : ℕ) → 0 < c → (X + c) / (2 * c) ≡ (X / c + 1) / 2
halves X c h =
    ap (λ (y : ℕ). (X + c) / y) (omega arith) ∙ sym (div-div-eq-div-mul (X + c) c 2) ∙ ap (λ (y : ℕ). y / 2) (add-div_right X h)

-- q · 2^k of the units of which 2^l make one, o · 2^s half parts to one: a shift to the right
shifted : (o q S K H L : ℕ) → 0 < K * S → L ≡ H * (K * S) → o * S * (q * K) / L ≡ o * q / H
shifted o q S K H L p e =
    let num : o * S * (q * K) ≡ o * q * (K * S) = omega arith in
    ap₂ (λ (x y : ℕ). x / y) num e ∙ mul-div-mul_right (o * q) H p

half_parts : (o s q k h l : ℕ) → l ≡ h + (k + s) → o * 2 ^ s * (q * 2 ^ k) / 2 ^ l ≡ o * q / 2 ^ h
half_parts o s q k h l e =
    let apart : 2 ^ l ≡ 2 ^ h * (2 ^ k * 2 ^ s) = rw (e, pow-add 2 h (k + s), pow-add 2 k s) in
    shifted o q (2 ^ s) (2 ^ k) (2 ^ h) (2 ^ l) (mul-pos (pow_pos k) (pow_pos s)) apart

no_half_parts : (o s q k h l : ℕ) → l ≡ h + (k + s) → o * q < 2 ^ h → o * 2 ^ s * (q * 2 ^ k) / 2 ^ l ≡ 0
no_half_parts o s q k h l e p = half_parts o s q k h l e ∙ div-eq_of_lt p

-- ... and a shift to the left leaves at least o · q
at_least : (o q S K L : ℕ) → 0 < L → L ≤ K * S → o * q ≤ o * S * (q * K) / L
at_least o q S K L p h = (le-div_iff_mul-le p).1 (omega (arith, mul-le-mul_left (o * q) h))

many_half_parts : (o s q k l : ℕ) → l ≤ k + s → o * q ≤ o * 2 ^ s * (q * 2 ^ k) / 2 ^ l
many_half_parts o s q k l h = at_least o q (2 ^ s) (2 ^ k) (2 ^ l) (pow_pos l) (rw (← (pow-add 2 k s)) (pow_mono h))

-- ---- floats

positive_too : (m u w a c : ℕ) → 0 < u → 0 < w → 0 < c → m * u * c ≡ a * w → ltb 0 m ≡ ltb 0 a
positive_too m u w a c hu hw hc e = go (eq-zero-or-pos m) (eq-zero-or-pos a)
  where
    go : (m ≡ 0) ⊎ (0 < m) → (a ≡ 0) ⊎ (0 < a) → ltb 0 m ≡ ltb 0 a
    go (inl p) (inl q) = rw (p, q)
    go (inl p) (inr q) =
        let z : 0 < a * w = mul-pos q hw in
        let y : m * u * c ≡ 0 = rw p (omega arith) in
        absurd (omega arith)
    go (inr p) (inl q) =
        let z : 0 < m * u * c = mul-pos (mul-pos p hu) hc in
        let y : a * w ≡ 0 = rw q (omega arith) in
        absurd (omega arith)
    go (inr p) (inr q) = lt-ltb 0 m p ∙ sym (lt-ltb 0 a q)

pub within_limit : (limit t : ℕ) → t ≤ limit → limited limit t ≡ Ok t
within_limit limit t h = ap (λ (b : Bool). cond b (Ok t) (Err Over)) (le-leb t limit h)

pub over_limit : (limit t : ℕ) → limit < t → limited limit t ≡ Err Over
over_limit limit t h = ap (λ (b : Bool). cond b (Ok t) (Err Over)) (lt-leb t limit h)

-- the answer for y half parts, and for a float that is a / c in size, with the sign s
abbrev pub by_halves : (F most y : ℕ) → Result ℕ ReadingFault
by_halves F most y = limited (F * most) ((y + 1) / 2)

abbrev pub by_value : (F most : ℕ) (s : Bool) (a c : ℕ) → Result ℕ ReadingFault
by_value F most s a c = cond (s && ltb 0 a) (Err Bad) (by_halves F most (2 * F * a / c))

pub by_value_lem : (F most : ℕ) (x : Float) (s : Bool) (a c : ℕ) → 0 < c → HasValue x s a c → taken_of F most x ≡ by_value F most s a c
unfolding taken_of
by_value_lem F most nan s a c h v = absurd v
by_value_lem F most (inf t) s a c h v = absurd v
by_value_lem F most (fin t m e) s a c h v =
    let positive : ltb 0 m ≡ ltb 0 a = positive_too m (up e) (down e) a c (up_pos e) (down_pos e) h v.1 in
    let nearest = same_nearest F m (up e) (down e) a c h (down_pos e) v.1 ∙ halves (2 * F * a) c h in
    ap₂ (λ (x y : Bool). cond (x && y) (Err Bad) (limited (F * most) (nearest_parts F m e))) v.0 positive
    ∙ ap (λ (t : ℕ). cond (s && ltb 0 a) (Err Bad) (limited (F * most) t)) nearest

-- ---- patterns

module _ (F most : ℕ) where
  normal : (s : Bool) (k T : ℕ) → (suc k ≡ full_field → ⊥)
      → taken_of F most (of_fields binary64 s (suc k) T) ≡ by_value F most s ((first_digit + T) * 2 ^ k) (2 ^ 1074)
  unfolding of_fields
  normal s k T h =
      let q = first_digit + T in
      rw (ne_eqb (suc k) full_field h) (by_value_lem F most (odd 53 s q k 1074) s (q * 2 ^ k) (2 ^ 1074) (pow_pos 1074) (odd_sign 53 s q k 1074))

  subnormal : (s : Bool) (T : ℕ) → taken_of F most (of_fields binary64 s 0 T) ≡ by_value F most s (T * 2 ^ 0) (2 ^ 1074)
  unfolding of_fields
  subnormal s T = by_value_lem F most (odd 53 s T 0 1074) s (T * 2 ^ 0) (2 ^ 1074) (pow_pos 1074) (odd_sign 53 s T 0 1074)

  no_number : (s : Bool) (E T : ℕ) → E ≡ full_field → taken_of F most (of_fields binary64 s E T) ≡ Err Bad
  unfolding of_fields taken_of
  no_number s E T h = rw h (go (eqb T 0))
    where
      go : (t : Bool) → taken_of F most (cond t (inf s) nan) ≡ Err Bad
      go true = refl
      go false = refl

  below_zero : (a c : ℕ) → 0 < a → by_value F most true a c ≡ Err Bad
  below_zero a c h = ap (λ (t : Bool). cond t (Err Bad) (by_halves F most (2 * F * a / c))) (lt-ltb 0 a h)

  negative_fields : (E T : ℕ) → 0 < E + T → taken_of F most (of_fields binary64 true E T) ≡ Err Bad
  negative_fields zero T h = subnormal true T ∙ below_zero (T * 2 ^ 0) (2 ^ 1074) (mul-pos (omega arith) (pow_pos 0))
  negative_fields (suc k) T h = go (eqb (suc k) full_field) refl
    where
      go : (t : Bool) → eqb (suc k) full_field ≡ t → taken_of F most (of_fields binary64 true (suc k) T) ≡ Err Bad
      go true e = no_number true (suc k) T (eqb-true (suc k) full_field e)
      go false e =
          normal true k T (eqb-false (suc k) full_field e)
          ∙ below_zero ((first_digit + T) * 2 ^ k) (2 ^ 1074) (mul-pos (omega arith) (pow_pos k))

  pub negative : (b : ℕ) → sign_bit < b → b < 2 ^ 64 → taken_of F most (of_bits binary64 b) ≡ Err Bad
  negative b h k =
      let E = b % sign_bit / first_digit in
      let T = b % first_digit in
      let signed : leb sign_bit b ≡ true = le-leb sign_bit b (omega arith) in
      ap (taken_of F most) (by_fields b)
      ∙ ap (λ (s : Bool). taken_of F most (of_fields binary64 s E T)) signed
      ∙ negative_fields E T (omega arith)

  nothing_at_all : by_halves F most 0 ≡ Ok 0
  nothing_at_all = within_limit (F * most) 0 (omega arith)

  pub minus_zero : taken_of F most (of_bits binary64 sign_bit) ≡ Ok 0
  minus_zero =
      let nought : 2 * F * 0 ≡ 0 = omega arith in
      ap (taken_of F most) (by_fields sign_bit) ∙ subnormal true 0 ∙ ap (λ (y : ℕ). by_halves F most (y / 2 ^ 1074)) nought ∙ nothing_at_all

  -- from here on the sign is clear
  unsigned : (b : ℕ) → b < sign_bit
      → taken_of F most (of_bits binary64 b) ≡ taken_of F most (of_fields binary64 false (b / first_digit) (b % first_digit))
  unsigned b h =
      let T = b % first_digit in
      ap (taken_of F most) (by_fields b)
      ∙ ap₂ (λ (s : Bool) (x : ℕ). taken_of F most (of_fields binary64 s (x / first_digit) T)) (lt-leb sign_bit b h) (mod-eq_of_lt h)

  pub not_finite : (b : ℕ) → b < sign_bit → b / first_digit ≡ full_field → taken_of F most (of_bits binary64 b) ≡ Err Bad
  not_finite b h e = unsigned b h ∙ no_number false (b / first_digit) (b % first_digit) e

-- ---- the three ranges of the exponent's field

-- a limit of `most` whole units is far below the parts of a float that is shifted to the left
pub limit_low : (F o s most : ℕ) → Split F o s → most < 2 ^ 32 → 2 * (F * most) < o * first_digit
limit_low F o s most S h =
    let a : o * 2 ^ s ≤ o * 2 ^ 10 = mul-le-mul_left o (pow_mono S.few) in
    let b : 2 * F * most ≤ o * 2 ^ 10 * most = mul-le-mul_right most (omega (arith, S.twice)) in
    let c : o * 2 ^ 10 * most ≤ o * 2 ^ 10 * 2 ^ 32 = mul-le-mul_left (o * 2 ^ 10) (omega arith) in
    omega (arith, S.some)

module _ (F most o s : ℕ) (S : Split F o s) where
  -- q · 2^k of the smallest unit of a binary64, in half parts
  size : (q k : ℕ) → by_halves F most (2 * F * (q * 2 ^ k) / 2 ^ 1074) ≡ by_halves F most (o * 2 ^ s * (q * 2 ^ k) / 2 ^ 1074)
  size q k = ap (λ (y : ℕ). by_halves F most (y * (q * 2 ^ k) / 2 ^ 1074)) S.twice

  finite : (b k : ℕ) → b < sign_bit → b / first_digit ≡ suc k → (b / first_digit ≡ full_field → ⊥)
      → taken_of F most (of_bits binary64 b) ≡ by_halves F most (o * 2 ^ s * ((first_digit + b % first_digit) * 2 ^ k) / 2 ^ 1074)
  finite b k h e n =
      unsigned F most b h
      ∙ ap (λ (x : ℕ). taken_of F most (of_fields binary64 false x (b % first_digit))) e
      ∙ normal F most false k (b % first_digit) (λ p. n (e ∙ p))
      ∙ size (first_digit + b % first_digit) k

  pub middle : (b : ℕ) → b < sign_bit → (b / first_digit ≡ full_field → ⊥)
      → ones_field - 63 ≤ b / first_digit + s → b / first_digit + s < ones_field
      → taken_of F most (of_bits binary64 b) ≡ by_halves F most (o * (first_digit + b % first_digit) / 2 ^ (ones_field - (b / first_digit + s)))
  middle b p n low high =
      let k = b / first_digit - 1 in
      let some : 0 < b / first_digit = omega (arith, S.few) in
      let h = ones_field - (b / first_digit + s) in
      finite b k p (omega arith) n ∙ ap (by_halves F most) (half_parts o s (first_digit + b % first_digit) k h 1074 (omega arith))

  few_digits : (q : ℕ) → q < 2 ^ 53 → o * q < 2 ^ (10 + 53)
  few_digits q h = rw (pow-add 2 10 53) (lt_of_le_of_lt (mul-le-mul_right q S.short) (mul-lt-mul_of_pos_left h (pow_pos 10)))

  nothing : (q k h : ℕ) → q < 2 ^ 53 → 63 ≤ h → 1074 ≡ h + (k + s) → by_halves F most (o * 2 ^ s * (q * 2 ^ k) / 2 ^ 1074) ≡ Ok 0
  nothing q k h p r e =
      ap (by_halves F most) (no_half_parts o s q k h 1074 e (lt_of_lt_of_le (few_digits q p) (pow_mono r))) ∙ nothing_at_all F most

  pub little : (b : ℕ) → b < sign_bit → b / first_digit + s < ones_field - 63 → taken_of F most (of_bits binary64 b) ≡ Ok 0
  little b p r = go (b / first_digit) refl
    where
      go : (E : ℕ) → b / first_digit ≡ E → taken_of F most (of_bits binary64 b) ≡ Ok 0
      go zero e =
          unsigned F most b p
          ∙ ap (λ (x : ℕ). taken_of F most (of_fields binary64 false x (b % first_digit))) e
          ∙ subnormal F most false (b % first_digit)
          ∙ size (b % first_digit) 0
          ∙ nothing (b % first_digit) 0 (1074 - s) (omega arith) (omega arith) (omega arith)
      go (suc k) e =
          finite b k p e (λ n. omega arith)
          ∙ nothing (first_digit + b % first_digit) k (1074 - (k + s)) (omega arith) (omega arith) (omega arith)

  pub large : (b : ℕ) → b < sign_bit → (b / first_digit ≡ full_field → ⊥) → ones_field ≤ b / first_digit + s → most < 2 ^ 32
      → taken_of F most (of_bits binary64 b) ≡ Err Over
  large b p n r h =
      let k = b / first_digit - 1 in
      let q = first_digit + b % first_digit in
      let y = o * 2 ^ s * (q * 2 ^ k) / 2 ^ 1074 in
      let some : 0 < b / first_digit = omega (arith, S.few) in
      let many : o * q ≤ y = many_half_parts o s q k 1074 (omega arith) in
      let least : o * first_digit ≤ o * q = mul-le-mul_left o (omega arith) in
      let over = past (F * most) (o * first_digit) y (limit_low F o s most S h) (le_trans least many) in
      finite b k p (omega arith) n ∙ over_limit (F * most) ((y + 1) / 2) over
    where
      past : (l x y : ℕ) → 2 * l < x → x ≤ y → l < (y + 1) / 2
      past l x y a b = omega arith

-- ---- the test for a NaN

pub a_number : (x : Float) → ne x x ≡ false → T (not (is_nan x))
unfolding ne is_nan
a_number nan h = absurd (subst T h tt)
a_number (inf s) h = tt
a_number (fin s m e) h = tt

pub nan_bad : (F most : ℕ) (x : Float) → ne x x ≡ true → taken_of F most x ≡ Err Bad
unfolding taken_of
nan_bad F most x h = rw (differs_from_itself x (subst T (sym h) tt))

-- ---- what the definition says

-- it is the largest whole number not above F x + 1/2
pub nearest_is : (F m : ℕ) (e : ℤ) → Nearest F m e (nearest_parts F m e)
nearest_is F m e =
    let a = 2 * F * m * up e + down e in
    let d = 2 * down e in
    let positive : 0 < d = omega (arith, down_pos e) in
    record { low = omega (arith, div-mul-le_self a d); high = omega (arith, lt-div-mul-add {a = a} positive) }

limited_most : (limit k t : ℕ) → limited limit k ≡ Ok t → t ≤ limit
limited_most limit k t e = go (leb k limit) refl e
  where
    go : (b : Bool) → leb k limit ≡ b → cond b (Ok k) (Err Over) ≡ Ok t → t ≤ limit
    go true p e =
        let q : k ≡ t = cc in
        let l : k ≤ limit = leb-true k limit p in
        omega arith
    go false p e = let z : ◌≡◌ {A = ℕ} 0 1 = cc in absurd (omega arith)

-- a number that is taken is within the limit
pub taken_most : (F most t : ℕ) (x : Float) → taken_of F most x ≡ Ok t → t ≤ F * most
unfolding taken_of
taken_most F most t nan e = let z : ◌≡◌ {A = ℕ} 0 1 = cc in absurd (omega arith)
taken_most F most t (inf s) e = let z : ◌≡◌ {A = ℕ} 0 1 = cc in absurd (omega arith)
taken_most F most t (fin s m x) e = go (s && ltb 0 m) e
  where
    go : (b : Bool) → cond b (Err Bad) (limited (F * most) (nearest_parts F m x)) ≡ Ok t → t ≤ F * most
    go true e = let z : ◌≡◌ {A = ℕ} 0 1 = cc in absurd (omega arith)
    go false e = limited_most (F * most) (nearest_parts F m x) t e
