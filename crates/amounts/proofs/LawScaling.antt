-- A number v is carried as q · d + r. Each step is an equation between such sums, linear once the step's one product is given; the last
-- laws turn q into v / d. That no step wraps follows from q · d ≤ v. Assumes nothing.
use Rattle.std.proofs.Common.{◌≡◌, ℕ, ◌+◌, ◌*◌, ◌/◌, ◌%◌, ◌^◌, ◌<◌, ◌≤◌, sym, ap, ◌∙◌, lt_of_le_of_lt, mul-le-mul_right, mod-lt, mul-le-mul, lt_of_mul-lt-mul_right, mul-le-mul_left, mul-lt-mul_of_pos_right, div-add-mod', div-mul-le_self, le_of_mul-le-mul_right, arith, lit<, pow_mono}
use native.Mathlib.Nat.{div-lt_self}
use lib.Arith.{digits_div}
use Rattle.amounts.specs.Inner.{Digit, Parts, Room}

-- ---- a quotient fits. 2 ^ 64 is a variable here, so that `omega` meets no long numeral

below : (W d q r : ℕ) → q * d + r < W * d → q < W
below W d q r h = lt_of_mul-lt-mul_right d (omega arith)

carried_below : (W d q r : ℕ) → q * d + r < W * d → d ≤ r → q + 1 < W
carried_below W d q r h k = lt_of_mul-lt-mul_right d (omega arith)

pub room_quotient : (d q r : ℕ) → Room (q * d + r) d → q < 2 ^ 64
unfolding Room
room_quotient d q r h = below (2 ^ 64) d q r h

pub room_carried : (d q r : ℕ) → Room (q * d + r) d → d ≤ r → q + 1 < 2 ^ 64
unfolding Room
room_carried d q r h k = carried_below (2 ^ 64) d q r h k

room_less : (d v w : ℕ) → v ≤ w → Room w d → Room v d
unfolding Room
room_less d v w h k = lt_of_le_of_lt h k

pub room_most : (v x d : ℕ) → v ≤ x * d → x < 2 ^ 64 → 0 < d → Room v d
unfolding Room
room_most v x d h k p = lt_of_le_of_lt h (mul-lt-mul_of_pos_right k p)

-- x · n by d has room, as n is at most d
pub room_scaled : (x n d : ℕ) → x < 2 ^ 64 → n ≤ d → 0 < d → Room (x * (n / d * d + n % d)) d
room_scaled x n d h k p = rw (div-add-mod' n d) (room_most _ x d (mul-le-mul_left x k) h p)

-- ---- from x / 2 times v to x times v

pub nothing : (x v d : ℕ) → 0 < d → x ≡ 0 → Parts (x * v) d 0 0
nothing x v d h e = record { whole = rw e (omega arith); rest = h }

pub room_half : (x v d : ℕ) → Room (x * v) d → Room (x / 2 * v) d
room_half x v d h = room_less d (x / 2 * v) (x * v) (mul-le-mul_right v (omega arith)) h

pub room_twice : (x v d q r : ℕ) → q * d + r ≡ x / 2 * v → Room (x * v) d → Room ((q + q) * d + (r + r)) d
room_twice x v d q r e h =
    let twice : 2 * (x / 2) * v ≤ x * v = mul-le-mul_right v (omega arith) in
    room_less d ((q + q) * d + (r + r)) (x * v) (omega arith) h

pub even_sum : (x v d q r s t : ℕ) → x % 2 ≡ 0 → q * d + r ≡ x / 2 * v → s * d + t ≡ (q + q) * d + (r + r) → s * d + t ≡ x * v
even_sum x v d q r s t h e f =
    let halves : 2 * (x / 2) ≡ x = omega arith in
    omega (arith, ap (λ (y : ℕ). y * v) halves)

pub odd_sum : (x m n d q r s t : ℕ) → (x % 2 ≡ 0 → ⊥) → q * d + r ≡ x / 2 * (m * d + n) → s * d + t ≡ (q + q) * d + (r + r)
    → (s + m) * d + (t + n) ≡ x * (m * d + n)
odd_sum x m n d q r s t h e f =
    let halves : 2 * (x / 2) + 1 ≡ x = omega arith in
    omega (arith, ap (λ (y : ℕ). y * (m * d + n)) halves)

-- ---- one digit more, in any base b

abbrev pub next : (b x n r : ℕ) → ℕ
next b x n r = r * b + x % b * n

pub next_parts : (b x n d q r : ℕ) → q * d + r ≡ x / b * n → (q * b + next b x n r / d) * d + next b x n r % d ≡ x * n
next_parts b x n d q r e =
    omega (arith, div-add-mod' (next b x n r) d, ap (λ (y : ℕ). y * n) (div-add-mod' x b), ap (λ (y : ℕ). y * b) e)

pub shorter : (x b : ℕ) → (x ≡ 0 → ⊥) → 2 ≤ b → x / b < x
shorter x b h k = div-lt_self (omega arith) (omega arith)

-- the base is a power of two, and at least two
pub base_two : (d k b : ℕ) → b ≡ 2 ^ k → Digit d k → (2 ≤ b) × (b * d ≤ 2 ^ 63)
base_two d k b e D = rw e (pow_mono D.some, D.fits)

-- the bounds that the digit's sum wants, W = 2 ^ 64
next_fits : (W b x n d r : ℕ) → r < d → n ≤ d → b * d * 2 ≤ W → 0 < b → next b x n r < W
next_fits W b x n d r h k l p =
    let digit : x % b < b = mod-lt x p in
    let low : x % b * n ≤ x % b * d = mul-le-mul_left (x % b) k in
    let high : x % b * d ≤ b * d = mul-le-mul_right d (omega arith) in
    omega (arith, mul-lt-mul_of_pos_right h p)

pub digit_room : (b x n d r k : ℕ) → b ≡ 2 ^ k → Digit d k → r < d → n ≤ d
    → (r * b < 2 ^ 64) × (x % b * n < 2 ^ 64) × (next b x n r < 2 ^ 64)
digit_room b x n d r k e D h l = go (2 ^ 64) (omega (arith, P.1))
  where
    P : (2 ≤ b) × (b * d ≤ 2 ^ 63)
    P = base_two d k b e D

    go : (W : ℕ) → b * d * 2 ≤ W → (r * b < W) × (x % b * n < W) × (next b x n r < W)
    go W f =
        let N = next_fits W b x n d r h l f (omega (arith, P.0)) in
        (omega arith, omega arith, N)

-- a quotient of x · n by d is at most x
pub quotient_most : (x n d q r : ℕ) → q * d + r ≡ x * n → n ≤ d → 0 < d → q ≤ x
quotient_most x n d q r e h p = le_of_mul-le-mul_right (omega (arith, mul-le-mul_left x h)) p

pub high_most : (b x n d q r : ℕ) → q * d + r ≡ x / b * n → n ≤ d → 0 < d → q * b ≤ x
high_most b x n d q r e h p =
    omega (arith, mul-le-mul_right b (quotient_most (x / b) n d q r e h p), div-mul-le_self x b)

-- ---- a short divisor: the wholes of x by d, and what is left of x

pub short_parts : (x n d : ℕ) → 0 < d → Parts (x * n) d (x / d * n + x % d * n / d) (x % d * n % d)
short_parts x n d h =
    record {
      whole = omega (arith, div-add-mod' (x % d * n) d, ap (λ (y : ℕ). y * n) (div-add-mod' x d));
      rest = mod-lt _ h;
    }

-- ... neither of which is too large
pub short_wholes : (x n d : ℕ) → n ≤ d → x / d * n ≤ x
short_wholes x n d h = omega (arith, mul-le-mul_left (x / d) h, div-mul-le_self x d)

pub short_left : (x n d : ℕ) → 0 < d → n ≤ d → d < 2 ^ 32 → x % d * n < 2 ^ 64
short_left x n d h k l =
    let left : x % d ≤ 4_294_967_295 = omega (arith, mod-lt x h) in
    let share : n ≤ 4_294_967_295 = omega arith in
    lt_of_le_of_lt (mul-le-mul left share) (lit< tt)

-- ---- the quotient at last

pub is_quotient : (v d q r : ℕ) → Parts v d q r → q ≡ v / d
is_quotient v d q r p = sym (digits_div q p.rest) ∙ ap (λ (y : ℕ). y / d) p.whole

pub by_whole : (x n d : ℕ) → x * (n / d * d + n % d) / d ≡ x * n / d
by_whole x n d = ap (λ (y : ℕ). x * y / d) (div-add-mod' n d)
