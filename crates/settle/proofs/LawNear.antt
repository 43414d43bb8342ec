-- A cell that goes up by at most its room up, and down by at most its room down, stays between the two multiples of W around it; and so does
-- a cell that does this again and again, since a whole cell is not moved.
use mathlib.Core.Path.{◌≡◌, refl, ap, ◌∙◌}
use mathlib.Core.Logic.{◌≢◌}
use Prim.Native.Nat.{ℕ, ◌+◌, ◌-◌, ◌*◌, ◌/◌, ◌%◌, ◌≤◌, ◌<◌}
use native.Mathlib.Nat.{div-add-mod', mod-lt, div-eq_of_lt-le, div-lt_iff_lt-mul, mul-mod_left, mul-le-mul_right}
use native.Mathlib.Omega.{arith}
use Rattle.settle.specs.Shown.{Whole}
use Rattle.settle.specs.Step.{whole?}
use Rattle.settle.specs.Moves.{Within}
use Rattle.settle.proofs.LawLine.{by_dec}

pub within_refl : {W x : ℕ} → 0 < W → Within W x x
within_refl {W} {x} h = record { low = omega (arith, div-add-mod' x W); high = omega (arith, div-add-mod' x W, mod-lt x h); kept = λ w. refl }

pub within_move : {W x : ℕ} (p m : ℕ) → 0 < W → p ≤ W - x % W → m ≤ x % W → x % W ≢ 0 → Within W x (x + p - m)
within_move {W} {x} p m h hp hm l =
    record {
      low = omega (arith, div-add-mod' x W, mod-lt x h);
      high = omega (arith, div-add-mod' x W, mod-lt x h);
      kept = λ w. absurd (l w);
    }

pub within_trans : {W x y z : ℕ} → 0 < W → Within W x y → Within W y z → Within W x z
within_trans {W} {x} {y} h a b =
    by_dec (whole? W y)
    (λ w.
    let e = b.kept w in
    record { low = omega (arith, a.low); high = omega (arith, a.high); kept = λ v. e ∙ a.kept v })
    (λ w.
    let n : y ≢ x / W * W + W = λ e. w (ap (λ (k : ℕ). k % W) e ∙ add_mod_whole) in
    let q : y / W ≡ x / W = div-eq_of_lt-le W a.low (omega (arith, a.high)) in
    let q' : y / W * W ≡ x / W * W = ap (λ (k : ℕ). k * W) q in
    record { low = omega (arith, b.low); high = omega (arith, b.high); kept = λ v. absurd (w (ap (λ (k : ℕ). k % W) (a.kept v) ∙ v)) })
  where
    add_mod_whole : (x / W * W + W) % W ≡ 0
    add_mod_whole = let e : x / W * W + W ≡ (x / W + 1) * W = omega arith in rw e (mul-mod_left (x / W + 1) W)

-- under a whole limit it stays
pub within_most : {W M x y : ℕ} → 0 < W → Whole W M → x ≤ M → Within W x y → y ≤ M
within_most {W} {M} {x} h w l a =
    by_dec (whole? W x)
    (λ v. omega (arith, a.kept v))
    (λ v.
    let n : x ≢ M = λ e. v (ap (λ (k : ℕ). k % W) e ∙ w) in
    let d = div-add-mod' M W in
    let q : x / W < M / W = (div-lt_iff_lt-mul h).1 (omega arith) in
    let r = mul-le-mul_right W q in
    omega (arith, a.high))

-- a cell that is moved by all of its room is whole
pub hit_up : (W x : ℕ) → 0 < W → Whole W (x + (W - x % W))
hit_up W x h =
    let e : x + (W - x % W) ≡ (x / W + 1) * W = omega (arith, div-add-mod' x W, mod-lt x h) in
    rw e (mul-mod_left (x / W + 1) W)

pub hit_down : (W x : ℕ) → Whole W (x - x % W)
hit_down W x =
    let e : x - x % W ≡ x / W * W = omega (arith, div-add-mod' x W) in
    rw e (mul-mod_left (x / W) W)

pub move_most : {W M x p : ℕ} → 0 < W → Whole W M → x ≤ M → p ≤ W - x % W → x % W ≢ 0 → x + p ≤ M
move_most {p = p} h w l a z =
    let b = within_most h w l (within_move p 0 h a (omega arith) z) in
    omega arith
