-- The test goes conjunct by conjunct. R by a whole and then by d is R by both at once, since floors nest. The code's D, what is left
-- less U rounded down, is the paper's, rounded up, because reuse and its rest make the whole. D's bounds add up what the two roundings
-- lose, each less than a unit. Assumes nothing.
use Rattle.std.proofs.Common.{◌≡◌, ℕ, suc, ◌+◌, ◌-◌, ◌*◌, ◌/◌, ◌%◌, ◌^◌, ◌<◌, ◌≤◌, Bool, true, false, ◌&&◌, Some, sym, refl, ap, ◌∙◌, mul-le-mul_right, mod-lt, zero-lt-suc, mul_assoc, mul-le-mul, mul-le-mul_left, one-mul, div-add-mod', arith, ltb-true, lt-ltb, le-leb, leb-true}
use native.Mathlib.Nat.{div-le_of_le-mul}
use native.Mathlib.Nat.{div-div-eq-div-mul, mul-div-mul_right}
use Rattle.amounts.specs.Inner.{Parts, Room}
use Rattle.amounts.specs.Rounding.{rounded_up}
use Rattle.amounts.specs.declared.line.Amounts.{Amounts}
use Rattle.amounts.specs.Line.{whole_share, removed_of, reused_of, discharged_of, amounts_of, Admissible, admissible, worked_of}
use Rattle.amounts.specs.Line.{◌over◌, whole, unused, manual_value, Sound}
use Rattle.amounts.proofs.LawScaling.{is_quotient, room_most}

-- ---- the test

both : (a b : Bool) → (a && b) ≡ true → (a ≡ true) × (b ≡ true)
both true b h = (refl, h)
both false b h = (cc, cc)

pub admitted : (e n d u : ℕ) → admissible e n d u ≡ true → Admissible e n d u
unfolding admissible
admitted e n d u h =
    let v = both _ _ h in
    let w = both _ _ v.0 in
    let x = both _ _ w.0 in
    let y = both _ _ x.0 in
    record {
      efficiency = leb-true _ _ y.0;
      fraction = leb-true _ _ y.1;
      divisor = ltb-true _ _ x.1;
      size = leb-true _ _ w.1;
      reuse = leb-true _ _ v.1;
    }

pub worked_line : (G e n d u : ℕ) (water : Bool) → Admissible e n d u → worked_of G e n d u water ≡ Some (amounts_of G e n d u water)
unfolding admissible
worked_line G e n d u water a =
    simp (le-leb _ _ a.efficiency, le-leb _ _ a.fraction, lt-ltb _ _ a.divisor, le-leb _ _ a.size, le-leb _ _ a.reuse)

-- ---- shares of a whole

pub part_most : (x n d : ℕ) → n ≤ d → x * n / d ≤ x
part_most x n d h = div-le_of_le-mul d (omega (arith, mul-le-mul_left x h))

-- by the wholes of x and what is left of x
pub wholes : (x u : ℕ) → x / whole_share * u + x % whole_share * u / whole_share ≡ x * u / whole_share
wholes x u = omega (arith, ap (λ (y : ℕ). y * u) (div-add-mod' x whole_share))

-- ... neither of which is more than these
pub wholes_most : (x u : ℕ) → u ≤ whole_share → (x / whole_share * u ≤ x) × (x % whole_share * u ≤ whole_share * whole_share)
wholes_most x u h =
    let rest : x % whole_share ≤ whole_share = omega arith in
    (omega (arith, mul-le-mul_left (x / whole_share) h), mul-le-mul rest h)

-- x less its share u, rounded down, is its share of the rest of the whole, rounded up
rounded_up_lem : (x u : ℕ) → u ≤ whole_share → x - x * u / whole_share ≡ rounded_up (x * (whole_share - u)) whole_share
rounded_up_lem x u h = go (whole_share - u) (omega arith)
  where
    go : (w : ℕ) → u + w ≡ whole_share → x - x * u / whole_share ≡ rounded_up (x * w) whole_share
    go w e = omega (arith, ap (λ (y : ℕ). x * y) e)

-- ---- what is removed

removed_is : (G e n d : ℕ) → G * (e * n) / (whole_share * d) ≡ removed_of G e n d
unfolding removed_of
removed_is G e n d = ap (λ (y : ℕ). y / (whole_share * d)) (sym (mul_assoc G e n))

pub removed_most : (G e n d : ℕ) → e ≤ whole_share → n ≤ d → removed_of G e n d ≤ G
removed_most G e n d h k = rw (← removed_is G e n d) (part_most G (e * n) (whole_share * d) (mul-le-mul h k))

-- a treatment that ran for all of the production, however long that was
removed_of_all : (G e d : ℕ) → 0 < d → removed_of G e d d ≡ removed_of G e 1 1
unfolding removed_of
removed_of_all G e d p = mul-div-mul_right (G * e) whole_share p ∙ sym (mul-div-mul_right (G * e) whole_share (zero-lt-suc 0))

pub amounts_of_all : (G e d u : ℕ) (water : Bool) → 0 < d → amounts_of G e d d u water ≡ amounts_of G e 1 1 u water
amounts_of_all G e d u water p = rw (removed_of_all G e d p)

-- what efficiency leaves over; its share n is below d
abbrev pub remnant : (G e : ℕ) → ℕ
remnant G e = G % whole_share * e % whole_share

pub remnant_share : (G e n d : ℕ) → n ≤ d → 0 < d → remnant G e * n / whole_share < d
remnant_share G e n d h p =
    let most : remnant G e ≤ 999 = omega arith in
    omega (arith, mul-le-mul_right n most)

-- the share n of the quotient and that of what is left over make the share n of both
by_shares : (G e n : ℕ) → G * e / whole_share * n + remnant G e * n / whole_share ≡ G * e * n / whole_share
by_shares G e n =
    let split : G * e ≡ G * e / whole_share * whole_share + remnant G e = omega (arith, ap (λ (y : ℕ). y * e) (div-add-mod' G whole_share)) in
    omega (arith, ap (λ (y : ℕ). y * n) split)

-- a is the quotient, and its share n is q · d + r
module _ (G e n d a q r : ℕ) (treated : a ≡ G * e / whole_share) (ran : Parts (a * n) d q r) where
  sum_is : (q + 0) * d + (r + remnant G e * n / whole_share) ≡ G * e * n / whole_share
  sum_is = omega (arith, ran.whole, ap (λ (y : ℕ). y * n) treated, by_shares G e n)

  pub removed_room : e ≤ whole_share → n ≤ d → 0 < d → G < 2 ^ 64 → Room ((q + 0) * d + (r + remnant G e * n / whole_share)) d
  removed_room h k p f =
      let most : G * (e * n) ≤ G * (whole_share * d) = mul-le-mul_left G (mul-le-mul h k) in
      room_most _ G d (rw sum_is (omega arith)) f p

  pub removed_by : (s t : ℕ) → Parts ((q + 0) * d + (r + remnant G e * n / whole_share)) d s t → s ≡ removed_of G e n d
  unfolding removed_of
  removed_by s t w =
      is_quotient _ d s t w ∙ ap (λ (y : ℕ). y / d) sum_is ∙ div-div-eq-div-mul (G * e * n) whole_share d

-- ---- the amounts

abbrev cells : (G R U D : ℕ) → Amounts
cells G R U D = record { generated = G; removed = R; reused = U; discharged = D }

same : (G : ℕ) {r r' u u' d d' : ℕ} → r ≡ r' → u ≡ u' → d ≡ d' → cells G r u d ≡ cells G r' u' d'
same G p q s i = record { generated = G; removed = p i; reused = q i; discharged = s i }

-- what the code makes, in water and elsewhere
module _ (G e n d u r : ℕ) (water : Bool) (removed : r ≡ removed_of G e n d) where
  pub in_water_lem : (v : ℕ) → water ≡ true → u ≤ whole_share → v ≡ (G - r) * u / whole_share
      → cells G r v (G - r - v) ≡ amounts_of G e n d u water
  unfolding reused_of discharged_of
  in_water_lem v h k q =
      simp (← removed, h) (same G refl q (ap (λ (y : ℕ). G - r - y) q ∙ rounded_up_lem (G - r) u k))

  pub elsewhere : water ≡ false → cells G r 0 (G - r) ≡ amounts_of G e n d u water
  unfolding reused_of discharged_of
  elsewhere h = simp (← removed, h)

-- ---- what is owed of them

-- X is not removed, E of N is removed, M = N − E, and s is what rounding R down left over
not_removed : (G X R N E M s : ℕ) → X + R ≡ G → M + E ≡ N → R * N + s ≡ G * E → X * N ≡ G * M + s
not_removed G X R N E M s a b h = omega (arith, ap (λ (y : ℕ). y * N) a, ap (λ (y : ℕ). G * y) b)

-- D is X · f / W, rounded up by t / W
bounds : (G X N M s f t D W : ℕ) → X * N ≡ G * M + s → s < N → f ≤ W → D * W ≡ X * f + t → t < W
    → (G * M * f ≤ D * (N * W)) × (D * (N * W) < G * M * f + 2 * (N * W))
bounds G X N M s f t D W a b c h k =
    let e : D * W * N ≡ (X * f + t) * N = ap (λ (y : ℕ). y * N) h in
    let g : X * N * f ≡ (G * M + s) * f = ap (λ (y : ℕ). y * f) a in
    let p : s * f ≤ s * W = mul-le-mul_left s c in
    let q : suc t * N ≤ W * N = mul-le-mul_right N k in
    let r : suc s * W ≤ N * W = mul-le-mul_right W b in
    (omega arith, omega arith)

-- by how much p / whole_share, rounded up, is above it
ceiling : (p : ℕ) → (t : ℕ) × (rounded_up p whole_share * whole_share ≡ p + t) × (t < whole_share)
ceiling p = (rounded_up p whole_share * whole_share - p, omega arith, omega arith)

unused_most : (u : ℕ) (water : Bool) → unused u water ≤ whole_share
unused_most u true = omega arith
unused_most u false = omega arith

-- the two rounded parts of x make x, and the second is what is not reused, rounded up
parts : (x u : ℕ) (water : Bool) → u ≤ whole_share
    → (x ≡ reused_of x u water + discharged_of x u water) × (discharged_of x u water ≡ rounded_up (x * unused u water) whole_share)
unfolding reused_of discharged_of
parts x u true h = (omega (arith, rounded_up_lem x u h, part_most x u whole_share h), refl)
parts x u false h = (omega arith, omega arith)

pub sound : (G e n d u : ℕ) (water : Bool) → Admissible e n d u
    → Sound 2 (manual_value (whole G) (n over d) e u water) (amounts_of G e n d u water)
sound G e n d u water a =
    let E = e * n in
    let N = whole_share * d in
    let R = removed_of G e n d in
    let X = G - R in
    let is : G * E / N ≡ R = removed_is G e n d in
    let most : E ≤ N = mul-le-mul a.efficiency a.fraction in
    let R-most : R ≤ G = removed_most G e n d a.efficiency a.fraction in
    let P = parts X u water a.reuse in
    let C = ceiling (X * unused u water) in
    let D = discharged_of X u water in
    let h : D * whole_share ≡ X * unused u water + C.0 = ap (λ (y : ℕ). y * whole_share) P.1 ∙ C.1 in
    let rest : R * N + G * E % N ≡ G * E = ap (λ (y : ℕ). y * N + G * E % N) (sym is) ∙ div-add-mod' (G * E) N in
    let left = not_removed G X R N E (N - E) (G * E % N) (omega arith) (omega arith) rest in
    let less : G * E % N < N = mod-lt (G * E) (omega (arith, a.divisor)) in
    let B = bounds G X N (N - E) (G * E % N) (unused u water) C.0 D whole_share left less (unused_most u water) h C.2 in
    record { sum = omega (arith, P.0); low = rw one-mul B.0; high = rw one-mul B.1 }
