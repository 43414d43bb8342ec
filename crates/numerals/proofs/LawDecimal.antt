-- A decimal numeral as it was typed: its point, its places, its size. Assumes nothing.
use Rattle.std.specs.Prelude.{Option, Some, None}
use Prim.Native.Nat.{ℕ, ◌+◌, ◌-◌, ◌*◌, ◌^◌, ◌≤◌, ◌<◌}
use mathlib.Core.Path.{◌≡◌, refl, sym, ap}
use mathlib.Core.Bool.{true}
use mathlib.Core.List.{List, [], ◌∷◌}
use native.Mathlib.Nat.{pow-suc, one-le-pow, mul-le-mul_right, mul-lt-mul_of_pos_right}
use native.Mathlib.Omega.{arith}
use lib.ListN.{length, take, drop, get_or}
use lib.Pow.{pow-add}
use borrow.Author.Tests.{leb-true, eq-eqb, ne_eqb}
use Rattle.search.proofs.LawTest.{clash, and_left, and_right, every_at}
use Rattle.search.proofs.LawFirst.{first_below, first_start, first_rest, first_here}
use Rattle.search.specs.First.{first}
use Rattle.std.specs.Option.{MatchOption}
use Rattle.std.specs.List.{AllWithin, HoldsAt}
use Rattle.numerals.specs.Numeral.{zero_digit, value_of, point}
use Rattle.numerals.specs.Typed.{is_digit, all_digits, is_numeral, number_in, places, most_places, is_point_at, point_in, whole_in, places_in, as_places, joined, decimal_in}
use Rattle.numerals.specs.Inner.{AtMost}
use Rattle.numerals.proofs.LawTyped.{digit_high, number_is, number_most}

-- so many digits are a number below that power of ten
value_below : (so_far : ℕ) (bytes : List ℕ) → all_digits bytes ≡ true → value_of so_far bytes < (so_far + 1) * 10 ^ length bytes
unfolding value_of all_digits
value_below so_far [] h = omega arith
value_below so_far (b ∷ bytes) h =
    let next = 10 * so_far + (b - zero_digit) in
    let high = digit_high b (and_left (is_digit b) (all_digits bytes) h) in
    let ten : next + 1 ≤ 10 * so_far + 10 = omega arith in
    let rest = value_below next bytes (and_right (is_digit b) (all_digits bytes) h) in
    rw pow-suc (omega (arith, mul-le-mul_right (10 ^ length bytes) ten))

-- ---- the places

module _ (bytes : List ℕ) where
  module _ (n : ℕ) (e : number_in places most_places bytes ≡ Some n) where
    -- 1 to 3 of them
    pub places_few : (1 ≤ length bytes) × (length bytes ≤ places) × (n ≤ most_places)
    unfolding is_numeral
    places_few =
        let is = number_is places most_places bytes n e in
        (leb-true 1 (length bytes) (every_at _ is.0 0), leb-true (length bytes) places (every_at _ is.0 1), number_most places most_places bytes n e)

    pub places_scaled : (k scale : ℕ) → length bytes ≡ k → 10 ^ (places - k) ≡ scale → places_in bytes ≡ Some (n * scale)
    unfolding places_in
    places_scaled k scale l s = rw (e, l, s)

    below : n * 10 ^ (places - length bytes) ≤ most_places
    unfolding is_numeral
    below =
        let is = number_is places most_places bytes n e in
        let value = value_below 0 bytes (every_at _ is.0 2) in
        let few : n < 10 ^ length bytes = omega (arith, is.1) in
        let scaled = mul-lt-mul_of_pos_right few (one-le-pow (places - length bytes) 10 (omega arith)) in
        let whole : length bytes + (places - length bytes) ≡ places = omega (arith, places_few) in
        omega (arith, pow-add 10 (length bytes) (places - length bytes), ap (λ (k : ℕ). 10 ^ k) whole)

  pub places_most : AtMost most_places (places_in bytes)
  unfolding places_in
  places_most n h = go (number_in places most_places bytes) refl h
    where
      go : (typed : Option ℕ) → number_in places most_places bytes ≡ typed → as_places (length bytes) typed ≡ Some n → n ≤ most_places
      go (Some m) e q = let same : m * 10 ^ (places - length bytes) ≡ n = cc in omega (arith, below m e)
      go None e q = clash (cc)

pub none_most : (most : ℕ) → AtMost most (Some 0)
none_most most n e = let same : ◌≡◌ {A = ℕ} 0 n = cc in omega arith

-- ---- the point

none_below : (bytes : List ℕ) (n : ℕ) → AllWithin (λ b. b ≡ point → ⊥) bytes 0 n → first n (is_point_at bytes) ≡ None
none_below bytes n h =
    first_rest (is_point_at bytes) 0 n (first_start (is_point_at bytes)) (omega arith) (λ i a b. ne_eqb (get_or bytes i 0) point (h i 0 a b))

-- what a search for it answers
pub point_found : (bytes : List ℕ) (r : Option ℕ)
    → MatchOption r (AllWithin (λ b. b ≡ point → ⊥) bytes 0 (length bytes))
    (λ i. (i < length bytes) × HoldsAt (λ b. b ≡ point) bytes i × AllWithin (λ b. b ≡ point → ⊥) bytes 0 i)
    → r ≡ point_in bytes
unfolding point_in
point_found bytes None h = sym (none_below bytes (length bytes) h)
point_found bytes (Some i) h = first_here (is_point_at bytes) i (length bytes) (none_below bytes i h.2) (eq-eqb (get_or bytes i 0) point (h.1 0)) h.0

module _ (bytes : List ℕ) where
  pub decimal_whole : point_in bytes ≡ None → decimal_in bytes ≡ joined (whole_in bytes) (Some 0)
  unfolding decimal_in
  decimal_whole e = rw e

  module _ (i : ℕ) (e : point_in bytes ≡ Some i) where
    pub point_below : i < length bytes
    unfolding point_in
    point_below = first_below (is_point_at bytes) (length bytes) i e

    pub decimal_parts : decimal_in bytes ≡ joined (whole_in (take i bytes)) (places_in (drop (i + 1) bytes))
    unfolding decimal_in
    decimal_parts = rw e
