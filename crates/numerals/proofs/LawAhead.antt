-- How a loop reads the digits that stand from a place on, and what these are as a numeral or a decimal numeral. Assumes nothing.
use Rattle.std.specs.Prelude.{Option, Some, None}
use Prim.Native.Nat.{ℕ, ◌+◌, ◌-◌, ◌*◌, ◌≤◌, ◌<◌, max}
use mathlib.Core.Path.{◌≡◌, refl, sym, ap, ap₂, ◌∙◌}
use mathlib.Core.Bool.{true, false, ◌&&◌, ◌||◌, and-false}
use mathlib.Core.List.{List, [], ◌∷◌, ◌++◌, append_assoc, append-nil}
use native.Mathlib.Nat.{add-zero}
use Rattle.std.proofs.Math.Nat.{max-eq_left, max-eq_right}
use native.Mathlib.Numerals.{add-one}
use native.Mathlib.Omega.{arith}
use lib.Dec.{leb, ltb, eqb}
use lib.ListN.{length, drop, get_or, length-append, drop_of_length-le}
use lib.Seq.{drop-cons, drop-drop, get_or-drop, take_at, drop-append-add}
use borrow.Author.Tests.{le-leb, lt-leb, lt-ltb, le-ltb, leb-true, leb-false, ne_eqb, eqb-true, ltb-true, ltb-false}
use Rattle.std.proofs.lemmas.Option.{some_pair_parts}
use Rattle.little.specs.Read.{byte_at}
use Rattle.little.proofs.LawRead.{byte_past}
use Rattle.search.proofs.LawTest.{either_way, clash, and_left, or_left, or_right}
use Rattle.numerals.specs.Numeral.{zero_digit, point, value_of}
use Rattle.numerals.specs.Typed.{is_digit, all_digits, number_in, whole_digits, most_whole, places, most_places, as_places, places_in, joined, decimal_in}
use Rattle.numerals.specs.Ahead.{most_before, digits_after, front_digits, ahead, ending_at, number_from, point_and_digits, front_decimal, decimal_from}
use Rattle.numerals.specs.Inner.{onward, digits_from, number_of, with_places, all_decimal}
use Rattle.numerals.specs.declared.ahead.Ahead.{Ahead}
use Rattle.numerals.specs.declared.ahead.Digits.{Digits}
use Rattle.numerals.proofs.LawTyped.{size_other, size_right}
use Rattle.numerals.proofs.LawDecimal.{decimal_whole, decimal_parts}
use Rattle.numerals.proofs.LawBack.{digits_decimal, no_point, point_at}

-- ---- a loop over the digits: those before i are read as v

pub record DigitsSoFar (text : List ℕ) (at v i : ℕ) : Type 0 where
  pub value : value_of v (digits_after v (drop i text)) ≡ value_of 0 (front_digits (drop at text))
  pub end : i + length (digits_after v (drop i text)) ≡ at + length (front_digits (drop at text))

module _ (text : List ℕ) (at : ℕ) where
  pub digits_start : DigitsSoFar text at 0 at
  digits_start = record { value = refl; end = refl }

  module _ (v i : ℕ) (so_far : DigitsSoFar text at v i) where
    stopped : digits_after v (drop i text) ≡ [] → record { value = v; end = i } ≡ digits_from text at
    unfolding digits_from value_of
    stopped none =
        let value : v ≡ value_of 0 (front_digits (drop at text)) = rw none at so_far.value in
        let end : i ≡ at + length (front_digits (drop at text)) = omega (arith, rw none at so_far.end) in
        ap₂ (λ (x y : ℕ). record { value = x; end = y }) value end

    pub digits_past : length text ≤ i → record { value = v; end = i } ≡ digits_from text at
    unfolding digits_after
    digits_past h = stopped (rw (drop_of_length-le text {i = i} h))

    -- a loop over the places of the text ends behind it, or where it began
    pub digits_end : length text ≤ i → (at ≤ length text → i ≤ length text) → max at (length text) ≡ i
    unfolding digits_after
    digits_end h k =
        either_way (leb at (length text))
        (λ w. let l = leb-true at (length text) w in max-eq_right l ∙ (let e : length text ≡ i = omega (arith, k l) in e))
        (λ w.
        let past : length text ≤ at = omega (arith, leb-false at (length text) w) in
        let none : i + 0 ≡ at + 0 = rw (drop_of_length-le text {i = i} h, drop_of_length-le text {i = at} past) at so_far.end in
        max-eq_left past ∙ (let e : at ≡ i = omega arith in e))

    module _ (h : i < length text) where
      pub digits_other : is_digit (get_or text i 0) ≡ false → record { value = v; end = i } ≡ digits_from text at
      unfolding digits_after
      digits_other d = stopped (rw (drop-cons text i 0 h, d))

      pub digits_large : most_before < v → record { value = v; end = i } ≡ digits_from text at
      unfolding digits_after
      digits_large l = stopped (rw (drop-cons text i 0 h, lt-leb v most_before l, and-false))

      pub digits_more : is_digit (get_or text i 0) ≡ true → v ≤ most_before → DigitsSoFar text at (10 * v + (get_or text i 0 - zero_digit)) (i + 1)
      unfolding digits_after value_of
      digits_more d l =
          let here : drop i text ≡ get_or text i 0 ∷ drop (i + 1) text = drop-cons text i 0 h ∙ rw (add-one i) refl in
          let value = rw (here, d, le-leb v most_before l) at so_far.value in
          let end = rw (here, d, le-leb v most_before l) at so_far.end in
          record { value = value; end = omega (arith, end) }

-- ---- the digits that were read

-- all of them are digits, and the text goes on behind them
after_digits : (v : ℕ) (t : List ℕ) → all_digits (digits_after v t) ≡ true
unfolding digits_after all_digits
after_digits v [] = refl
after_digits v (b ∷ t) =
    either_way (is_digit b && leb v most_before)
    (λ e. rw (e, and_left (is_digit b) (leb v most_before) e) (after_digits (10 * v + (b - zero_digit)) t))
    (λ e. rw e)

after_splits : (v : ℕ) (t : List ℕ) → t ≡ digits_after v t ++ drop (length (digits_after v t)) t
unfolding digits_after
after_splits v [] = refl
after_splits v (b ∷ t) =
    either_way (is_digit b && leb v most_before)
    (λ e. rw e (ap (λ (l : List ℕ). b ∷ l) (after_splits (10 * v + (b - zero_digit)) t)))
    (λ e. rw e)

digits_bytes : (t : List ℕ) → all_decimal (front_digits t) ≡ true
unfolding all_decimal
digits_bytes t = rw append-nil at (digits_decimal (front_digits t) [] (after_digits 0 t) refl)

digits_split : (t : List ℕ) → t ≡ front_digits t ++ drop (length (front_digits t)) t
digits_split t = after_splits 0 t

-- ---- as a numeral

module _ (digits most : ℕ) where
  -- the number of digits by how many they are and what they are read as
  of_digits : (bytes : List ℕ) → all_digits bytes ≡ true → number_of (length bytes) (value_of 0 bytes) digits most ≡ number_in digits most bytes
  unfolding number_of onward
  of_digits bytes all =
      either_way (ltb (length bytes) 1 || ltb digits (length bytes))
      (λ e. rw (e, size_other digits most bytes e))
      (λ e.
      rw (e, size_right digits most bytes e, all)
      (either_way (leb (value_of 0 bytes) most)
      (λ l. rw (l, le-ltb most (value_of 0 bytes) (leb-true (value_of 0 bytes) most l)))
      (λ l. rw (l, lt-ltb most (value_of 0 bytes) (omega (arith, leb-false (value_of 0 bytes) most l))))))

  pub of_few : (size value n : ℕ) → number_of size value digits most ≡ Some n → (1 ≤ size) × (size ≤ digits) × (n ≤ most)
  unfolding number_of
  of_few size value n e =
      either_way (ltb size 1 || ltb digits size)
      (λ q. let z : None ≡ Some n = rw q at e in clash (cc))
      (λ q.
      either_way (ltb most value)
      (λ l. let z : None ≡ Some n = rw (q, l) at e in clash (cc))
      (λ l.
      let same : Some value ≡ Some n = rw (q, l) at e in
      let is : value ≡ n = cc in
      (ltb-false size 1 (or_left (ltb size 1) (ltb digits size) q), ltb-false digits size (or_right (ltb size 1) (ltb digits size) q), rw (← is) (ltb-false most value l))))

module _ (text : List ℕ) (at : ℕ) (d : Digits) (e : d ≡ digits_from text at) where
  abbrev front : List ℕ
  front = front_digits (drop at text)

  value_is : d.value ≡ value_of 0 front
  unfolding digits_from
  value_is = ap (λ (x : Digits). x.value) e

  pub end_is : d.end ≡ at + length front
  unfolding digits_from
  end_is = ap (λ (x : Digits). x.end) e

  pub front_after : at ≤ d.end
  front_after = omega (arith, end_is)

  size_is : d.end - at ≡ length front
  size_is = omega (arith, end_is)

  pub front_number : (digits most : ℕ) → number_of (d.end - at) d.value digits most ≡ number_in digits most front
  front_number digits most = rw (size_is, value_is) (of_digits digits most front (after_digits 0 (drop at text)))

  pub number_ends : (digits most : ℕ) → ending_at d.end (number_of (d.end - at) d.value digits most) ≡ number_from digits most text at
  unfolding number_from
  number_ends digits most = rw (front_number digits most, end_is) refl

  -- ---- as places, and as what stands before a point

  pub front_places : as_places (d.end - at) (number_of (d.end - at) d.value places most_places) ≡ places_in front
  unfolding places_in
  front_places = rw (front_number places most_places, size_is) refl

  behind : drop (length front) (drop at text) ≡ drop d.end text
  behind = drop-drop (length front) at text ∙ ap (λ (k : ℕ). drop k text) (sym end_is)

  pub decimal_plain : (byte_at text d.end ≡ point → ⊥)
      → ending_at d.end (joined (number_of (d.end - at) d.value whole_digits most_whole) (Some 0)) ≡ decimal_from text at
  unfolding decimal_from front_decimal
  decimal_plain other =
      rw (behind, no_more (drop d.end text) first_is, append-nil front, decimal_whole front (no_point front (after_digits 0 (drop at text))), front_number whole_digits most_whole, end_is) refl
    where
      first_is : byte_at (drop d.end text) 0 ≡ point → ⊥
      first_is e = other (rw (get_or-drop d.end text 0 0, add-zero d.end) at e)

      no_more : (t : List ℕ) → (byte_at t 0 ≡ point → ⊥) → point_and_digits t ≡ []
      no_more [] n = refl
      no_more (b ∷ t) n = rw (ne_eqb b point n)

  module _ (is : byte_at text d.end ≡ point) where
    pub inside : d.end < length text
    inside =
        either_way (ltb d.end (length text)) (λ h. ltb-true d.end (length text) h)
        (λ h. absurd (omega (arith, is, byte_past text d.end (ltb-false d.end (length text) h))))

    split : drop d.end text ≡ point ∷ drop (d.end + 1) text
    split = drop-cons text d.end 0 inside ∙ rw (add-one d.end, is) refl

    bytes_are : front_decimal (drop at text) ≡ front ++ (point ∷ front_digits (drop (d.end + 1) text))
    unfolding front_decimal
    bytes_are = rw (behind, split) refl

    pub decimal_pointed : with_places text (d.end + 1) (number_of (d.end - at) d.value whole_digits most_whole) ≡ decimal_from text at
    unfolding with_places decimal_from
    decimal_pointed =
        let rest = front_digits (drop (d.end + 1) text) in
        let size : at + length (front ++ (point ∷ rest)) ≡ d.end + 1 + length rest = omega (arith, length-append front (point ∷ rest), end_is) in
        let there = point_at front rest (after_digits 0 (drop at text)) in
        rw (bytes_are, size, decimal_parts (front ++ (point ∷ rest)) (length front) there, take_at front (point ∷ rest) (length front) refl, drop-append-add front (point ∷ rest) 1, front_number whole_digits most_whole) refl

-- ---- the bytes of a decimal numeral that stands there

pointed_bytes : (t : List ℕ) → all_decimal (point_and_digits t) ≡ true
unfolding all_decimal
pointed_bytes [] = refl
pointed_bytes (b ∷ t) = either_way (eqb b point) (λ e. let is : b ≡ point = eqb-true b point e in rw is (digits_bytes t)) (λ e. rw e)

pointed_split : (t : List ℕ) → t ≡ point_and_digits t ++ drop (length (point_and_digits t)) t
pointed_split [] = refl
pointed_split (b ∷ t) = either_way (eqb b point) (λ e. rw e (ap (λ (l : List ℕ). b ∷ l) (digits_split t))) (λ e. rw e)

module _ (t : List ℕ) where
  decimal_front_bytes : all_decimal (front_decimal t) ≡ true
  unfolding front_decimal
  decimal_front_bytes = digits_decimal (front_digits t) _ (after_digits 0 t) (pointed_bytes (drop (length (front_digits t)) t))

  decimal_front_split : t ≡ front_decimal t ++ drop (length (front_decimal t)) t
  unfolding front_decimal
  decimal_front_split =
      let rest = drop (length (front_digits t)) t in
      let all : drop (length (point_and_digits rest)) rest ≡ drop (length (front_digits t ++ point_and_digits rest)) t =
      drop-drop (length (point_and_digits rest)) (length (front_digits t)) t ∙ ap (λ (k : ℕ). drop k t) (sym (length-append (front_digits t) (point_and_digits rest))) in
      digits_split t
      ∙ ap (λ (l : List ℕ). front_digits t ++ l) (pointed_split rest ∙ ap (λ (l : List ℕ). point_and_digits rest ++ l) all)
      ∙ sym (append_assoc (front_digits t) (point_and_digits rest) _)

-- ---- what was read from a place on: bytes that stand there, and their number

pub record Stands (text : List ℕ) (at : ℕ) (meaning : List ℕ → Option ℕ) (n end : ℕ) : Type 0 where
  pub bytes : List ℕ
  pub decimal : all_decimal bytes ≡ true
  pub there : drop at text ≡ bytes ++ drop (at + length bytes) text
  pub ends : end ≡ at + length bytes
  pub is : meaning bytes ≡ Some n

ahead_parts : Option Ahead → Option (ℕ × ℕ)
ahead_parts (Some a) = Some (a.number, a.end)
ahead_parts None = None

ending_is : (e n end : ℕ) (typed : Option ℕ) → ending_at e typed ≡ ahead n end → (typed ≡ Some n) × (end ≡ e)
unfolding ahead_parts
ending_is e n end (Some m) same = let parts = some_pair_parts m n e end (ap ahead_parts same) in (ap Some parts.0, sym parts.1)
ending_is e n end None same = clash (cc)

module _ (text : List ℕ) (at n end : ℕ) where
  stands : (meaning : List ℕ → Option ℕ) (bytes : List ℕ) → all_decimal bytes ≡ true → drop at text ≡ bytes ++ drop (length bytes) (drop at text)
      → ending_at (at + length bytes) (meaning bytes) ≡ ahead n end → Stands text at meaning n end
  stands meaning bytes decimal split e =
      let is = ending_is (at + length bytes) n end (meaning bytes) e in
      record {
        bytes = bytes;
        decimal = decimal;
        there = split ∙ ap (λ (l : List ℕ). bytes ++ l) (drop-drop (length bytes) at text);
        ends = is.1;
        is = is.0;
      }

  pub number_stands : (digits most : ℕ) → number_from digits most text at ≡ ahead n end → Stands text at (number_in digits most) n end
  unfolding number_from
  number_stands digits most e = stands (number_in digits most) (front_digits (drop at text)) (digits_bytes (drop at text)) (digits_split (drop at text)) e

  pub decimal_stands : decimal_from text at ≡ ahead n end → Stands text at decimal_in n end
  unfolding decimal_from
  decimal_stands e = stands decimal_in (front_decimal (drop at text)) (decimal_front_bytes (drop at text)) (decimal_front_split (drop at text)) e
