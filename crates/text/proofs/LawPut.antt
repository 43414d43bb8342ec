-- A record laid field by field: what is still to be laid, laid where it begins, makes what all of it makes.
use Prim.Native.Nat.{ℕ, ◌+◌, ◌*◌, ◌≤◌, ◌<◌}
use mathlib.Core.Path.{◌≡◌, refl, sym, ap, ◌∙◌}
use mathlib.Core.Bool.{◌&&◌}
use mathlib.Core.List.{List, [], ◌∷◌, ◌++◌}
use native.Mathlib.Numerals.{add-one}
use native.Mathlib.Omega.{arith}
use lib.Dec.{leb, ltb, eqb}
use lib.ListN.{length, drop, get_or, drop_of_length-le, length-append}
use lib.Seq.{drop-cons}
use borrow.Author.Tests.{eqb-true, eqb-false}
use Rattle.std.specs.Ordering.{nat_cmp, is_le, is_lt}
use Rattle.std.proofs.lemmas.Bool.Decides.{nat_tests}
use Rattle.search.proofs.LawTest.{either_way}
use Rattle.numerals.specs.Laid.{laid, Lays, Puts}
use Rattle.numerals.specs.Numeral.{most_decimal}
use Rattle.numerals.proofs.LawLaid.{laid_more, laid_none, length_laid}
use Rattle.text.specs.Written.{most_field, most_record, separator, record_text}
use Rattle.text.specs.Inner.{field_text, separator_text, texts_from}

-- whether the field is one of those with places
is_upto : (a b : ℕ) → is_le (nat_cmp a b) ≡ leb a b
is_upto a b = grind (arith, nat_tests)

is_below : (a b : ℕ) → is_lt (nat_cmp a b) ≡ ltb a b
is_below a b = grind (arith, nat_tests)

pub in_range : (from until j : ℕ) → (is_le (nat_cmp from j) && is_lt (nat_cmp j until)) ≡ (leb from j && ltb j until)
in_range from until j = rw (is_upto from j, is_below j until) refl

-- ---- a record

-- the separator behind field j: behind the last one the record's end
separated : (from until j : ℕ) (numbers : List ℕ) → j < length numbers
    → separator (texts_from from until (j + 1) (drop (j + 1) numbers)) ≡ separator_text (eqb (j + 1) (length numbers))
unfolding texts_from
separated from until j numbers l =
    either_way (eqb (j + 1) (length numbers))
    (λ e.
    let last : j + 1 ≡ length numbers = eqb-true (j + 1) (length numbers) e in
    rw (e, drop_of_length-le numbers {i = j + 1} (omega (arith, last))) refl)
    (λ e.
    let other = eqb-false (j + 1) (length numbers) e in
    rw (e, drop-cons numbers (j + 1) 0 (omega (arith, l, other))) refl)

module _ (text : List ℕ) (at : ℕ) (numbers : List ℕ) (from until : ℕ) where
  abbrev whole : List ℕ
  whole = record_text (texts_from from until 0 numbers)

  abbrev still : (j : ℕ) → List ℕ
  still j = record_text (texts_from from until j (drop j numbers))

  -- j fields are laid, up to `next`
  pub record FieldsSoFar (text' : List ℕ) (next j : ℕ) : Type 0 where
    pub within : j ≤ length numbers
    pub near : next ≤ at + most_field * j
    pub rest : laid next (still j) text' ≡ laid at whole text
    pub ends : next + length (still j) ≡ at + length whole

  pub fields_start : FieldsSoFar text at 0
  fields_start = record { within = omega arith; near = omega arith; rest = refl; ends = refl }

  module _ (text' : List ℕ) (next j : ℕ) (so_far : FieldsSoFar text' next j) where
    pub fields_size : length text' ≡ length text
    fields_size = sym (length_laid next (still j) text') ∙ ap length so_far.rest ∙ length_laid at whole text

    pub fields_done : length numbers ≤ j → Puts whole (most_record (length numbers)) at text next text'
    unfolding texts_from record_text
    fields_done l =
        let none : drop j numbers ≡ [] = drop_of_length-le numbers {i = j} l in
        let all : laid next [] text' ≡ laid at whole text = rw none at so_far.rest in
        let end : next + 0 ≡ at + length whole = rw none at so_far.ends in
        record {
          ends = omega (arith, end);
          few = omega (arith, end, so_far.near, so_far.within);
          holds = laid_none next text' ∙ all;
        }

    module _ (more : j < length numbers) (r : ℕ) (text₁ : List ℕ)
        (field : Lays (field_text (get_or numbers j 0) (leb from j && ltb j until)) most_decimal next text' r text₁) (q : ℕ) (text₂ : List ℕ)
        (mark : Lays (separator_text (eqb (j + 1) (length numbers))) 2 (next + r) text₁ q text₂) where
      abbrev one : List ℕ
      one = field_text (get_or numbers j 0) (leb from j && ltb j until)

      abbrev sign : List ℕ
      sign = separator_text (eqb (j + 1) (length numbers))

      opened : still j ≡ one ++ (sign ++ still (j + 1))
      unfolding texts_from record_text
      opened =
          let here : drop j numbers ≡ get_or numbers j 0 ∷ drop (j + 1) numbers = drop-cons numbers j 0 more ∙ rw (add-one j) refl in
          rw (here, separated from until j numbers more) refl

      -- what is left, behind the separator and then behind the field
      second : laid (next + r + q) (still (j + 1)) text₂ ≡ laid (next + r) (sign ++ still (j + 1)) text₁
      second = rw (mark.holds, mark.counts) (laid_more (next + r) sign (still (j + 1)) text₁)

      first : laid (next + r) (sign ++ still (j + 1)) text₁ ≡ laid next (one ++ (sign ++ still (j + 1))) text'
      first = rw (field.holds, field.counts) (laid_more next one (sign ++ still (j + 1)) text')

      pub fields_step : FieldsSoFar text₂ (next + r + q) (j + 1)
      fields_step =
          let size : length (still j) ≡ r + (q + length (still (j + 1))) =
          ap length opened ∙ rw (length-append, length-append, field.counts, mark.counts) refl in
          record {
            within = omega (arith, more);
            near = omega (arith, so_far.near, field.few, mark.few);
            rest = second ∙ first ∙ rw opened at so_far.rest;
            ends = omega (arith, so_far.ends, size);
          }
