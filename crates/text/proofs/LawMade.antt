-- Every sheet that is read from a text is right: what a field takes has room in the binary sheet, and a right sheet allows it.
use Prim.Native.Nat.{ℕ, zero, suc, ◌-◌, ◌≤◌, ◌<◌}
use mathlib.Core.Path.{◌≡◌, refl, ◌∙◌}
use mathlib.Core.Bool.{true}
use mathlib.Core.List.{List, [], ◌∷◌}
use Rattle.std.specs.Prelude.{Option, None, Some}
use native.Mathlib.Omega.{arith}
use lib.Dec.{leb}
use lib.ListN.{length, drop, get_or, replicate, get_or-replicate, get_or-append}
use borrow.Author.Tests.{leb-true, ne_eqb}
use Rattle.search.proofs.LawTest.{either_way, clash, and_left, and_right}
use Rattle.headers.specs.House.{most_bytes}
use Rattle.headers.specs.Sheet.{most_lines}
use Rattle.numerals.specs.Numeral.{most_digits}
use Rattle.numerals.proofs.LawTyped.{number_most}
use Rattle.records.specs.Records.{content_of, records_of}
use Rattle.desk.specs.Sheet.{sheet_ok}
use Rattle.text.specs.Typed.{a_reading, a_code, header_fields, line_fields, needed_fields, field_number, followed, left_off, numbers_in, header_in, line_in}
use Rattle.text.specs.Typed.{before, lines_in}
use Rattle.text.specs.Typed.{TypedSheet, none_zero, few_lines, sheet_typed, sheet_in, typed_sheet}
use Rattle.text.specs.Binary.{binary_sheet, sheet_size}
use Rattle.text.specs.Convert.{Gives}
use Rattle.text.specs.Read.{binary_of, sheet_of_text}
use Rattle.text.proofs.LawBinary.{LineFits, NumbersFit, binary_size, binary_right}

-- ---- a record

followed_both : {P : Type 0} (first : Option ℕ) (others : Option (List ℕ)) (numbers : List ℕ) → followed first others ≡ Some numbers
    → ((n : ℕ) (rest : List ℕ) → first ≡ Some n → others ≡ Some rest → n ∷ rest ≡ numbers → P) → P
followed_both None others numbers h go = clash (cc)
followed_both (Some n) None numbers h go = clash (cc)
followed_both (Some n) (Some rest) numbers h go = go n rest refl refl (cc)

left_off_both : {P : Type 0} (needed : ℕ) (others : Option (List ℕ)) (numbers : List ℕ) → left_off needed others ≡ Some numbers
    → ((rest : List ℕ) → others ≡ Some rest → 0 ∷ rest ≡ numbers → P) → P
left_off_both zero None numbers h go = clash (cc)
left_off_both zero (Some rest) numbers h go = go rest refl (cc)
left_off_both (suc needed) others numbers h go = clash (cc)

pub numbers_size : (needed : ℕ) (takes : List ℕ) (fields : List (List ℕ)) (numbers : List ℕ) → numbers_in needed takes fields ≡ Some numbers
    → length numbers ≡ length takes
unfolding numbers_in
numbers_size needed [] [] numbers h = let same : [] ≡ numbers = cc in rw (← same)
numbers_size needed [] (field ∷ fields) numbers h = clash (cc)
numbers_size needed (t ∷ takes) [] numbers h =
    left_off_both needed (numbers_in (needed - 1) takes []) numbers h (λ rest others same. rw (← same, numbers_size (needed - 1) takes [] rest others))
numbers_size needed (t ∷ takes) (field ∷ fields) numbers h =
    followed_both (field_number t field) (numbers_in (needed - 1) takes fields) numbers h
    (λ n rest is others same. rw (← same, numbers_size (needed - 1) takes fields rest others))

field_most : (takes n : ℕ) (field : List ℕ) → field_number takes field ≡ Some n → (takes ≡ a_reading → ⊥) → n ≤ takes
unfolding field_number
field_most takes n field h whole = number_most most_digits takes (content_of field) n (rw (ne_eqb takes a_reading whole) at h)

-- a whole number is at most what its field takes
pub numbers_most : (needed : ℕ) (takes : List ℕ) (fields : List (List ℕ)) (numbers : List ℕ) → numbers_in needed takes fields ≡ Some numbers
    → (j : ℕ) → (get_or takes j 0 ≡ a_reading → ⊥) → get_or numbers j 0 ≤ get_or takes j 0
unfolding numbers_in
numbers_most needed [] fields numbers h j whole = absurd (whole refl)
numbers_most needed (t ∷ takes) [] numbers h zero whole =
    left_off_both needed (numbers_in (needed - 1) takes []) numbers h (λ rest others same. rw (← same) (omega arith))
numbers_most needed (t ∷ takes) [] numbers h (suc j) whole =
    left_off_both needed (numbers_in (needed - 1) takes []) numbers h
    (λ rest others same. rw (← same) (numbers_most (needed - 1) takes [] rest others j whole))
numbers_most needed (t ∷ takes) (field ∷ fields) numbers h zero whole =
    followed_both (field_number t field) (numbers_in (needed - 1) takes fields) numbers h
    (λ n rest is others same. rw (← same) (field_most t n field is whole))
numbers_most needed (t ∷ takes) (field ∷ fields) numbers h (suc j) whole =
    followed_both (field_number t field) (numbers_in (needed - 1) takes fields) numbers h
    (λ n rest is others same. rw (← same) (numbers_most (needed - 1) takes fields rest others j whole))

-- ---- a line

code_taken : (j : ℕ) → j < 7 → get_or line_fields j 0 ≡ a_code
code_taken j h =
    get_or-append (replicate 7 a_code) (drop 7 line_fields) 0 j h ∙ get_or-replicate 7 j a_code 0 h

line_fits : (fields : List (List ℕ)) (line : List ℕ) → line_in fields ≡ Some line → LineFits line
line_fits fields line h =
    let most = numbers_most needed_fields line_fields fields line h in
    record {
      codes = λ j l. let takes = code_taken j l in omega (arith, most j (λ z. omega arith));
      kind = most 7 (λ z. omega arith);
      product = omega (arith, most 8 (λ z. omega arith));
      material = omega (arith, most 9 (λ z. omega arith));
      crushing = omega (arith, most 13 (λ z. omega arith));
      tapping = omega (arith, most 14 (λ z. omega arith));
      spill = omega (arith, most 15 (λ z. omega arith));
    }

before_both : {P : Type 0} (line : Option (List ℕ)) (others : Option (List (List ℕ))) (all : List (List ℕ)) → before line others ≡ Some all
    → ((numbers : List ℕ) (rest : List (List ℕ)) → line ≡ Some numbers → others ≡ Some rest → numbers ∷ rest ≡ all → P) → P
before_both None others all h go = clash (cc)
before_both (Some numbers) None all h go = clash (cc)
before_both (Some numbers) (Some rest) all h go = go numbers rest refl refl (cc)

lines_fit : (records : List (List (List ℕ))) (lines : List (List ℕ)) → lines_in records ≡ Some lines
    → (i : ℕ) → i < length lines → LineFits (get_or lines i [])
unfolding lines_in
lines_fit [] lines h i l = let same : [] ≡ lines = cc in let none : length lines ≡ 0 = rw (← same) in absurd (omega arith)
lines_fit (fields ∷ records) lines h zero l =
    before_both (line_in fields) (lines_in records) lines h (λ line rest is others same. rw (← same) (line_fits fields line is))
lines_fit (fields ∷ records) lines h (suc i) l =
    before_both (line_in fields) (lines_in records) lines h
    (λ line rest is others same.
    let size : length lines ≡ suc (length rest) = rw (← same) in
    rw (← same) (lines_fit records rest others i (omega arith)))

few_lines_lem : (found : Option (List (List ℕ))) (lines : List (List ℕ)) → few_lines found ≡ Some lines → (found ≡ Some lines) × (length lines ≤ most_lines)
few_lines_lem None lines h = clash (cc)
few_lines_lem (Some all) lines h =
    either_way (leb (length all) most_lines)
    (λ t.
    let kept : Some all ≡ Some lines = rw t at h in
    let same : all ≡ lines = cc in
    (kept, rw (← same) (leb-true (length all) most_lines t)))
    (λ t. let dropped : None ≡ Some lines = rw t at h in clash (cc))

-- ---- the sheet

none_zero_lem : (numbers : List ℕ) → none_zero numbers ≡ true → (j : ℕ) → j < length numbers → 1 ≤ get_or numbers j 0
none_zero_lem [] h j l = absurd (omega arith)
none_zero_lem (n ∷ numbers) h zero l = leb-true 1 n (and_left (leb 1 n) (none_zero numbers) h)
none_zero_lem (n ∷ numbers) h (suc j) l = none_zero_lem numbers (and_right (leb 1 n) (none_zero numbers) h) j (omega arith)

module _ (fields : List (List ℕ)) (records : List (List (List ℕ))) (header : List ℕ) (lines : List (List ℕ))
    (first : header_in fields ≡ Some header) (others : few_lines (lines_in records) ≡ Some lines) (some-each : none_zero header ≡ true) where
  records_fit : NumbersFit (record { header = header; lines = lines })
  records_fit =
      let size : length header ≡ 3 = numbers_size 3 header_fields fields header first in
      let all = few_lines_lem (lines_in records) lines others in
      record {
        medium_some = none_zero_lem header some-each 0 (omega arith);
        medium = numbers_most 3 header_fields fields header first 0 (λ z. omega arith);
        pollutant_some = none_zero_lem header some-each 1 (omega arith);
        pollutant = omega (arith, numbers_most 3 header_fields fields header first 1 (λ z. omega arith));
        unit_some = none_zero_lem header some-each 2 (omega arith);
        unit = numbers_most 3 header_fields fields header first 2 (λ z. omega arith);
        few = all.1;
        each = lines_fit records lines all.0;
      }

records_typed : (records : List (List (List ℕ))) (sheet : TypedSheet) → sheet_in records ≡ Some sheet → NumbersFit sheet
records_typed [] sheet h = clash (cc)
records_typed (fields ∷ records) sheet h = go (header_in fields) refl (few_lines (lines_in records)) refl h
  where
    go : (header : Option (List ℕ)) → header_in fields ≡ header → (lines : Option (List (List ℕ))) → few_lines (lines_in records) ≡ lines
        → sheet_typed header lines ≡ Some sheet → NumbersFit sheet
    go None e lines d h = clash (cc)
    go (Some header) e None d h = clash (cc)
    go (Some header) e (Some lines) d h =
        either_way (none_zero header)
        (λ t.
        let kept : Some (record { header = header; lines = lines }) ≡ Some sheet = rw t at h in
        let same : record { header = header; lines = lines } ≡ sheet = cc in
        rw (← same) (records_fit fields records header lines e d t))
        (λ t. let dropped : None ≡ Some sheet = rw t at h in clash (cc))

pub typed_fits : (text : List ℕ) (sheet : TypedSheet) → typed_sheet text ≡ Some sheet → NumbersFit sheet
unfolding typed_sheet
typed_fits text sheet h =
    either_way (leb (length text) most_bytes)
    (λ t. records_typed (records_of text) sheet (rw t at h))
    (λ t. let dropped : None ≡ Some sheet = rw t at h in clash (cc))

-- ---- what is read from a text

pub made_typed : (text s : List ℕ) → sheet_of_text text ≡ Gives s → (sheet : TypedSheet) × ((typed_sheet text ≡ Some sheet) × (binary_sheet sheet ≡ s))
unfolding sheet_of_text
made_typed text s h = go (typed_sheet text) refl h
  where
    go : (typed : Option TypedSheet) → typed_sheet text ≡ typed → binary_of typed ≡ Gives s
        → (sheet : TypedSheet) × ((typed_sheet text ≡ Some sheet) × (binary_sheet sheet ≡ s))
    go None e h = clash (cc)
    go (Some sheet) e h = (sheet, (e, cc))

module _ (text s : List ℕ) (made : sheet_of_text text ≡ Gives s) where
  -- the desk never refuses it with 2
  pub made_right : sheet_ok s ≡ true
  made_right =
      let typed = made_typed text s made in
      rw (← typed.1.1) (binary_right typed.0 (typed_fits text typed.0 typed.1.0))

  pub made_size : length s ≤ sheet_size most_lines
  made_size =
      let typed = made_typed text s made in
      let few = (typed_fits text typed.0 typed.1.0).few in
      rw (← typed.1.1, binary_size typed.0) (omega arith)
