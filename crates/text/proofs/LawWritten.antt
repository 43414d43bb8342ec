-- What is written of a header or a line is read again as its numbers, field by field. Assumes nothing.
use Rattle.std.specs.Prelude.{Ok, Result}
use Prim.Native.Nat.{ℕ, zero, suc, ◌*◌, ◌-◌, ◌^◌, ◌≤◌, ◌<◌}
use mathlib.Core.Path.{◌≡◌, refl}
use mathlib.Core.List.{List, [], ◌∷◌, ◌++◌, map}
use Rattle.std.specs.Prelude.{Some}
use native.Mathlib.Nat.{le_refl}
use native.Mathlib.Omega.{arith}
use lib.Dec.{T, leb, ltb, eqb, leb→le, ltb→lt, lit<}
use lib.Ieee.{Float}
use lib.ListN.{get_or, replicate}
use borrow.Author.Tests.{ne_eqb}
use Rattle.search.proofs.LawTest.{either_way}
use Rattle.amounts.specs.Reading.{parts_per_unit, taken_of}
use Rattle.amounts.specs.declared.reading.ReadingFault.{ReadingFault}
use Rattle.amounts.proofs.LawReading.{taken_most}
use Rattle.shares.specs.Share.{most_hours, most_kilowatts, most_kilowatt_hours}
use Rattle.shares.specs.declared.share.Reading.{Reading}
use Rattle.shares.specs.declared.share.Reading.TheVariants.{None as NoReading, Hours, Energy, Throughout}
use Rattle.numerals.specs.Numeral.{most_digits, numeral, decimal_numeral}
use Rattle.numerals.proofs.LawBack.{number_back, decimal_back, zero_decimal}
use Rattle.records.proofs.LawWhole.{plain_content}
use Rattle.desk.specs.declared.line.Line.{Line}
use Rattle.text.specs.Typed.{a_reading, a_code, a_kind, an_amount, a_grade, header_fields, needed_fields, field_number, numbers_in, header_in, line_in}
use Rattle.text.specs.Written.{readings_of, used_of, all_taken, reading_texts, grade_texts, line_texts, header_texts}
use Rattle.text.specs.Inner.{padded, line_numbers, whole_numbers, grade_numbers, header_numbers}
use Rattle.text.proofs.LawRecord.{written_numeral, written_decimal}
use Rattle.text.proofs.LawUsed.{taken_first}

-- ---- one field

-- the field takes whole numbers, and this one
pub record FieldFits (takes n : ℕ) : Type 0 where
  pub whole : 1 ≤ takes
  pub within : n ≤ takes
  pub few : takes < 10 ^ most_digits

-- of a field that is known these are computed
pub field_fits : (takes n : ℕ) → T (leb 1 takes) → T (ltb takes (10 ^ most_digits)) → n ≤ takes → FieldFits takes n
field_fits takes n w f h = record { whole = leb→le 1 takes w; within = h; few = ltb→lt takes (10 ^ most_digits) f }

pub numeral_again : (takes n : ℕ) → FieldFits takes n → field_number takes (numeral n) ≡ Some n
unfolding field_number
numeral_again takes n f =
    let other : takes ≡ a_reading → ⊥ = λ e. omega arith in
    let fits : n < 10 ^ most_digits = omega arith in
    rw (ne_eqb takes a_reading other, plain_content (numeral n) (written_numeral n).plain) (number_back most_digits takes n f.within fits (le_refl most_digits))

decimal_again : (t : ℕ) → t < 10 ^ 14 → field_number a_reading (decimal_numeral t) ≡ Some t
unfolding field_number
decimal_again t h = rw (plain_content (decimal_numeral t) (written_decimal t).plain) (decimal_back t h)

unused_again : field_number a_reading (numeral 0) ≡ Some 0
unfolding field_number
unused_again = rw (plain_content (numeral 0) (written_numeral 0).plain) zero_decimal

-- ---- the fields of a record

infixr 5 ◌and◌
pub data FieldsFit : (takes ns : List ℕ) → Type 0 where
  done : FieldsFit [] []
  ◌and◌ : {takes n : ℕ} {others ns : List ℕ} → FieldFits takes n → FieldsFit others ns → FieldsFit (takes ∷ others) (n ∷ ns)

-- whole numbers, and then what follows them
numerals_again : (takes ns others : List ℕ) (texts : List (List ℕ)) (numbers : List ℕ) → FieldsFit takes ns
    → ((needed : ℕ) → numbers_in needed others texts ≡ Some numbers)
    → (needed : ℕ) → numbers_in needed (takes ++ others) (map numeral ns ++ texts) ≡ Some (ns ++ numbers)
unfolding numbers_in
numerals_again [] [] others texts numbers done e needed = e needed
numerals_again [] (n ∷ ns) others texts numbers fits e needed = elim fits [ ]
numerals_again (t ∷ takes) [] others texts numbers fits e needed = elim fits [ ]
numerals_again (t ∷ takes) (n ∷ ns) others texts numbers (f and fs) e needed =
    rw (numeral_again t n f, numerals_again takes ns others texts numbers fs e (needed - 1))

-- each of these can be typed as a reading
abbrev pub Typable : (thousandths : List ℕ) → Type 0
Typable ts = (j : ℕ) → get_or ts j 0 < 10 ^ 14

module _ (others : List ℕ) (texts : List (List ℕ)) (numbers : List ℕ) (e : (needed : ℕ) → numbers_in needed others texts ≡ Some numbers) where
  readings_again : (n : ℕ) (ts : List ℕ) → Typable ts
      → (needed : ℕ) → numbers_in needed (replicate n a_reading ++ others) (reading_texts n ts ++ texts) ≡ Some (padded n ts ++ numbers)
  unfolding numbers_in reading_texts padded
  readings_again zero ts h needed = e needed
  readings_again (suc n) [] h needed = rw (unused_again, readings_again n [] h (needed - 1))
  readings_again (suc n) (t ∷ ts) h needed = rw (decimal_again t (h 0), readings_again n ts (λ j. h (suc j)) (needed - 1))

-- a line's whole numbers; its readings follow them
abbrev pub whole_fields : List ℕ
whole_fields = a_code ∷ a_code ∷ a_code ∷ a_code ∷ a_code ∷ a_code ∷ a_code ∷ a_kind ∷ an_amount ∷ an_amount ∷ []

-- and these its grades
abbrev pub grade_fields : List ℕ
grade_fields = a_grade ∷ a_grade ∷ a_grade ∷ []

nothing_again : (needed : ℕ) → numbers_in needed [] [] ≡ Some []
unfolding numbers_in
nothing_again needed = refl

pub line_again : (line : Line) (ts : List ℕ) → FieldsFit whole_fields (whole_numbers line) → FieldsFit grade_fields (grade_numbers line.grades) → Typable ts
    → line_in (line_texts line ts) ≡ Some (line_numbers line ts)
unfolding line_texts line_numbers
line_again line ts f g h =
    let graded = grade_numbers line.grades in
    let grades = numerals_again grade_fields graded [] [] [] g nothing_again in
    let readings = readings_again grade_fields (grade_texts line.grades) graded grades 3 ts h in
    numerals_again whole_fields (whole_numbers line) (replicate 3 a_reading ++ grade_fields) (reading_texts 3 ts ++ grade_texts line.grades) (padded 3 ts ++ graded) f readings
    needed_fields

pub header_again : (s : List ℕ) → FieldsFit header_fields (header_numbers s) → header_in (header_texts s) ≡ Some (header_numbers s)
header_again s f = numerals_again header_fields (header_numbers s) [] [] [] f nothing_again 3

-- ---- what a line uses

abbrev AllTypable : List (Result ℕ ReadingFault) → Type 0
AllTypable [] = Unit
AllTypable (r ∷ readings) = ((t : ℕ) → r ≡ Ok t → t < 10 ^ 14) × AllTypable readings

typable_more : (t : ℕ) (ts : List ℕ) → t < 10 ^ 14 → Typable ts → Typable (t ∷ ts)
typable_more t ts low others zero = low
typable_more t ts low others (suc j) = others j

taken_typable : (readings : List (Result ℕ ReadingFault)) (ts : List ℕ) → AllTypable readings → all_taken readings ≡ Some ts → Typable ts
unfolding all_taken
taken_typable [] ts a e = let is : ts ≡ [] = cc in λ j. rw is (omega arith)
taken_typable (first ∷ readings) ts a e =
    taken_first first readings ts e (λ t us is rest all. rw (← all) (typable_more t us (a.0 t is) (taken_typable readings us a.1 rest)))

-- every limit is far below what can be typed
limit_typable : (most : ℕ) → parts_per_unit * most < 10 ^ 14 → (x : Float) (t : ℕ) → taken_of parts_per_unit most x ≡ Ok t → t < 10 ^ 14
limit_typable most low x t e = omega (arith, taken_most parts_per_unit most t x e)

hours_typable : (x : Float) (t : ℕ) → taken_of parts_per_unit most_hours x ≡ Ok t → t < 10 ^ 14
hours_typable = limit_typable most_hours (lit< tt)

readings_typable : (reading : Reading) → AllTypable (readings_of reading)
readings_typable NoReading = tt
readings_typable (Hours run production) = (hours_typable run, (hours_typable production, tt))
readings_typable (Energy e) =
    (limit_typable most_kilowatt_hours (lit< tt) e.kwh, (limit_typable most_kilowatts (lit< tt) e.kw, (hours_typable e.hours, tt)))
readings_typable Throughout = tt

pub used_typable : (line : Line) (ts : List ℕ) → all_taken (used_of line) ≡ Some ts → Typable ts
used_typable line ts =
    taken_typable (used_of line) ts (either_way (eqb line.technique 0) (λ e. rw e tt) (λ e. rw e (readings_typable line.reading)))
