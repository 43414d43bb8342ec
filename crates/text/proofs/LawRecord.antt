-- A record that is written is read again: its fields are numerals, which need no quotes and are short. Assumes nothing.
use Prim.Native.Nat.{ℕ, zero, suc, ◌/◌, ◌≤◌, ◌<◌}
use mathlib.Core.Path.{◌≡◌, refl, ap, ◌∙◌}
use mathlib.Core.Bool.{true, false}
use mathlib.Core.List.{List, [], ◌∷◌, ◌++◌, map, append_assoc}
use native.Mathlib.Omega.{arith}
use lib.ListN.{length, length-append}
use borrow.Author.Tests.{eqb-true, ne_eqb}
use Rattle.search.specs.Test.{every}
use Rattle.search.proofs.LawTest.{either_way, and_left, and_right}
use Rattle.numerals.specs.Numeral.{point, most_decimal, thousand, numeral, decimal_numeral}
use Rattle.numerals.specs.Typed.{is_digit}
use Rattle.numerals.specs.Inner.{digit_or_point, all_decimal}
use Rattle.numerals.proofs.LawTyped.{digit_low}
use Rattle.numerals.proofs.LawBack.{numeral_bytes, decimal_bytes, numeral_few}
use Rattle.records.specs.Records.{comma, quote, carriage_return, line_feed, record_in, pieces, ended, records_of}
use Rattle.records.specs.Inner.{is_plain, all_plain}
use Rattle.records.proofs.LawWhole.{field_before_comma, field_before_line_end}
use Rattle.text.specs.Written.{record_end, separator, record_text, most_record, reading_texts}

-- ---- a numeral as a field

decimal_byte : (b : ℕ) → digit_or_point b ≡ true → is_plain b ≡ true
unfolding is_plain every
decimal_byte b h =
    either_way (is_digit b)
    (λ d.
    let low = digit_low b d in
    rw
    (ne_eqb b comma (λ e. omega arith), ne_eqb b quote (λ e. omega arith), ne_eqb b carriage_return (λ e. omega arith), ne_eqb b line_feed (λ e. omega arith)))
    (λ d. let is : b ≡ point = eqb-true b point (rw d at h) in rw is)

pub decimal_plain : (bytes : List ℕ) → all_decimal bytes ≡ true → all_plain bytes ≡ true
unfolding all_decimal all_plain
decimal_plain [] h = refl
decimal_plain (b ∷ bytes) h =
    rw (decimal_byte b (and_left (digit_or_point b) (all_decimal bytes) h)) (decimal_plain bytes (and_right (digit_or_point b) (all_decimal bytes) h))

-- what is said of a field that is written
pub record WrittenField (field : List ℕ) : Type 0 where
  pub plain : all_plain field ≡ true
  pub short : length field ≤ most_decimal

abbrev pub WrittenFields : (fields : List (List ℕ)) → Type 0
WrittenFields [] = Unit
WrittenFields (field ∷ fields) = WrittenField field × WrittenFields fields

pub written_numeral : (n : ℕ) → WrittenField (numeral n)
written_numeral n = record { plain = decimal_plain (numeral n) (numeral_bytes n); short = omega (arith, numeral_few n) }

pub written_decimal : (t : ℕ) → WrittenField (decimal_numeral t)
unfolding decimal_numeral
written_decimal t =
    record {
      plain = decimal_plain (decimal_numeral t) (decimal_bytes t);
      short = rw length-append (omega (arith, numeral_few (t / thousand)));
    }

-- ---- a record

-- the text is cut at the record's end, however it goes on
record_pieces : (field : List ℕ) (fields : List (List ℕ)) (rest : List ℕ) → WrittenFields (field ∷ fields)
    → pieces false (record_text (field ∷ fields) ++ rest)
    ≡ record { field = field; fields = fields; records = record_in (pieces false rest) ∷ (pieces false rest).records }
unfolding record_text
record_pieces field [] rest w = rw append_assoc (field_before_line_end field rest w.0.plain)
record_pieces field (next ∷ fields) rest w =
    rw append_assoc (field_before_comma field (record_text (next ∷ fields) ++ rest) w.0.plain ∙ rw (record_pieces next fields rest w.1))

pub record_first : (fields : List (List ℕ)) (rest : List ℕ) → 0 < length fields → WrittenFields fields
    → records_of (record_text fields ++ rest) ≡ fields ∷ records_of rest
unfolding records_of ended
record_first [] rest some w = absurd (omega arith)
record_first (field ∷ fields) rest some w = rw (record_pieces field fields rest w)

-- ---- its length

separator_short : (others : List (List ℕ)) → length (separator others) ≤ length record_end
separator_short [] = omega arith
separator_short (field ∷ others) = omega arith

pub record_short : (fields : List (List ℕ)) → WrittenFields fields → length (record_text fields) ≤ most_record (length fields)
unfolding record_text
record_short [] w = omega arith
record_short (field ∷ fields) w =
    rw (length-append, length-append)
    (omega (arith, w.0.short, separator_short fields, record_short fields w.1))

-- ---- the fields of a sheet's records

pub written_numerals : (ns : List ℕ) (others : List (List ℕ)) → WrittenFields others → WrittenFields (map numeral ns ++ others)
written_numerals [] others w = w
written_numerals (n ∷ ns) others w = (written_numeral n, written_numerals ns others w)

pub written_readings : (n : ℕ) (ts : List ℕ) → WrittenFields (reading_texts n ts)
unfolding reading_texts
written_readings zero ts = tt
written_readings (suc n) [] = (written_numeral 0, written_readings n [])
written_readings (suc n) (t ∷ ts) = (written_decimal t, written_readings n ts)

pub written_both : (fields others : List (List ℕ)) → WrittenFields fields → WrittenFields others → WrittenFields (fields ++ others)
written_both [] others w v = v
written_both (field ∷ fields) others w v = (w.0, written_both fields others w.1 v)

pub readings_count : (n : ℕ) (ts : List ℕ) → length (reading_texts n ts) ≡ n
unfolding reading_texts
readings_count zero ts = refl
readings_count (suc n) [] = ap suc (readings_count n [])
readings_count (suc n) (t ∷ ts) = ap suc (readings_count n ts)
