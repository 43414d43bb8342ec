-- The reader takes everything that the writer writes, as the numbers of the sheet. Assumes nothing.
use Prim.Native.Nat.{ℕ, zero, suc, ◌+◌, ◌*◌, ◌≤◌}
use mathlib.Core.Path.{◌≡◌, refl, ap, ◌∙◌}
use mathlib.Core.Bool.{true}
use mathlib.Core.List.{List, [], ◌∷◌, ◌++◌}
use Rattle.std.specs.Prelude.{Option, None, Some}
use native.Mathlib.Omega.{arith}
use lib.Dec.{lit≤}
use lib.ListN.{length, length-append}
use borrow.Author.Tests.{le-leb, leb-true, not-true, eqb-false}
use Rattle.little.specs.Read.{byte_at, u16_at, u64_at, AreBytes}
use Rattle.little.proofs.LawRead.{u16_below, u64_below}
use Rattle.search.proofs.LawTest.{either_way, clash, and_left, and_right, every_at}
use Rattle.headers.specs.House.{most_bytes, file_ok}
use Rattle.headers.specs.Sheet.{sheet_header, sheet_header_size, sheet_fits, sheet_header_ok, line_count, most_lines}
use Rattle.shares.specs.declared.share.Reading.{Reading}
use Rattle.shares.specs.declared.share.Reading.TheVariants.{None as NoReading, Hours, Energy, Throughout}
use Rattle.answers.specs.declared.answer.FileFault.TheVariants.{SheetMalformed}
use Rattle.answers.specs.declared.answer.Refusal.TheVariants.{File}
use Rattle.records.specs.Records.{records_of}
use Rattle.records.proofs.LawField.{no_records}
use Rattle.desk.specs.Key.{key_from}
use Rattle.desk.specs.Sheet.{line_start, lines_ok, sheet_ok}
use Rattle.desk.specs.Line.{line_of, reading_at, grades_at}
use Rattle.desk.specs.declared.line.Line.{Line}
use Rattle.desk.proofs.LawTable.{lines_few}
use Rattle.text.specs.Convert.{Made, Gives, Refuses}
use Rattle.text.specs.Typed.{a_code, an_amount, a_grade, header_fields, lines_in, none_zero, typed_sheet, line_width}
use Rattle.text.specs.Written.{record_text, most_record, most_sheet_text, kind_number, used_of, all_taken, line_texts, lines_from, header_texts}
use Rattle.text.specs.Written.{reading_texts, grade_texts, in_front, with_line, lines_text, text_of_sheet}
use Rattle.text.specs.Inner.{lines_numbers, sheet_numbers, whole_numbers, grade_numbers, header_numbers}
use Rattle.text.proofs.LawRecord.{WrittenFields, written_numerals, written_readings, written_both, readings_count, record_first, record_short}
use Rattle.text.proofs.LawWritten.{FieldFits, FieldsFit, done, ◌and◌, field_fits, whole_fields, grade_fields, line_again, header_again, used_typable}

-- ---- what was given

-- bytes stand in front of what the others give
pub record Fronted (bytes : List ℕ) (others : Made) (w : List ℕ) : Type 0 where
  pub rest : List ℕ
  pub gives : others ≡ Gives rest
  pub all : w ≡ bytes ++ rest

fronted : (bytes w : List ℕ) (others : Made) → in_front bytes others ≡ Gives w → Fronted bytes others w
fronted bytes w (Gives rest) e = record { rest = rest; gives = refl; all = cc }
fronted bytes w (Refuses refusal) e = clash (cc)

pub record LineGiven (line : Line) (others : Made) (w : List ℕ) : Type 0 where
  pub thousandths : List ℕ
  pub taken : all_taken (used_of line) ≡ Some thousandths
  pub front : Fronted (record_text (line_texts line thousandths)) others w

pub line_given : (i : ℕ) (line : Line) (lines : List Line) (w : List ℕ) → lines_text i (line ∷ lines) ≡ Gives w → LineGiven line (lines_text (i + 1) lines) w
unfolding lines_text
line_given i line lines w e = go (all_taken (used_of line)) refl e
  where
    go : (o : Option (List ℕ)) → all_taken (used_of line) ≡ o → with_line i line o (lines_text (i + 1) lines) ≡ Gives w
        → LineGiven line (lines_text (i + 1) lines) w
    go None same is = clash (cc)
    go (Some ts) same is =
        record { thousandths = ts; taken = same; front = fronted (record_text (line_texts line ts)) w (lines_text (i + 1) lines) is }

no_lines_lem : (i : ℕ) (w : List ℕ) → lines_text i [] ≡ Gives w → w ≡ []
unfolding lines_text
no_lines_lem i w e = cc

pub record SheetGiven (s w : List ℕ) : Type 0 where
  pub right : sheet_ok s ≡ true
  pub front : Fronted (record_text (header_texts s)) (lines_text 0 (lines_from s 0 (line_count s))) w

pub sheet_given : (s w : List ℕ) → text_of_sheet s ≡ Gives w → SheetGiven s w
unfolding text_of_sheet
sheet_given s w e =
    either_way (sheet_ok s)
    (λ p. record { right = p; front = fronted (record_text (header_texts s)) w (lines_text 0 (lines_from s 0 (line_count s))) (rw p at e) })
    (λ p. let other : Refuses (File SheetMalformed) ≡ Gives w = rw p at e in clash (cc))

-- ---- its size

line_texts_lem : (line : Line) (ts : List ℕ) → WrittenFields (line_texts line ts)
unfolding line_texts
line_texts_lem line ts =
    let grades = grade_texts line.grades in
    written_numerals (whole_numbers line) (reading_texts 3 ts ++ grades)
    (written_both (reading_texts 3 ts) grades (written_readings 3 ts) (written_numerals (grade_numbers line.grades) [] tt))

all_fields : (line : Line) (ts : List ℕ) → length (line_texts line ts) ≡ line_width
unfolding line_texts
all_fields line ts = rw (length-append (reading_texts 3 ts) (grade_texts line.grades), readings_count 3 ts)

header_texts_lem : (s : List ℕ) → WrittenFields (header_texts s)
header_texts_lem s = written_numerals (header_numbers s) [] tt

lines_size : (s : List ℕ) (k i n : ℕ) (w : List ℕ) → lines_text k (lines_from s i n) ≡ Gives w → length w ≤ most_record line_width * n
unfolding lines_from
lines_size s k i zero w e = rw (no_lines_lem k w e) (omega arith)
lines_size s k i (suc n) w e =
    let g = line_given k (line_of s i) (lines_from s (suc i) n) w e in
    let own = record_short (line_texts (line_of s i) g.thousandths) (line_texts_lem (line_of s i) g.thousandths) in
    let more = lines_size s (k + 1) (suc i) n g.front.rest g.front.gives in
    rw (g.front.all, length-append) (omega (arith, rw (all_fields (line_of s i) g.thousandths) at own))

pub written_size : (s w : List ℕ) → text_of_sheet s ≡ Gives w → length w ≤ most_sheet_text
written_size s w e =
    let g = sheet_given s w e in
    let own = record_short (header_texts s) (header_texts_lem s) in
    let more = lines_size s 0 0 (line_count s) g.front.rest g.front.gives in
    rw (g.front.all, length-append) (omega (arith, lines_few s g.right))

-- ---- its lines

module _ (s : List ℕ) (bytes : AreBytes s) where
  code_fits : (at : ℕ) → FieldFits a_code (u16_at s at)
  code_fits at = field_fits a_code (u16_at s at) tt tt (omega (arith, u16_below s bytes at))

  amount_fits : (at : ℕ) → FieldFits an_amount (u64_at s at)
  amount_fits at = field_fits an_amount (u64_at s at) tt tt (omega (arith, u64_below s bytes at))

  grade_fits : (at : ℕ) → FieldFits a_grade (byte_at s at)
  grade_fits at = field_fits a_grade (byte_at s at) tt tt (omega (arith, bytes at))

kind_fits : (reading : Reading) → FieldFits 3 (kind_number reading)
kind_fits NoReading = field_fits 3 0 tt tt (lit≤ tt)
kind_fits (Hours run production) = field_fits 3 1 tt tt (lit≤ tt)
kind_fits (Energy e) = field_fits 3 2 tt tt (lit≤ tt)
kind_fits Throughout = field_fits 3 3 tt tt (lit≤ tt)

pub line_fits : (s : List ℕ) → AreBytes s → (i : ℕ) → FieldsFit whole_fields (whole_numbers (line_of s i))
unfolding line_of key_from
line_fits s bytes i =
    let at = line_start s i in
    code_fits s bytes at
    and code_fits s bytes (at + 2)
    and code_fits s bytes (at + 4)
    and code_fits s bytes (at + 6)
    and code_fits s bytes (at + 8)
    and code_fits s bytes (at + 10)
    and code_fits s bytes (at + 12)
    and kind_fits (reading_at s at)
    and amount_fits s bytes (at + 16)
    and amount_fits s bytes (at + 24)
    and done

grades_fit : (s : List ℕ) → AreBytes s → (i : ℕ) → FieldsFit grade_fields (grade_numbers (line_of s i).grades)
unfolding line_of grades_at
grades_fit s bytes i =
    let at = line_start s i in
    grade_fits s bytes (at + 56) and grade_fits s bytes (at + 57) and grade_fits s bytes (at + 58) and done

line_record : (line : Line) (ts rest : List ℕ) → records_of (record_text (line_texts line ts) ++ rest) ≡ line_texts line ts ∷ records_of rest
line_record line ts rest = record_first (line_texts line ts) rest (omega (arith, all_fields line ts)) (line_texts_lem line ts)

pub lines_again : (s : List ℕ) → AreBytes s → (k i n : ℕ) (w : List ℕ) → lines_text k (lines_from s i n) ≡ Gives w
    → lines_in (records_of w) ≡ Some (lines_numbers (lines_from s i n))
unfolding lines_from lines_in lines_numbers
lines_again s bytes k i zero w e = rw (no_lines_lem k w e, no_records)
lines_again s bytes k i (suc n) w e =
    let line = line_of s i in
    let g = line_given k line (lines_from s (suc i) n) w e in
    let ts = g.thousandths in
    let own = line_again line ts (line_fits s bytes i) (grades_fit s bytes i) (used_typable line ts g.taken) in
    let others = lines_again s bytes (k + 1) (suc i) n g.front.rest g.front.gives in
    rw (g.front.all, line_record line ts g.front.rest, own, others, g.taken)

pub lines_count : (s : List ℕ) (i n : ℕ) → length (lines_numbers (lines_from s i n)) ≡ n
unfolding lines_from lines_numbers
lines_count s i zero = refl
lines_count s i (suc n) = ap suc (lines_count s (suc i) n)

-- ---- its header

module _ (s : List ℕ) (right : sheet_ok s ≡ true) where
  header_right : sheet_fits (sheet_header s) ≡ true
  unfolding sheet_ok sheet_header_ok
  header_right = and_right (file_ok s 0 sheet_header_size) (sheet_fits (sheet_header s)) (and_left (sheet_header_ok s) (lines_ok s) right)

  pollutant_some : 1 ≤ (sheet_header s).pollutant
  pollutant_some = omega (arith, eqb-false (sheet_header s).pollutant 0 (not-true _ (every_at _ header_right 3)))

  pub none_zero_lem : none_zero (header_numbers s) ≡ true
  none_zero_lem = rw (every_at _ header_right 1, le-leb 1 (sheet_header s).pollutant pollutant_some, every_at _ header_right 6)

  pub header_fits : AreBytes s → FieldsFit header_fields (header_numbers s)
  header_fits bytes =
      let medium = (sheet_header s).medium in
      let pollutant = (sheet_header s).pollutant in
      let unit = (sheet_header s).shown_unit in
      field_fits 3 medium tt tt (leb-true medium 3 (every_at _ header_right 2))
      and field_fits 255 pollutant tt tt (omega (arith, bytes 7))
      and field_fits 3 unit tt tt (leb-true unit 3 (every_at _ header_right 7))
      and done

-- ---- the sheet

pub written_read : (s w : List ℕ) → AreBytes s → text_of_sheet s ≡ Gives w → (length w ≤ most_sheet_text) × (typed_sheet w ≡ Some (sheet_numbers s))
unfolding typed_sheet sheet_numbers
written_read s w bytes e =
    let size = written_size s w e in
    let g = sheet_given s w e in
    let right = g.right in
    let cut : records_of w ≡ header_texts s ∷ records_of g.front.rest =
    ap records_of g.front.all ∙ record_first (header_texts s) g.front.rest (omega arith) (header_texts_lem s) in
    let header = header_again s (header_fits s right bytes) in
    let lines = lines_again s bytes 0 0 (line_count s) g.front.rest g.front.gives in
    let few = le-leb (line_count s) most_lines (lines_few s right) in
    (size, rw (le-leb (length w) most_bytes (omega arith), cut, header, lines, lines_count s 0 (line_count s), few, none_zero_lem s right))
