-- The binary sheet of typed numbers, as the desk reads it: each word is read as its number, so the header and every line are what was typed,
-- and the sheet is right.
use Prim.Native.Nat.{ℕ, zero, suc, ◌+◌, ◌*◌, ◌^◌, ◌≤◌, ◌<◌}
use mathlib.Core.Path.{◌≡◌, refl, ap, ◌∙◌}
use mathlib.Core.Bool.{true, cond}
use mathlib.Core.List.{List, [], ◌∷◌, ◌++◌, append_assoc}
use native.Mathlib.Nat.{add-zero}
use native.Mathlib.Omega.{arith}
use lib.Dec.{eqb, ltb}
use lib.Ieee.{Float, binary64, of_bits}
use lib.ListN.{length, get_or, drop, length-append}
use lib.Seq.{drop_at, drop-drop}
use borrow.Author.Tests.{le-leb, eq-eqb, ne_eqb}
use Rattle.little.specs.Read.{byte_range, u16_range, u32_range, byte_at, u16_at, u32_at, u64_at}
use Rattle.little.proofs.LawRead.{byte_from, u16_from, u32_from, u64_from}
use Rattle.search.specs.Test.{every}
use Rattle.search.proofs.LawTest.{either_way, all_of}
use Rattle.numerals.specs.Word.{word}
use Rattle.numerals.proofs.LawWord.{length_word, word_one, word_two, word_four, word_eight}
use Rattle.amounts.proofs.LawParts.{parts_fit}
use Rattle.headers.specs.House.{most_bytes, file_ok}
use Rattle.headers.specs.Sheet.{SheetHeader, sheet_header, sheet_header_size, line_size, line_count, most_lines, sheet_fits, sheet_header_ok}
use Rattle.shares.specs.declared.share.Reading.{Reading}
use Rattle.shares.specs.declared.share.Reading.TheVariants.{None as NoReading, Hours, Energy, Throughout}
use Rattle.desk.specs.Key.{key_from}
use Rattle.desk.specs.Sheet.{line_start, kind_at, line_ok, sheet_ok}
use Rattle.desk.specs.Line.{reading_at, grades_at, line_at, line_of}
use Rattle.fugitive.specs.declared.grades.Grades.{Grades}
use Rattle.desk.specs.declared.line.Line.{Line}
use Rattle.text.specs.Typed.{TypedSheet}
use Rattle.text.specs.Binary.{words_of, number_at, technique_of, kind_of, used_readings, reading_bits, line_sizes, line_words, line_bytes}
use Rattle.text.specs.Binary.{lines_bytes, sheet_size, header_sizes, header_words, binary_sheet}

-- ---- words one after the other

-- where word j begins
abbrev offset : (sizes : List ℕ) (j : ℕ) → ℕ
offset sizes zero = 0
offset [] (suc j) = 0
offset (size ∷ sizes) (suc j) = size + offset sizes j

-- from there on stand its bytes, and then others
word_there : (sizes numbers rest : List ℕ) (j : ℕ) → length sizes ≡ length numbers → j < length sizes
    → (others : List ℕ) × (drop (offset sizes j) (words_of sizes numbers ++ rest) ≡ word (get_or sizes j 0) (get_or numbers j 0) ++ others)
unfolding words_of
word_there [] numbers rest j e h = absurd (omega arith)
word_there (size ∷ sizes) [] rest j e h = absurd (omega arith)
word_there (size ∷ sizes) (n ∷ numbers) rest zero e h = (words_of sizes numbers ++ rest, append_assoc (word size n) (words_of sizes numbers) rest)
word_there (size ∷ sizes) (n ∷ numbers) rest (suc j) e h =
    let behind = words_of sizes numbers ++ rest in
    let next = word_there sizes numbers rest j (omega arith) (omega arith) in
    let skipped : drop size (word size n ++ behind) ≡ behind = drop_at (word size n) behind size (length_word size n) in
    (next.0, rw (append_assoc, ← drop-drop (offset sizes j) size (word size n ++ behind), skipped) next.1)

-- a word of a size that `read` reads is read there as its number
module _ (read : List ℕ → ℕ → ℕ) (size bound : ℕ) (from : (s : List ℕ) (at k : ℕ) → read s (at + k) ≡ read (drop at s) k)
    (back : (n : ℕ) (rest : List ℕ) → n < bound → read (word size n ++ rest) 0 ≡ n) where
  read_there : (sizes numbers rest s : List ℕ) (at j : ℕ) → drop at s ≡ words_of sizes numbers ++ rest → length sizes ≡ length numbers
      → j < length sizes → get_or sizes j 0 ≡ size → get_or numbers j 0 < bound → read s (at + offset sizes j) ≡ get_or numbers j 0
  read_there sizes numbers rest s at j stands e within is fits =
      let there = word_there sizes numbers rest j e within in
      rw add-zero at (from s (at + offset sizes j) 0)
      ∙ rw (← drop-drop (offset sizes j) at s, stands, there.1, is) (back (get_or numbers j 0) there.0 fits)

module _ (sizes numbers rest s : List ℕ) (at : ℕ) (stands : drop at s ≡ words_of sizes numbers ++ rest) (e : length sizes ≡ length numbers) (j : ℕ)
    (within : j < length sizes) where
  one_there : get_or sizes j 0 ≡ 1 → get_or numbers j 0 < byte_range → byte_at s (at + offset sizes j) ≡ get_or numbers j 0
  one_there is fits = read_there byte_at 1 byte_range byte_from word_one sizes numbers rest s at j stands e within is fits

  two_there : get_or sizes j 0 ≡ 2 → get_or numbers j 0 < u16_range → u16_at s (at + offset sizes j) ≡ get_or numbers j 0
  two_there is fits = read_there u16_at 2 u16_range u16_from word_two sizes numbers rest s at j stands e within is fits

  four_there : get_or sizes j 0 ≡ 4 → get_or numbers j 0 < u32_range → u32_at s (at + offset sizes j) ≡ get_or numbers j 0
  four_there is fits = read_there u32_at 4 u32_range u32_from word_four sizes numbers rest s at j stands e within is fits

  eight_there : get_or sizes j 0 ≡ 8 → get_or numbers j 0 < 2 ^ 64 → u64_at s (at + offset sizes j) ≡ get_or numbers j 0
  eight_there is fits = read_there u64_at 8 (2 ^ 64) u64_from word_eight sizes numbers rest s at j stands e within is fits

-- ---- a line

-- numbers that a line has room for
pub record LineFits (line : List ℕ) : Type 0 where
  pub codes : (j : ℕ) → j < 7 → number_at line j < u16_range
  pub kind : kind_of line ≤ 3
  pub product : number_at line 8 < 2 ^ 64
  pub material : number_at line 9 < 2 ^ 64
  pub crushing : number_at line 13 < byte_range
  pub tapping : number_at line 14 < byte_range
  pub spill : number_at line 15 < byte_range

abbrev pub float_said : (line : List ℕ) (r : ℕ) → Float
float_said line r = of_bits binary64 (reading_bits line r)

abbrev pub reading_said : (line : List ℕ) → Reading
reading_said line =
    cond (eqb (kind_of line) 1) (Hours (float_said line 0) (float_said line 1))
    (cond (eqb (kind_of line) 2) (Energy (record { kwh = float_said line 0; kw = float_said line 1; hours = float_said line 2 }))
    (cond (eqb (kind_of line) 3) Throughout NoReading))

abbrev pub grades_said : (line : List ℕ) → Grades
grades_said line = record { crushing = number_at line 13; tapping = number_at line 14; spill = number_at line 15 }

-- the line that the numbers say
abbrev pub line_said : (header line : List ℕ) → Line
line_said header line =
    record {
      key = record {
        industry = number_at line 0;
        product = number_at line 1;
        material = number_at line 2;
        process = number_at line 3;
        scale = number_at line 4;
        medium = number_at header 0;
        pollutant = number_at header 1;
      };
      technique = technique_of line;
      reuse = number_at line 6;
      product = number_at line 8;
      material = number_at line 9;
      reading = reading_said line;
      grades = grades_said line;
    }

line_size_lem : (line : List ℕ) → length (line_bytes line) ≡ line_size
unfolding words_of line_words word
line_size_lem line = refl

-- where a line's bytes stand from `at` on
module _ (s line rest : List ℕ) (at : ℕ) (stands : drop at s ≡ line_bytes line ++ rest) where
  same : length line_sizes ≡ length (line_words line)
  unfolding line_words
  same = refl

  one : (j : ℕ) → j < 19 → get_or line_sizes j 0 ≡ 1 → get_or (line_words line) j 0 < byte_range → byte_at s (at + offset line_sizes j) ≡ get_or (line_words line) j 0
  one = one_there line_sizes (line_words line) rest s at stands same

  two : (j : ℕ) → j < 19 → get_or line_sizes j 0 ≡ 2 → get_or (line_words line) j 0 < u16_range → u16_at s (at + offset line_sizes j) ≡ get_or (line_words line) j 0
  two = two_there line_sizes (line_words line) rest s at stands same

  eight : (j : ℕ) → j < 19 → get_or line_sizes j 0 ≡ 8 → get_or (line_words line) j 0 < 2 ^ 64 → u64_at s (at + offset line_sizes j) ≡ get_or (line_words line) j 0
  eight = eight_there line_sizes (line_words line) rest s at stands same

  zero_byte : byte_at s (at + 15) ≡ 0
  unfolding line_words
  zero_byte = one 8 (omega arith) refl (omega arith)

  last_zero_byte : byte_at s (at + 59) ≡ 0
  unfolding line_words
  last_zero_byte = one 17 (omega arith) refl (omega arith)

  zero_bytes : u32_at s (at + 60) ≡ 0
  unfolding line_words
  zero_bytes = four_there line_sizes (line_words line) rest s at stands same 18 (omega arith) refl (omega arith)

  reading_bits_lem : (r : ℕ) → reading_bits line r < 2 ^ 64
  unfolding reading_bits
  reading_bits_lem r =
      either_way (ltb r (used_readings (technique_of line) (kind_of line))) (λ e. rw e (parts_fit (number_at line (10 + r)))) (λ e. rw e (omega arith))

  module _ (fits : LineFits line) where
    kind_there : kind_at s at ≡ kind_of line
    unfolding line_words
    kind_there = one 7 (omega arith) refl (omega (arith, fits.kind))

    reading_there : reading_at s at ≡ reading_said line
    unfolding line_words reading_at
    reading_there =
        let a : u64_at s (at + 32) ≡ reading_bits line 0 = eight 11 (omega arith) refl (reading_bits_lem 0) in
        let b : u64_at s (at + 40) ≡ reading_bits line 1 = eight 12 (omega arith) refl (reading_bits_lem 1) in
        let c : u64_at s (at + 48) ≡ reading_bits line 2 = eight 13 (omega arith) refl (reading_bits_lem 2) in
        rw (kind_there, a, b, c)

    grades_there : grades_at s at ≡ grades_said line
    unfolding line_words grades_at
    grades_there =
        let crushing = one 14 (omega arith) refl fits.crushing in
        let tapping = one 15 (omega arith) refl fits.tapping in
        let spill = one 16 (omega arith) refl fits.spill in
        rw (crushing, tapping, spill)

    -- its key has the header's medium and pollutant
    line_there : (header : List ℕ) → (sheet_header s).medium ≡ number_at header 0 → (sheet_header s).pollutant ≡ number_at header 1
        → line_at s at ≡ line_said header line
    unfolding line_words key_from
    line_there header medium pollutant =
        let industry : u16_at s at ≡ number_at line 0 = rw add-zero at (two 0 (omega arith) refl (fits.codes 0 (omega arith))) in
        let product = two 1 (omega arith) refl (fits.codes 1 (omega arith)) in
        let material = two 2 (omega arith) refl (fits.codes 2 (omega arith)) in
        let process = two 3 (omega arith) refl (fits.codes 3 (omega arith)) in
        let scale = two 4 (omega arith) refl (fits.codes 4 (omega arith)) in
        let technique = two 5 (omega arith) refl (fits.codes 5 (omega arith)) in
        let reuse = two 6 (omega arith) refl (fits.codes 6 (omega arith)) in
        let produced = eight 9 (omega arith) refl fits.product in
        let used = eight 10 (omega arith) refl fits.material in
        rw (medium, pollutant, industry, product, material, process, scale, technique, reuse, produced, used, reading_there, grades_there)

-- ---- the sheet

pub lines_size : (lines : List (List ℕ)) → length (lines_bytes lines) ≡ line_size * length lines
unfolding lines_bytes
lines_size [] = refl
lines_size (line ∷ lines) =
    omega (arith, length-append (line_bytes line) (lines_bytes lines), line_size_lem line, lines_size lines)

-- line i begins behind those before it
lines_there : (lines : List (List ℕ)) (i : ℕ) → i < length lines
    → drop (line_size * i) (lines_bytes lines) ≡ line_bytes (get_or lines i []) ++ lines_bytes (drop (suc i) lines)
unfolding lines_bytes
lines_there [] i h = absurd (omega arith)
lines_there (line ∷ lines) zero h = refl
lines_there (line ∷ lines) (suc i) h =
    let more : line_size * suc i ≡ line_size + line_size * i = omega arith in
    let skipped = drop_at (line_bytes line) (lines_bytes lines) line_size (line_size_lem line) in
    rw (more, ← drop-drop (line_size * i) line_size (line_bytes line ++ lines_bytes lines), skipped) (lines_there lines i (omega arith))

-- numbers that a sheet has room for, and that a right one has
pub record NumbersFit (sheet : TypedSheet) : Type 0 where
  pub medium_some : 1 ≤ number_at sheet.header 0
  pub medium : number_at sheet.header 0 ≤ 3
  pub pollutant_some : 1 ≤ number_at sheet.header 1
  pub pollutant : number_at sheet.header 1 < byte_range
  pub unit_some : 1 ≤ number_at sheet.header 2
  pub unit : number_at sheet.header 2 ≤ 3
  pub few : length sheet.lines ≤ most_lines
  pub each : (i : ℕ) → i < length sheet.lines → LineFits (get_or sheet.lines i [])

-- the header that the numbers say
abbrev pub header_said : (sheet : TypedSheet) → SheetHeader
header_said sheet =
    record {
      length = sheet_size (length sheet.lines);
      lines = length sheet.lines;
      medium = number_at sheet.header 0;
      pollutant = number_at sheet.header 1;
      line_offset = sheet_header_size;
      shown_unit = number_at sheet.header 2;
    }

pub header_size : (header : List ℕ) (lines : ℕ) → length (words_of header_sizes (header_words header lines)) ≡ sheet_header_size
unfolding words_of header_words word
header_size header lines = refl

module _ (sheet : TypedSheet) where
  pub binary_size : length (binary_sheet sheet) ≡ sheet_size (length sheet.lines)
  unfolding binary_sheet
  binary_size =
      length-append (words_of header_sizes (header_words sheet.header (length sheet.lines))) (lines_bytes sheet.lines)
      ∙ rw (header_size sheet.header (length sheet.lines), lines_size)

  pub binary_line : (i : ℕ) → i < length sheet.lines
      → drop (sheet_size i) (binary_sheet sheet) ≡ line_bytes (get_or sheet.lines i []) ++ lines_bytes (drop (suc i) sheet.lines)
  unfolding binary_sheet
  binary_line i h =
      let front = words_of header_sizes (header_words sheet.header (length sheet.lines)) in
      let skipped = drop_at front (lines_bytes sheet.lines) sheet_header_size (header_size sheet.header (length sheet.lines)) in
      rw (← drop-drop (line_size * i) sheet_header_size (front ++ lines_bytes sheet.lines), skipped) (lines_there sheet.lines i h)

  module _ (fits : NumbersFit sheet) where
    pub binary_header : sheet_header (binary_sheet sheet) ≡ header_said sheet
    unfolding binary_sheet header_words
    binary_header =
        let words = header_words sheet.header (length sheet.lines) in
        let s = binary_sheet sheet in
        let one = one_there header_sizes words (lines_bytes sheet.lines) s 0 refl refl in
        let four = four_there header_sizes words (lines_bytes sheet.lines) s 0 refl refl in
        let size = four 0 (omega arith) refl (omega (arith, fits.few)) in
        let count = two_there header_sizes words (lines_bytes sheet.lines) s 0 refl refl 1 (omega arith) refl (omega (arith, fits.few)) in
        let medium = one 2 (omega arith) refl (omega (arith, fits.medium)) in
        let pollutant = one 3 (omega arith) refl fits.pollutant in
        let place = four 4 (omega arith) refl (omega arith) in
        let unit = four 5 (omega arith) refl (omega (arith, fits.unit)) in
        rw (size, count, medium, pollutant, place, unit)

    line_place : (i : ℕ) → line_start (binary_sheet sheet) i ≡ sheet_size i
    line_place i = ap (λ (h : SheetHeader). h.line_offset + line_size * i) binary_header

    pub binary_line_said : (i : ℕ) → i < length sheet.lines → line_of (binary_sheet sheet) i ≡ line_said sheet.header (get_or sheet.lines i [])
    unfolding line_of
    binary_line_said i h =
        let line = get_or sheet.lines i [] in
        let rest = lines_bytes (drop (suc i) sheet.lines) in
        let medium = ap (λ (h : SheetHeader). h.medium) binary_header in
        let pollutant = ap (λ (h : SheetHeader). h.pollutant) binary_header in
        rw (line_place i)
        (line_there (binary_sheet sheet) line rest (sheet_size i) (binary_line i h) (fits.each i h) sheet.header medium pollutant)

    -- ---- it is right

    file_right : file_ok (binary_sheet sheet) 0 sheet_header_size ≡ true
    unfolding file_ok every
    file_right =
        let size = sheet_size (length sheet.lines) in
        let few = fits.few in
        let states : u32_at (binary_sheet sheet) 0 ≡ size = ap (λ (h : SheetHeader). h.length) binary_header in
        rw (states, binary_size, le-leb sheet_header_size size (omega arith), le-leb size most_bytes (omega arith), eq-eqb size size refl)

    header_right : sheet_fits (header_said sheet) ≡ true
    unfolding every
    header_right =
        let n = length sheet.lines in
        let medium = number_at sheet.header 0 in
        let unit = number_at sheet.header 2 in
        rw (le-leb n most_lines fits.few, le-leb 1 medium fits.medium_some, le-leb medium 3 fits.medium)
        (rw (ne_eqb (number_at sheet.header 1) 0 (λ z. omega (arith, fits.pollutant_some)), le-leb (sheet_size n) (sheet_size n) (omega arith))
        (rw (le-leb 1 unit fits.unit_some, le-leb unit 3 fits.unit)))

    line_right : (i : ℕ) → i < length sheet.lines → line_ok (binary_sheet sheet) i ≡ true
    unfolding line_ok every
    line_right i h =
        let s = binary_sheet sheet in
        let line = get_or sheet.lines i [] in
        let rest = lines_bytes (drop (suc i) sheet.lines) in
        let kind = kind_there s line rest (sheet_size i) (binary_line i h) (fits.each i h) in
        let byte = zero_byte s line rest (sheet_size i) (binary_line i h) in
        let last = last_zero_byte s line rest (sheet_size i) (binary_line i h) in
        let bytes = zero_bytes s line rest (sheet_size i) (binary_line i h) in
        rw (line_place i, kind, byte, last, bytes, le-leb (kind_of line) 3 (fits.each i h).kind)

    pub binary_right : sheet_ok (binary_sheet sheet) ≡ true
    unfolding sheet_ok sheet_header_ok
    binary_right =
        let count : line_count (binary_sheet sheet) ≡ length sheet.lines = ap (λ (h : SheetHeader). h.lines) binary_header in
        let lines = all_of (line_ok (binary_sheet sheet)) (length sheet.lines) line_right in
        rw (file_right, ap sheet_fits binary_header ∙ header_right, count, lines)
