-- The binary sheet of a typed one: as the desk itself writes it, lines at offset 16 and nothing behind them.
use Rattle.std.specs.Prelude.{ℕ, ◌+◌, ◌*◌, cond, List, [], ◌∷◌, ◌++◌, ltb, eqb, length, get_or}
use Rattle.headers.specs.Sheet.{sheet_header_size, line_size}
use Rattle.amounts.specs.Reading.{parts_bits}
use Rattle.numerals.specs.Word.{word}
use Rattle.text.specs.Typed.{first_reading, first_grade, TypedSheet}

-- numbers as little-endian words of these sizes, one after the other
unfoldable pub words_of : (sizes numbers : List ℕ) → List ℕ
words_of [] numbers = []
words_of (size ∷ sizes) [] = []
words_of (size ∷ sizes) (n ∷ numbers) = word size n ++ words_of sizes numbers

-- ---- a line, by its numbers in the order of the record

abbrev pub number_at : (line : List ℕ) (j : ℕ) → ℕ
number_at line j = get_or line j 0

abbrev pub technique_of : (line : List ℕ) → ℕ
technique_of line = number_at line 5

abbrev pub kind_of : (line : List ℕ) → ℕ
kind_of line = number_at line 7

-- how many of a, b, c are used: none by technique 0; two by hours, three by energy, none by the other kinds
unfoldable pub used_readings : (technique kind : ℕ) → ℕ
used_readings technique kind = cond (eqb technique 0) 0 (cond (eqb kind 1) 2 (cond (eqb kind 2) 3 0))

-- reading r of a, b, c, of so many thousandths: divided once by 1000 where it is used, else zero whichever numeral was read
unfoldable pub reading_bits : (line : List ℕ) (r : ℕ) → ℕ
reading_bits line r = cond (ltb r (used_readings (technique_of line) (kind_of line))) (parts_bits (number_at line (first_reading + r))) 0

-- seven codes, the kind, a zero byte, product and material, a, b, c, three grades, five zero bytes
abbrev pub line_sizes : List ℕ
line_sizes = 2 ∷ 2 ∷ 2 ∷ 2 ∷ 2 ∷ 2 ∷ 2 ∷ 1 ∷ 1 ∷ 8 ∷ 8 ∷ 8 ∷ 8 ∷ 8 ∷ 1 ∷ 1 ∷ 1 ∷ 1 ∷ 4 ∷ []

unfoldable pub line_words : (line : List ℕ) → List ℕ
line_words line =
    number_at line 0
    ∷ number_at line 1
    ∷ number_at line 2
    ∷ number_at line 3
    ∷ number_at line 4
    ∷ number_at line 5
    ∷ number_at line 6
    ∷ number_at line 7
    ∷ 0
    ∷ number_at line 8
    ∷ number_at line 9
    ∷ reading_bits line 0
    ∷ reading_bits line 1
    ∷ reading_bits line 2
    ∷ number_at line first_grade
    ∷ number_at line (first_grade + 1)
    ∷ number_at line (first_grade + 2)
    ∷ 0
    ∷ 0
    ∷ []

abbrev pub line_bytes : (line : List ℕ) → List ℕ
line_bytes line = words_of line_sizes (line_words line)

unfoldable pub lines_bytes : (lines : List (List ℕ)) → List ℕ
lines_bytes [] = []
lines_bytes (line ∷ lines) = line_bytes line ++ lines_bytes lines

-- ---- the sheet

-- bytes of a sheet of so many lines
abbrev pub sheet_size : (lines : ℕ) → ℕ
sheet_size lines = sheet_header_size + line_size * lines

-- whole length u32, line count u16, medium u8, pollutant u8, line offset u32, shown unit u32
abbrev pub header_sizes : List ℕ
header_sizes = 4 ∷ 2 ∷ 1 ∷ 1 ∷ 4 ∷ 4 ∷ []

unfoldable pub header_words : (header : List ℕ) (lines : ℕ) → List ℕ
header_words header lines =
    sheet_size lines ∷ lines ∷ number_at header 0 ∷ number_at header 1 ∷ sheet_header_size ∷ number_at header 2 ∷ []

unfoldable pub binary_sheet : (sheet : TypedSheet) → List ℕ
binary_sheet sheet = words_of header_sizes (header_words sheet.header (length sheet.lines)) ++ lines_bytes sheet.lines
