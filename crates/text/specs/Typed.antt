-- "Sheets typed in a spreadsheet": a text as numbers. The first record has the medium, the pollutant and the shown unit, then one record a
-- line has its fields in the order of the binary sheet. Of a line's last fields those that are left off count as 0.
use Rattle.std.specs.Prelude.{ℕ, zero, suc, ◌-◌, Bool, true, cond, ◌&&◌, List, [], ◌∷◌, leb, eqb, length}
use Rattle.std.specs.Prelude.{Option, None, Some}
use Rattle.headers.specs.House.{most_bytes}
use Rattle.headers.specs.Sheet.{most_lines}
use Rattle.numerals.specs.Numeral.{most_digits}
use Rattle.numerals.specs.Typed.{number_in, decimal_in}
use Rattle.records.specs.Records.{content_of, records_of}

-- ---- what a field takes: whole numbers up to this one, or a reading, for which 0 stands

abbrev pub a_reading : ℕ
a_reading = 0

-- a u16, a u64
abbrev pub a_code : ℕ
a_code = 65_535

abbrev pub an_amount : ℕ
an_amount = 18_446_744_073_709_551_615

-- of the u8 and the u32 those numbers that a right sheet has; which of them may be 0 is said below
abbrev pub a_medium : ℕ
a_medium = 3

abbrev pub a_pollutant : ℕ
a_pollutant = 255

abbrev pub a_unit : ℕ
a_unit = 3

abbrev pub a_kind : ℕ
a_kind = 3

-- a u8: which grades are taken the desk says
abbrev pub a_grade : ℕ
a_grade = 255

-- medium, pollutant, shown unit
abbrev pub header_fields : List ℕ
header_fields = a_medium ∷ a_pollutant ∷ a_unit ∷ []

-- industry, product, material, process, scale, technique, reuse, kind, product kg, material kg, a, b, c, crushing, tapping, spill
abbrev pub line_fields : List ℕ
line_fields =
    a_code ∷ a_code ∷ a_code ∷ a_code ∷ a_code ∷ a_code ∷ a_code ∷ a_kind ∷ an_amount ∷ an_amount ∷ a_reading ∷ a_reading ∷ a_reading ∷ a_grade ∷ a_grade
    ∷ a_grade ∷ []

-- the fields of a line, and how many of them are needed; the first of its readings, and how many these are; the first of its grades
abbrev pub line_width : ℕ
line_width = length line_fields

abbrev pub needed_fields : ℕ
needed_fields = 13

abbrev pub first_reading : ℕ
first_reading = 10

abbrev pub reading_fields : ℕ
reading_fields = 3

abbrev pub first_grade : ℕ
first_grade = 13

-- the number of a field; of a reading its thousandths
unfoldable pub field_number : (takes : ℕ) (field : List ℕ) → Option ℕ
field_number takes field = cond (eqb takes a_reading) (decimal_in (content_of field)) (number_in most_digits takes (content_of field))

-- ---- the numbers of records, where nothing is malformed

abbrev pub followed : (first : Option ℕ) (others : Option (List ℕ)) → Option (List ℕ)
followed None others = None
followed (Some n) None = None
followed (Some n) (Some ns) = Some (n ∷ ns)

-- what is left off counts as 0, unless it is needed
abbrev pub left_off : (needed : ℕ) (others : Option (List ℕ)) → Option (List ℕ)
left_off zero others = followed (Some 0) others
left_off (suc needed) others = None

-- a field for each that is asked for, of which the first so many are needed, and no other
unfoldable pub numbers_in : (needed : ℕ) (takes : List ℕ) (fields : List (List ℕ)) → Option (List ℕ)
numbers_in needed [] [] = Some []
numbers_in needed [] (field ∷ fields) = None
numbers_in needed (t ∷ takes) [] = left_off needed (numbers_in (needed - 1) takes [])
numbers_in needed (t ∷ takes) (field ∷ fields) = followed (field_number t field) (numbers_in (needed - 1) takes fields)

-- of the header all three are needed
abbrev pub header_in : (fields : List (List ℕ)) → Option (List ℕ)
header_in fields = numbers_in 3 header_fields fields

abbrev pub line_in : (fields : List (List ℕ)) → Option (List ℕ)
line_in fields = numbers_in needed_fields line_fields fields

abbrev pub before : (line : Option (List ℕ)) (others : Option (List (List ℕ))) → Option (List (List ℕ))
before None others = None
before (Some line) None = None
before (Some line) (Some lines) = Some (line ∷ lines)

unfoldable pub lines_in : (records : List (List (List ℕ))) → Option (List (List ℕ))
lines_in [] = Some []
lines_in (fields ∷ records) = before (line_in fields) (lines_in records)

-- a sheet as it was typed: the header's numbers, and each line's
pub record TypedSheet : Type 0 where
  pub header : List ℕ
  pub lines : List (List ℕ)

abbrev pub none_zero : (numbers : List ℕ) → Bool
none_zero [] = true
none_zero (n ∷ numbers) = leb 1 n && none_zero numbers

-- at most 128 lines
abbrev pub few_lines : (lines : Option (List (List ℕ))) → Option (List (List ℕ))
few_lines None = None
few_lines (Some lines) = cond (leb (length lines) most_lines) (Some lines) None

-- no number of the header is 0
abbrev pub sheet_typed : (header : Option (List ℕ)) (lines : Option (List (List ℕ))) → Option TypedSheet
sheet_typed None lines = None
sheet_typed (Some header) None = None
sheet_typed (Some header) (Some lines) = cond (none_zero header) (Some (record { header = header; lines = lines })) None

abbrev pub sheet_in : (records : List (List (List ℕ))) → Option TypedSheet
sheet_in [] = None
sheet_in (header ∷ lines) = sheet_typed (header_in header) (few_lines (lines_in lines))

-- the sheet that a text of at most 65,536 bytes is
unfoldable pub typed_sheet : (text : List ℕ) → Option TypedSheet
typed_sheet text = cond (leb (length text) most_bytes) (sheet_in (records_of text)) None
