-- The text of a binary sheet, byte for byte: no quotes, no needless leading zeros, every record ends in a carriage return and a line feed.
use Rattle.std.specs.Prelude.{Err, Ok, Result}
use Rattle.std.specs.Prelude.{ℕ, zero, suc, ◌+◌, ◌*◌, cond, List, [], ◌∷◌, ◌++◌, eqb, length}
use Rattle.std.specs.Prelude.{Option, None, Some}
use Rattle.headers.specs.Sheet.{sheet_header, line_count, most_lines}
use Rattle.numerals.specs.Numeral.{numeral, decimal_numeral, most_decimal}
use Rattle.records.specs.Records.{comma, carriage_return, line_feed}
use Rattle.amounts.specs.declared.reading.ReadingFault.{ReadingFault}
use Rattle.shares.specs.Share.{hours_of, kw_of, kwh_of}
use Rattle.shares.specs.declared.share.Reading.{Reading}
use Rattle.shares.specs.declared.share.Reading.TheVariants.{None as NoReading, Hours, Energy, Throughout}
use Rattle.answers.specs.declared.answer.FileFault.TheVariants.{SheetMalformed}
use Rattle.answers.specs.declared.answer.LineFault.TheVariants.{BadReading}
use Rattle.answers.specs.declared.answer.Refusal.TheVariants.{File, Line as OnLine}
use Rattle.desk.specs.Sheet.{sheet_ok}
use Rattle.desk.specs.Line.{line_of}
use Rattle.desk.specs.declared.line.Line.{Line}
use Rattle.fugitive.specs.declared.grades.Grades.{Grades}
use Rattle.text.specs.Convert.{Made, Gives, Refuses}
use Rattle.text.specs.Typed.{header_fields, line_width, reading_fields}

-- ---- records

abbrev pub record_end : List ℕ
record_end = carriage_return ∷ line_feed ∷ []

-- behind a field a comma, and behind the last one the record's end
abbrev pub separator : (others : List (List ℕ)) → List ℕ
separator [] = record_end
separator (field ∷ others) = comma ∷ []

unfoldable pub record_text : (fields : List (List ℕ)) → List ℕ
record_text [] = []
record_text (field ∷ fields) = field ++ (separator fields ++ record_text fields)

-- bytes of a record of so many fields, at most: each has at most these, and then a comma or the record's end
abbrev pub most_field : ℕ
most_field = most_decimal + length record_end

abbrev pub most_record : (fields : ℕ) → ℕ
most_record fields = most_field * fields

-- of a text: the header's fields, and those of each line
abbrev pub most_sheet_text : ℕ
most_sheet_text = most_record (length header_fields) + most_record line_width * most_lines

-- ---- a line

abbrev pub kind_number : Reading → ℕ
kind_number NoReading = 0
kind_number (Hours run production) = 1
kind_number (Energy e) = 2
kind_number Throughout = 3

-- the readings that the kind uses, as the rules take them
abbrev pub readings_of : Reading → List (Result ℕ ReadingFault)
readings_of NoReading = []
readings_of (Hours run production) = hours_of run ∷ hours_of production ∷ []
readings_of (Energy e) = kwh_of e.kwh ∷ kw_of e.kw ∷ hours_of e.hours ∷ []
readings_of Throughout = []

-- technique 0 uses none
abbrev pub used_of : Line → List (Result ℕ ReadingFault)
used_of line = cond (eqb line.technique 0) [] (readings_of line.reading)

-- the thousandths of each, unless one is bad or over its limit
abbrev pub ahead : (t : ℕ) (others : Option (List ℕ)) → Option (List ℕ)
ahead t None = None
ahead t (Some ts) = Some (t ∷ ts)

unfoldable pub all_taken : List (Result ℕ ReadingFault) → Option (List ℕ)
all_taken [] = Some []
all_taken (Err fault ∷ readings) = None
all_taken (Ok t ∷ readings) = ahead t (all_taken readings)

-- three fields: those used with three places, and `0` for each of the others
unfoldable pub reading_texts : (fields : ℕ) (thousandths : List ℕ) → List (List ℕ)
reading_texts zero ts = []
reading_texts (suc n) [] = numeral 0 ∷ reading_texts n []
reading_texts (suc n) (t ∷ ts) = decimal_numeral t ∷ reading_texts n ts

abbrev pub grade_texts : Grades → List (List ℕ)
grade_texts g = numeral g.crushing ∷ numeral g.tapping ∷ numeral g.spill ∷ []

unfoldable pub line_texts : (line : Line) (thousandths : List ℕ) → List (List ℕ)
line_texts line ts =
    numeral line.key.industry
    ∷ numeral line.key.product
    ∷ numeral line.key.material
    ∷ numeral line.key.process
    ∷ numeral line.key.scale
    ∷ numeral line.technique
    ∷ numeral line.reuse
    ∷ numeral (kind_number line.reading)
    ∷ numeral line.product
    ∷ numeral line.material
    ∷ (reading_texts reading_fields ts ++ grade_texts line.grades)

-- ---- the sheet

-- line i and those after it, n of them
unfoldable pub lines_from : (s : List ℕ) (i n : ℕ) → List Line
lines_from s i zero = []
lines_from s i (suc n) = line_of s i ∷ lines_from s (suc i) n

abbrev pub header_texts : (s : List ℕ) → List (List ℕ)
header_texts s =
    numeral (sheet_header s).medium ∷ numeral (sheet_header s).pollutant ∷ numeral (sheet_header s).shown_unit ∷ []

abbrev pub in_front : (bytes : List ℕ) (made : Made) → Made
in_front bytes (Gives others) = Gives (bytes ++ others)
in_front bytes (Refuses refusal) = Refuses refusal

-- the first line with a used reading that is bad or over its limit is refused (9); lines count from 1
abbrev pub with_line : (i : ℕ) (line : Line) (readings : Option (List ℕ)) (others : Made) → Made
with_line i line None others = Refuses (OnLine BadReading (i + 1))
with_line i line (Some ts) others = in_front (record_text (line_texts line ts)) others

unfoldable pub lines_text : (i : ℕ) (lines : List Line) → Made
lines_text i [] = Gives []
lines_text i (line ∷ lines) = with_line i line (all_taken (used_of line)) (lines_text (i + 1) lines)

unfoldable pub text_of_sheet : (s : List ℕ) → Made
text_of_sheet s =
    cond (sheet_ok s) (in_front (record_text (header_texts s)) (lines_text 0 (lines_from s 0 (line_count s))))
    (Refuses (File SheetMalformed))
