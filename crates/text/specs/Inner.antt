-- What private functions ask and answer, beside what a promise says. Nothing here is needed to read a promise.
use Rattle.std.specs.Prelude.{ℕ, zero, suc, ◌+◌, ◌*◌, ◌-◌, ◌≤◌, ◌<◌, ◌≡◌, Bool, false, cond, ◌&&◌, List, [], ◌∷◌, ◌++◌, leb, ltb, eqb, length, take, drop, get_or, replicate}
use Rattle.std.specs.Prelude.{Option, None, Some, Result, Ok, Err}
use Rattle.headers.specs.Sheet.{sheet_header, sheet_header_size, line_count, most_lines}
use Rattle.numerals.specs.Laid.{laid, Puts}
use Rattle.numerals.specs.Ahead.{number_from, decimal_from}
use Rattle.numerals.specs.declared.ahead.Ahead.{Ahead}
use Rattle.records.specs.Records.{pieces, record_in, records_of, field_end}
use Rattle.records.specs.Follow.{behind}
use Rattle.records.specs.Inner.{following}
use Rattle.records.specs.declared.field.Behind.{Behind}
use Rattle.answers.specs.declared.answer.FileFault.TheVariants.{ResultTooShort}
use Rattle.answers.specs.declared.answer.Refusal.{Refusal}
use Rattle.answers.specs.declared.answer.Refusal.TheVariants.{File}
use Rattle.answers.specs.declared.answer.Refusal.{Refusal}
use Rattle.text.specs.declared.field.FieldRead.{FieldRead}
use Rattle.text.specs.Typed.{a_reading, line_width, reading_fields, field_number}
use Rattle.text.specs.Typed.{TypedSheet, numbers_in, lines_in, few_lines, before, typed_sheet}
use Rattle.text.specs.Binary.{words_of, line_sizes, line_words, lines_bytes, binary_sheet}
use Rattle.text.specs.Convert.{Gives, Refuses}
use Rattle.text.specs.Written.{record_end, record_text, most_record, kind_number, used_of, all_taken, line_texts, lines_from, lines_text}
use Rattle.text.specs.declared.line.Readings.{Readings}
use Rattle.numerals.specs.Numeral.{most_digits, numeral, decimal_numeral}
use Rattle.records.specs.Records.{comma}
use Rattle.desk.specs.declared.line.Line.{Line}
use Rattle.fugitive.specs.declared.grades.Grades.{Grades}

-- ---- how a conversion ends

pub record RefusedAll (refusal : Refusal) (bytes : List ℕ) (r : Result ℕ Refusal) (bytes' : List ℕ) : Type 0 where
  pub answer : r ≡ Err refusal
  pub zero : bytes' ≡ replicate (length bytes) 0

-- r says whether what ends there has room; where it has none, every byte is cleared
pub record Finished (end : ℕ) (bytes : List ℕ) (r : Result ℕ Refusal) (bytes' : List ℕ) : Type 0 where
  pub answer : r ≡ cond (leb end (length bytes)) (Ok end) (Err (File ResultTooShort))
  pub all : end ≤ length bytes → bytes' ≡ bytes
  pub none : length bytes < end → bytes' ≡ replicate (length bytes) 0

-- ---- a field

-- a number, and what follows its field
abbrev pub led : (number : ℕ) (follows : Behind) → Option FieldRead
led number follows = Some (record { number = number; follows = follows })

abbrev pub with_number : (typed : Option ℕ) (follows : Behind) → Option FieldRead
with_number (Some number) follows = led number follows
with_number None follows = None

-- what is asked for, if it stands there
unfoldable pub field_ahead : (text : List ℕ) (at takes : ℕ) → Option Ahead
field_ahead text at takes = cond (eqb takes a_reading) (decimal_from text at) (number_from most_digits takes text at)

unfoldable pub field_read : (text : List ℕ) (at takes : ℕ) → Option FieldRead
field_read text at takes = with_number (field_number takes (pieces false (drop at text)).field) (behind text (field_end text at))

-- ---- a record

-- there is a place for each number, and no more are needed than are asked for
pub record Recordable (needed : ℕ) (takes numbers : List ℕ) : Type 0 where
  pub same : length numbers ≡ length takes
  pub asked : needed ≤ length takes

-- a record that ends behind so many fields: the places of those that are left off are 0
pub record Ended (fields needed next : ℕ) (numbers : List ℕ) (r : Option ℕ) (numbers' : List ℕ) : Type 0 where
  pub answer : r ≡ cond (ltb fields needed) None (Some next)
  pub holds : needed ≤ fields → numbers' ≡ take fields numbers ++ replicate (length numbers - fields) 0

-- the numbers of the record that begins there, and where the next one begins
abbrev pub RecordFound : (text : List ℕ) (at needed : ℕ) (takes : List ℕ) (r : Option ℕ) (numbers' : List ℕ) → Type 0
RecordFound text at needed takes (Some next) numbers' =
    (numbers_in needed takes (record_in (pieces false (drop at text))) ≡ Some numbers')
    × (following (pieces false (drop at text)).records ≡ records_of (drop next text))
RecordFound text at needed takes None numbers' = numbers_in needed takes (record_in (pieces false (drop at text))) ≡ None

-- ---- the lines

-- the lines of the text from there on, laid behind the header
pub record LinesLaid (records : List (List (List ℕ))) (sheet : List ℕ) (n : ℕ) (sheet' : List ℕ) : Type 0 where
  pub lines : List (List ℕ)
  pub typed : few_lines (lines_in records) ≡ Some lines
  pub count : length lines ≡ n
  pub few : n ≤ most_lines
  pub holds : sheet' ≡ laid sheet_header_size (lines_bytes lines) sheet

abbrev pub LinesFound : (text : List ℕ) (at : ℕ) (sheet : List ℕ) (r : Option ℕ) (sheet' : List ℕ) → Type 0
LinesFound text at sheet (Some n) sheet' = LinesLaid (records_of (drop at text)) sheet n sheet'
LinesFound text at sheet None sheet' = few_lines (lines_in (records_of (drop at text))) ≡ None

-- these lines, and then the others
unfoldable pub all_before : (lines : List (List ℕ)) (others : Option (List (List ℕ))) → Option (List (List ℕ))
all_before [] others = others
all_before (line ∷ lines) others = before (Some line) (all_before lines others)

-- ---- the sheet

pub record SheetLaid (text sheet : List ℕ) (n : ℕ) (sheet' : List ℕ) : Type 0 where
  pub typed : TypedSheet
  pub is : typed_sheet text ≡ Some typed
  pub count : length typed.lines ≡ n
  pub few : n ≤ most_lines
  pub holds : sheet' ≡ laid 0 (binary_sheet typed) sheet

abbrev pub SheetFound : (text sheet : List ℕ) (r : Option ℕ) (sheet' : List ℕ) → Type 0
SheetFound text sheet (Some n) sheet' = SheetLaid text sheet n sheet'
SheetFound text sheet None sheet' = typed_sheet text ≡ None

-- ---- the bytes of a line: seven codes; the kind, a zero byte, two amounts; three readings; three grades, five zero bytes

unfoldable pub code_bytes : (line : List ℕ) → List ℕ
code_bytes line = words_of (take 7 line_sizes) (take 7 (line_words line))

unfoldable pub amount_bytes : (line : List ℕ) → List ℕ
amount_bytes line = words_of (take 4 (drop 7 line_sizes)) (take 4 (drop 7 (line_words line)))

unfoldable pub reading_bytes : (line : List ℕ) → List ℕ
reading_bytes line = words_of (take 3 (drop 11 line_sizes)) (take 3 (drop 11 (line_words line)))

unfoldable pub grade_bytes : (line : List ℕ) → List ℕ
grade_bytes line = words_of (drop 14 line_sizes) (drop 14 (line_words line))

-- ---- what is written

-- the used readings, by how many there are and one by one
abbrev pub readings_made : Option (List ℕ) → Option Readings
readings_made None = None
readings_made (Some ts) = Some (record { used = length ts; a = get_or ts 0 0; b = get_or ts 1 0; c = get_or ts 2 0 })

abbrev pub field_text : (number : ℕ) (places : Bool) → List ℕ
field_text number places = cond places (decimal_numeral number) (numeral number)

abbrev pub separator_text : (last : Bool) → List ℕ
separator_text last = cond last record_end (comma ∷ [])

-- the fields of a record from number j on: those from `from` to before `until` with places
unfoldable pub texts_from : (from until j : ℕ) (numbers : List ℕ) → List (List ℕ)
texts_from from until j [] = []
texts_from from until j (n ∷ numbers) = field_text n (leb from j && ltb j until) ∷ texts_from from until (j + 1) numbers

-- a line's record, where no used reading is bad
pub record LinePut (line : Line) (at : ℕ) (text : List ℕ) (r : ℕ) (text' : List ℕ) : Type 0 where
  pub thousandths : List ℕ
  pub taken : all_taken (used_of line) ≡ Some thousandths
  pub puts : Puts (record_text (line_texts line thousandths)) (most_record line_width) at text r text'

abbrev pub LineWritten : (line : Line) (at : ℕ) (text : List ℕ) (r : Option ℕ) (text' : List ℕ) → Type 0
LineWritten line at text (Some end) text' = LinePut line at text end text'
LineWritten line at text None text' = all_taken (used_of line) ≡ None

-- the records of all lines, or the refusal that they meet
pub record LinesPut (s : List ℕ) (at : ℕ) (text : List ℕ) (r : ℕ) (text' : List ℕ) : Type 0 where
  pub bytes : List ℕ
  pub gives : lines_text 0 (lines_from s 0 (line_count s)) ≡ Gives bytes
  pub puts : Puts bytes (most_record line_width * most_lines) at text r text'

abbrev pub LinesWritten : (s : List ℕ) (at : ℕ) (text : List ℕ) (r : Result ℕ Refusal) (text' : List ℕ) → Type 0
LinesWritten s at text (Ok end) text' = LinesPut s at text end text'
LinesWritten s at text (Err refusal) text' = lines_text 0 (lines_from s 0 (line_count s)) ≡ Refuses refusal

-- ---- the numbers of a binary sheet, as its text has them

-- as many as there are fields for readings, 0 for those that are not used
unfoldable pub padded : (fields : ℕ) (thousandths : List ℕ) → List ℕ
padded zero ts = []
padded (suc n) ts = get_or ts 0 0 ∷ padded n (drop 1 ts)

-- the ten whole numbers of a line
abbrev pub whole_numbers : (line : Line) → List ℕ
whole_numbers line =
    line.key.industry
    ∷ line.key.product
    ∷ line.key.material
    ∷ line.key.process
    ∷ line.key.scale
    ∷ line.technique
    ∷ line.reuse
    ∷ kind_number line.reading
    ∷ line.product
    ∷ line.material
    ∷ []

-- its grades
abbrev pub grade_numbers : (g : Grades) → List ℕ
grade_numbers g = g.crushing ∷ g.tapping ∷ g.spill ∷ []

unfoldable pub line_numbers : (line : Line) (thousandths : List ℕ) → List ℕ
line_numbers line ts = whole_numbers line ++ (padded reading_fields ts ++ grade_numbers line.grades)

-- the used readings of a line that has no bad one
abbrev pub taken_numbers : Option (List ℕ) → List ℕ
taken_numbers None = []
taken_numbers (Some ts) = ts

unfoldable pub lines_numbers : (lines : List Line) → List (List ℕ)
lines_numbers [] = []
lines_numbers (line ∷ lines) = line_numbers line (taken_numbers (all_taken (used_of line))) ∷ lines_numbers lines

-- those of the header
abbrev pub header_numbers : (s : List ℕ) → List ℕ
header_numbers s = (sheet_header s).medium ∷ (sheet_header s).pollutant ∷ (sheet_header s).shown_unit ∷ []

unfoldable pub sheet_numbers : (s : List ℕ) → TypedSheet
sheet_numbers s =
    record {
      header = header_numbers s;
      lines = lines_numbers (lines_from s 0 (line_count s));
    }
