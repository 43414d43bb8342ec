-- Readers, writers and desks near the rules: each differs from them at a small text that is computed here, or is refuted in general.
use Rattle.std.specs.Prelude.{Err, Ok, Result, ⊤}
use Prim.Native.Nat.{ℕ, zero, suc, ◌+◌, ◌-◌, ◌≤◌, ◌<◌, min}
use mathlib.Core.Path.{◌≡◌, refl, sym, ap, ◌∙◌}
use mathlib.Core.Bool.{true, false, cond}
use mathlib.Core.List.{List, [], ◌∷◌, ◌++◌, append_assoc, append-nil}
use Rattle.std.specs.Prelude.{Option, None, Some}
use mathlib.Core.Logic.{◌⊎◌, inl, inr}
use native.Mathlib.Omega.{arith}
use lib.Dec.{leb, eqb}
use lib.ListN.{length, get_or, replicate}
use borrow.Author.Tests.{le-ltb, lt-leb}
use Rattle.search.specs.Test.{every}
use Rattle.search.specs.First.{first}
use Rattle.search.proofs.LawTest.{either_way, clash}
use Rattle.headers.specs.House.{most_bytes}
use Rattle.headers.specs.Sheet.{line_count}
use Rattle.numerals.specs.Numeral.{numeral, value_of}
use Rattle.numerals.specs.Typed.{all_digits, is_numeral, number_in, point_in, places_in, decimal_in}
use Rattle.numerals.specs.Word.{word}
use Rattle.records.specs.Records.{comma, quote, carriage_return, line_feed, pieces, ended, records_of, is_quoted, content_of}
use Rattle.answers.specs.declared.answer.FileFault.{FileFault}
use Rattle.answers.specs.declared.answer.FileFault.TheVariants.{OwnBookMalformed, BookMalformed, FugitiveMalformed, SheetMalformed, TextMalformed, ResultTooShort}
use Rattle.answers.specs.declared.answer.LineFault.TheVariants.{BadReading}
use Rattle.answers.specs.declared.answer.Refusal.{Refusal}
use Rattle.answers.specs.declared.answer.Refusal.TheVariants.{File, Line as OnLine}
use Rattle.shares.specs.declared.share.Reading.TheVariants.{None as NoReading, Throughout}
use Rattle.desk.specs.Book.{book_ok}
use Rattle.desk.specs.Entries.{fugitive_ok}
use Rattle.desk.specs.Sheet.{sheet_ok}
use Rattle.desk.specs.Line.{line_of}
use Rattle.desk.specs.Lent.{Sources, lent}
use Rattle.desk.specs.Cells.{table_size}
use Rattle.desk.specs.Account.{line_outcome}
use Rattle.desk.specs.Table.{by_published, by_sources, by_sheet, or_next, by_files, or_line, by_lines, answer_of}
use Rattle.desk.specs.declared.line.Line.{Line}
use Rattle.answers.specs.declared.answer.LineFault.{LineFault}
use Rattle.desk.specs.declared.cells.TableRow.{TableRow}
use Rattle.answers.specs.declared.answer.Refusal.{Refusal}
use Rattle.text.specs.Typed.{a_grade, header_fields, line_fields, line_width, needed_fields, reading_fields, field_number, followed, numbers_in, header_in, line_in, before, lines_in, TypedSheet, sheet_typed, sheet_in, typed_sheet}
use Rattle.text.specs.Binary.{technique_of, kind_of, used_readings, reading_bits, line_words, words_of, lines_bytes, header_words, binary_sheet}
use Rattle.text.specs.Convert.{Made, Gives, Refuses, by_room, Converts}
use Rattle.text.specs.Read.{sheet_of_text}
use Rattle.text.specs.Written.{record_end, record_text, readings_of, used_of, all_taken, reading_texts, line_texts, lines_from, header_texts, lines_text, text_of_sheet}
use Rattle.text.specs.Declare.{DeclaredBy, DeclaredText}
use Rattle.text.proofs.LawWritten.{field_fits, numeral_again}
use Rattle.text.proofs.LawLines.{too_long}
use Rattle.text.proofs.LawMade.{made_right}
use Rattle.text.proofs.LawBack.{line_given, sheet_given}
use Rattle.text.proofs.LawCode.{made_refused}

-- ---- small texts of one record: a medium, a pollutant and a unit

abbrev nought : ℕ
nought = 48

abbrev one : ℕ
one = 49

abbrev two : ℕ
two = 50

abbrev space : ℕ
space = 32

abbrev minus : ℕ
minus = 45

-- `1,FIELD,1` and a line end
abbrev with_field : (field : List ℕ) → List ℕ
with_field field = (one ∷ comma ∷ field) ++ (comma ∷ one ∷ record_end)

-- `1,1,1`
abbrev three_ones : List ℕ
three_ones = one ∷ comma ∷ one ∷ comma ∷ one ∷ []

-- the sheet of pollutant n without lines, of medium and unit 1
abbrev of_pollutant : (n : ℕ) → Option TypedSheet
of_pollutant n = Some (record { header = 1 ∷ n ∷ 1 ∷ []; lines = [] })

-- one that refuses quotes: "12" is 12, as 12 is
pub quoted_taken : (typed_sheet (with_field (quote ∷ one ∷ two ∷ quote ∷ [])) ≡ of_pollutant 12) × (typed_sheet (with_field (one ∷ two ∷ [])) ≡ of_pollutant 12)
unfolding typed_sheet records_of pieces ended numbers_in lines_in field_number content_of is_quoted every number_in is_numeral all_digits value_of
quoted_taken = (refl, refl)

-- one that drops a quote in the middle: 1"2, and 1"" which is closed again
pub quote_in_the_middle : (typed_sheet (with_field (one ∷ quote ∷ two ∷ [])) ≡ None) × (typed_sheet (with_field (one ∷ quote ∷ quote ∷ [])) ≡ None)
unfolding typed_sheet records_of pieces ended numbers_in lines_in field_number content_of is_quoted every number_in is_numeral all_digits value_of
quote_in_the_middle = (refl, refl)

-- one that drops a doubled quote: "1""2"
pub doubled_quote : typed_sheet (with_field (quote ∷ one ∷ quote ∷ quote ∷ two ∷ quote ∷ [])) ≡ None
unfolding typed_sheet records_of pieces ended numbers_in lines_in field_number content_of is_quoted every number_in is_numeral all_digits value_of
doubled_quote = refl

-- one that takes a comma for thousands: "1,2" is no 12
pub comma_for_thousands : typed_sheet (with_field (quote ∷ one ∷ comma ∷ two ∷ quote ∷ [])) ≡ None
unfolding typed_sheet records_of pieces ended numbers_in lines_in field_number content_of is_quoted every number_in is_numeral all_digits value_of
comma_for_thousands = refl

-- one that cuts fields inside quotes: 1,"1,1" has two fields
pub comma_in_quotes : typed_sheet (one ∷ comma ∷ quote ∷ one ∷ comma ∷ one ∷ quote ∷ record_end) ≡ None
unfolding typed_sheet records_of pieces ended numbers_in lines_in field_number content_of is_quoted every number_in is_numeral all_digits value_of
comma_in_quotes = refl

-- one that closes a quote by itself: "12
pub unclosed_quote : typed_sheet (with_field (quote ∷ one ∷ two ∷ [])) ≡ None
unfolding typed_sheet records_of pieces ended numbers_in lines_in field_number content_of is_quoted every number_in is_numeral all_digits value_of
unclosed_quote = refl

-- one that drops or joins what stands behind the closing quote: "1"2, and "12" with a space
pub behind_the_quote : (typed_sheet (with_field (quote ∷ one ∷ quote ∷ two ∷ [])) ≡ None) × (typed_sheet (with_field (quote ∷ one ∷ two ∷ quote ∷ space ∷ [])) ≡ None)
unfolding typed_sheet records_of pieces ended numbers_in lines_in field_number content_of is_quoted every number_in is_numeral all_digits value_of
behind_the_quote = (refl, refl)

-- one that takes a line feed alone, or a carriage return alone
pub half_a_line_end : (typed_sheet (three_ones ++ (line_feed ∷ [])) ≡ None) × (typed_sheet (three_ones ++ (carriage_return ∷ [])) ≡ None)
unfolding typed_sheet records_of pieces ended numbers_in lines_in field_number content_of is_quoted every number_in is_numeral all_digits value_of
half_a_line_end = (refl, refl)

-- one that asks for the last record's line end: with it and without it the same sheet of 16 bytes
pub last_end_missing : (sheet_of_text three_ones ≡ sheet_of_text (three_ones ++ record_end))
    × (sheet_of_text three_ones ≡ Gives (16 ∷ 0 ∷ 0 ∷ 0 ∷ 0 ∷ 0 ∷ 1 ∷ 1 ∷ 16 ∷ 0 ∷ 0 ∷ 0 ∷ 1 ∷ 0 ∷ 0 ∷ 0 ∷ []))
unfolding sheet_of_text typed_sheet records_of pieces ended numbers_in lines_in field_number content_of is_quoted every number_in is_numeral all_digits value_of
    binary_sheet words_of header_words lines_bytes word
last_end_missing = (refl, refl)

-- one that takes nothing, or a line end alone, for a sheet without lines
pub nothing_typed : (typed_sheet [] ≡ None) × (typed_sheet record_end ≡ None)
unfolding typed_sheet records_of pieces ended numbers_in lines_in field_number content_of is_quoted every number_in is_numeral all_digits value_of
nothing_typed = (refl, refl)

-- one that skips blank records
pub blank_record : typed_sheet (three_ones ++ record_end ++ record_end) ≡ None
unfolding typed_sheet records_of pieces ended numbers_in lines_in field_number content_of is_quoted every number_in is_numeral all_digits value_of
blank_record = refl

-- ---- readings that are not used

-- `1,1,1`, and a line of zeros but for its technique, its kind and its readings
abbrev with_line_of : (technique kind a b c : ℕ) → List ℕ
with_line_of technique kind a b c =
    three_ones ++ record_end
    ++ record_text
    (replicate 5 (nought ∷ [])
    ++ ((technique ∷ []) ∷ (nought ∷ []) ∷ (kind ∷ []) ∷ (nought ∷ []) ∷ (nought ∷ []) ∷ (a ∷ []) ∷ (b ∷ []) ∷ (c ∷ []) ∷ []))

-- one that keeps hours of technique 0: they are read, and the sheet is that of zeros
pub untreated_hours_kept : (typed_sheet (with_line_of nought one one two two)
    ≡ Some (record { header = 1 ∷ 1 ∷ 1 ∷ []; lines = (replicate 7 0 ++ (1 ∷ 0 ∷ 0 ∷ 1000 ∷ 2000 ∷ 2000 ∷ 0 ∷ 0 ∷ 0 ∷ [])) ∷ [] }))
    × (sheet_of_text (with_line_of nought one one two two) ≡ sheet_of_text (with_line_of nought one nought nought nought))
unfolding sheet_of_text typed_sheet record_text records_of pieces ended numbers_in lines_in field_number content_of is_quoted every number_in is_numeral
    all_digits value_of decimal_in point_in first places_in binary_sheet words_of header_words lines_bytes line_words reading_bits used_readings word
untreated_hours_kept = (refl, refl)

-- one that does not look at a reading that is not used: a minus sign for a
pub unused_but_malformed : typed_sheet (with_line_of nought nought minus nought nought) ≡ None
unfolding typed_sheet record_text records_of pieces ended numbers_in lines_in field_number content_of is_quoted every number_in is_numeral all_digits value_of
    decimal_in point_in first places_in
unused_but_malformed = refl

-- one that keeps any reading that is not used
pub unused_zero : (line : List ℕ) (r : ℕ) → used_readings (technique_of line) (kind_of line) ≤ r → reading_bits line r ≡ 0
unfolding reading_bits
unused_zero line r h = rw (le-ltb r (used_readings (technique_of line) (kind_of line)) h)

-- one by which technique 0 uses readings, or no reading and 'ran throughout' do
pub uses_none : (technique kind : ℕ) → (used_readings 0 kind ≡ 0) × (used_readings technique 0 ≡ 0) × (used_readings technique 3 ≡ 0)
unfolding used_readings
uses_none technique kind = (refl, treated, treated)
  where
    treated : ◌≡◌ {A = ℕ} (cond (eqb technique 0) 0 0) 0
    treated = either_way (eqb technique 0) (λ e. rw e) (λ e. rw e)

-- ---- the number of fields

followed_none : (first : Option ℕ) → followed first None ≡ None
followed_none (Some n) = refl
followed_none None = refl

-- a field that is needed is not there, or there is one too many
abbrev pub Miscounted : (needed most fields : ℕ) → Type 0
Miscounted needed most fields = (fields < needed) ⊎ (most < fields)

less_by_one : (needed most fields : ℕ) → Miscounted needed (suc most) (suc fields) → Miscounted (needed - 1) most fields
less_by_one needed most fields (inl few) = inl (omega arith)
less_by_one needed most fields (inr many) = inr (omega arith)

-- one that takes a record with a field too many or too few
pub fields_counted : (needed : ℕ) (takes : List ℕ) (fields : List (List ℕ)) → needed ≤ length takes
    → Miscounted needed (length takes) (length fields) → numbers_in needed takes fields ≡ None
unfolding numbers_in
fields_counted needed [] [] asked (inl few) = absurd (omega arith)
fields_counted needed [] [] asked (inr many) = absurd (omega arith)
fields_counted needed [] (field ∷ fields) asked other = refl
fields_counted zero (t ∷ takes) [] asked (inl few) = absurd (omega arith)
fields_counted zero (t ∷ takes) [] asked (inr many) = absurd (omega arith)
fields_counted (suc needed) (t ∷ takes) [] asked other = refl
fields_counted needed (t ∷ takes) (field ∷ fields) asked other =
    rw (fields_counted (needed - 1) takes fields (omega arith) (less_by_one needed (length takes) (length fields) other)) (followed_none (field_number t field))

-- one that reads what is left off as another number than 0: a record is read as with the numeral 0 behind it
pub left_off_zero : (needed : ℕ) (takes : List ℕ) (fields : List (List ℕ)) → needed ≤ length fields → length fields < length takes
    → field_number (get_or takes (length fields) 0) (numeral 0) ≡ Some 0
    → numbers_in needed takes fields ≡ numbers_in needed takes (fields ++ (numeral 0 ∷ []))
unfolding numbers_in
left_off_zero needed [] fields there more zero_is = absurd (omega arith)
left_off_zero zero (t ∷ takes) [] there more zero_is = rw zero_is refl
left_off_zero (suc needed) (t ∷ takes) [] there more zero_is = absurd (omega arith)
left_off_zero needed (t ∷ takes) (field ∷ fields) there more zero_is =
    rw (left_off_zero (needed - 1) takes fields (omega arith) (omega arith) zero_is) refl

-- so a line of thirteen fields, fourteen or fifteen is read as one with all its grades
pub grade_left_off : (fields : List (List ℕ)) → needed_fields ≤ length fields → length fields < line_width → line_in fields ≡ line_in (fields ++ (numeral 0 ∷ []))
grade_left_off fields there more = left_off_zero needed_fields line_fields fields there more (rw (graded (length fields) there more) zero_grade)
  where
    zero_grade : field_number a_grade (numeral 0) ≡ Some 0
    zero_grade = numeral_again a_grade 0 (field_fits a_grade 0 tt tt (omega arith))

    behind_needed : (k : ℕ) → k < 3 → get_or line_fields (needed_fields + k) 0 ≡ a_grade
    behind_needed zero h = refl
    behind_needed (suc zero) h = refl
    behind_needed (suc (suc zero)) h = refl
    behind_needed (suc (suc (suc k))) h = absurd (omega arith)

    graded : (n : ℕ) → needed_fields ≤ n → n < line_width → get_or line_fields n 0 ≡ a_grade
    graded n l h =
        let back : needed_fields + (n - needed_fields) ≡ n = omega arith in
        ap (λ (k : ℕ). get_or line_fields k 0) (sym back) ∙ behind_needed (n - needed_fields) (omega arith)

before_none : (line : Option (List ℕ)) → before line None ≡ None
before_none None = refl
before_none (Some line) = refl

lines_counted : (records : List (List (List ℕ))) (i : ℕ) → i < length records → Miscounted needed_fields line_width (length (get_or records i []))
    → lines_in records ≡ None
unfolding lines_in
lines_counted [] i h other = absurd (omega arith)
lines_counted (fields ∷ records) zero h other = rw (fields_counted needed_fields line_fields fields (omega arith) other) refl
lines_counted (fields ∷ records) (suc i) h other =
    rw (lines_counted records i (omega arith) other) (before_none (line_in fields))

module _ (text : List ℕ) (header : List (List ℕ)) (lines : List (List (List ℕ))) (cut : records_of text ≡ header ∷ lines) where
  typed_none : sheet_in (header ∷ lines) ≡ None → typed_sheet text ≡ None
  unfolding typed_sheet
  typed_none e = either_way (leb (length text) most_bytes) (λ l. rw (l, cut) e) (λ l. rw l refl)

  -- one that takes a header of four fields or two
  pub header_counted : Miscounted 3 3 (length header) → typed_sheet text ≡ None
  header_counted other = typed_none (rw (fields_counted 3 header_fields header (omega arith) other) refl)

  no_lines_lem : (numbers : Option (List ℕ)) → sheet_typed numbers None ≡ None
  no_lines_lem None = refl
  no_lines_lem (Some numbers) = refl

  -- one that takes a line of seventeen fields or twelve
  pub line_counted : (i : ℕ) → i < length lines → Miscounted 13 16 (length (get_or lines i [])) → typed_sheet text ≡ None
  line_counted i h other = typed_none (rw (lines_counted lines i h other) (no_lines_lem (header_in header)))

-- ---- what the reader answers

-- one that looks at the room first: a malformed text is refused with 12 whatever room there is, none included
pub malformed_first : (text : List ℕ) → typed_sheet text ≡ None → (room : ℕ) → by_room (sheet_of_text text) room ≡ Err (File TextMalformed)
unfolding sheet_of_text
malformed_first text e room = rw e refl

-- one that reads on past 65,536 bytes
pub long_malformed : (text : List ℕ) → most_bytes < length text → (room : ℕ) → by_room (sheet_of_text text) room ≡ Err (File TextMalformed)
long_malformed text long room = malformed_first text (too_long text long) room

-- one that leaves a byte behind a refusal
pub refusal_zero : (made : Made) (bytes : List ℕ) (r : Result ℕ Refusal) (left : List ℕ) → Converts made bytes r left
    → (refusal : Refusal) → r ≡ Err refusal → left ≡ replicate (length bytes) 0
refusal_zero made bytes r left p refusal is = p.holds ∙ rw is refl

-- ---- what the writer writes

-- the bytes end in a carriage return and a line feed
abbrev pub EndsLine : (bytes : List ℕ) → Type 0
EndsLine bytes = (front : List ℕ) × (bytes ≡ front ++ record_end)

behind : (a b : List ℕ) → EndsLine b → EndsLine (a ++ b)
behind a b ends = (a ++ ends.0, rw ends.1 (sym (append_assoc a ends.0 record_end)))

record_ends : (field : List ℕ) (fields : List (List ℕ)) → EndsLine (record_text (field ∷ fields))
unfolding record_text
record_ends field [] = (field, rw (append-nil record_end) refl)
record_ends field (next ∷ fields) = behind field (comma ∷ record_text (next ∷ fields)) (behind (comma ∷ []) (record_text (next ∷ fields)) (record_ends next fields))

line_ends : (line : Line) (ts : List ℕ) → EndsLine (record_text (line_texts line ts))
unfolding line_texts
line_ends line ts = record_ends _ _

-- lines behind bytes that end so
lines_end : (k : ℕ) (lines : List Line) (front bytes : List ℕ) → EndsLine front → lines_text k lines ≡ Gives bytes → EndsLine (front ++ bytes)
unfolding lines_text
lines_end k [] front bytes ends e = let none_left : [] ≡ bytes = cc in rw (← none_left, append-nil front) ends
lines_end k (line ∷ lines) front bytes ends e =
    let given = line_given k line lines bytes e in
    let own = record_text (line_texts line given.thousandths) in
    let more = lines_end (k + 1) lines (front ++ own) given.front.rest (behind front own (line_ends line given.thousandths)) given.front.gives in
    rw (given.front.all, ← append_assoc front own given.front.rest) more

-- one that leaves off the last line end
pub written_ends : (s w : List ℕ) → text_of_sheet s ≡ Gives w → EndsLine w
written_ends s w e =
    let given = sheet_given s w e in
    rw given.front.all (lines_end 0 (lines_from s 0 (line_count s)) (record_text (header_texts s)) given.front.rest (record_ends _ _) given.front.gives)

-- ---- what the writer answers

-- one that looks at readings or at the room before the sheet: one that is not right is refused with 2 whatever room there is
pub sheet_first : (s : List ℕ) → sheet_ok s ≡ false → (room : ℕ) → by_room (text_of_sheet s) room ≡ Err (File SheetMalformed)
unfolding text_of_sheet
sheet_first s wrong room = rw wrong refl

-- line j of these is the first with a used reading that is bad
pub record FirstBad (s : List ℕ) (i j : ℕ) : Type 0 where
  pub taken : (k : ℕ) → k < j → (ts : List ℕ) × (all_taken (used_of (line_of s (i + k))) ≡ Some ts)
  pub bad : all_taken (used_of (line_of s (i + j))) ≡ None

lines_refused : (s : List ℕ) (k i n j : ℕ) → j < n → FirstBad s i j → lines_text k (lines_from s i n) ≡ Refuses (OnLine BadReading (k + j + 1))
unfolding lines_from lines_text
lines_refused s k i zero j h first_bad = absurd (omega arith)
lines_refused s k i (suc n) zero h first_bad =
    let here : i + 0 ≡ i = omega arith in
    let there : k + 0 ≡ k = omega arith in
    rw (rw here at first_bad.bad, there) refl
lines_refused s k i (suc n) (suc j) h first_bad =
    let here : i + 0 ≡ i = omega arith in
    let own = first_bad.taken 0 (omega arith) in
    let next : k + suc j ≡ k + 1 + j = omega arith in
    rw (rw here at own.1, lines_refused s (k + 1) (suc i) n j (omega arith) (later here), next) refl
  where
    later : i + 0 ≡ i → FirstBad s (suc i) j
    later here =
        let on : (m : ℕ) → i + suc m ≡ suc i + m = λ m. omega arith in
        record { taken = λ m l. rw (← on m) (first_bad.taken (suc m) (omega arith)); bad = rw (← on j) first_bad.bad }

-- one that looks at the room before the readings, or names another line: the first bad one is refused with 9 whatever room there is
pub reading_second : (s : List ℕ) (j : ℕ) → sheet_ok s ≡ true → j < line_count s → FirstBad s 0 j
    → (room : ℕ) → by_room (text_of_sheet s) room ≡ Err (OnLine BadReading (j + 1))
unfolding text_of_sheet
reading_second s j right h first_bad room =
    let number : 0 + j ≡ j = omega arith in
    rw (right, lines_refused s 0 0 (line_count s) j h first_bad, number) refl

-- ---- what the desk answers for a text

-- lines refuse lines alone
no_file : (n : ℕ) (l : ℕ → Result TableRow LineFault) (fault : FileFault) → by_lines n l ≡ Err (File fault) → ⊥
unfolding by_lines
no_file zero l fault e = clash (cc)
no_file (suc n) l fault e = go (by_lines n l) (l n) (no_file n l fault) e
  where
    go : (so_far : Result ⊤ Refusal) (line : Result TableRow LineFault) → (so_far ≡ Err (File fault) → ⊥) → or_line so_far line n ≡ Err (File fault) → ⊥
    go (Ok _) (Ok row) other h = clash (cc)
    go (Ok _) (Err f) other h = clash (cc)
    go (Err refused) line other h = other h

-- sources are refused with 1 or 13
sources_no_two : (from : Sources) → by_sources from ≡ Err (File SheetMalformed) → ⊥
unfolding by_sources by_published
sources_no_two from e =
    either_way (book_ok from.own)
    (λ o. either_way (book_ok from.book)
    (λ b. either_way (fugitive_ok from.fugitive)
    (λ f. let z : Ok tt ≡ Err (File SheetMalformed) = rw (o, b, f) at e in clash (cc))
    (λ f. let z : Err (File FugitiveMalformed) ≡ Err (File SheetMalformed) = rw (o, b, f) at e in clash (cc)))
    (λ b. let z : Err (File BookMalformed) ≡ Err (File SheetMalformed) = rw (o, b) at e in clash (cc)))
    (λ o. let z : Err (File OwnBookMalformed) ≡ Err (File SheetMalformed) = rw o at e in clash (cc))

no_two : (from : Sources) (next : Result ⊤ Refusal) → (next ≡ Err (File SheetMalformed) → ⊥) → or_next (by_sources from) next ≡ Err (File SheetMalformed) → ⊥
no_two from next other e = go (by_sources from) refl e
  where
    go : (first : Result ⊤ Refusal) → by_sources from ≡ first → or_next first next ≡ Err (File SheetMalformed) → ⊥
    go (Ok _) is h = other h
    go (Err refused) is h = sources_no_two from (is ∙ h)

module _ (from : Sources) where
  -- sources that are not right, whatever the sheet
  sources_answer : (sheet : List ℕ) (room : ℕ) (fault : FileFault) → by_sources from ≡ Err (File fault) → answer_of (lent from sheet) room ≡ Err (File fault)
  unfolding answer_of by_files
  sources_answer sheet room fault wrong = rw wrong refl

  -- a right sheet is never refused with 2
  right_answer : (sheet : List ℕ) (room : ℕ) → sheet_ok sheet ≡ true → answer_of (lent from sheet) room ≡ Err (File SheetMalformed) → ⊥
  unfolding answer_of by_files
  right_answer sheet room right e =
      go (by_files (lent from sheet) room) (no_two from (by_sheet sheet room) sheet_other) e
    where
      sheet_other : by_sheet sheet room ≡ Err (File SheetMalformed) → ⊥
      sheet_other h =
          either_way (leb (table_size (line_count sheet)) room)
          (λ t. let z : Ok tt ≡ Err (File SheetMalformed) = rw (right, t) at h in clash (cc))
          (λ t. let z : Err (File ResultTooShort) ≡ Err (File SheetMalformed) = rw (right, t) at h in clash (cc))

      go : (files : Result ⊤ Refusal) → (files ≡ Err (File SheetMalformed) → ⊥)
          → or_next files (by_lines (line_count sheet) (line_outcome (lent from sheet))) ≡ Err (File SheetMalformed) → ⊥
      go (Ok _) other h = no_file (line_count sheet) (line_outcome (lent from sheet)) SheetMalformed h
      go (Err refused) other h = other h

  short_answer : (sheet : List ℕ) (room : ℕ) → by_sources from ≡ Ok tt → sheet_ok sheet ≡ true → room < table_size (line_count sheet)
      → answer_of (lent from sheet) room ≡ Err (File ResultTooShort)
  unfolding answer_of by_files
  short_answer sheet room right good few = rw (right, good, lt-leb (table_size (line_count sheet)) room few) refl

  module _ (text exact shown : List ℕ) (r : Result ⊤ Refusal) (exact' shown' : List ℕ) (p : DeclaredText from text exact shown r exact' shown') where
    -- one that looks at the text before the book and the fugitive table: where one of these is wrong it is refused whatever the text and the room
    pub sources_first_lem : (fault : FileFault) → by_sources from ≡ Err (File fault) → r ≡ Err (File fault)
    sources_first_lem fault wrong = go (sheet_of_text text) p
      where
        go : (made : Made) → DeclaredBy from made exact shown r exact' shown' → r ≡ Err (File fault)
        go (Gives sheet) q = q.demand1.answer ∙ sources_answer sheet (min (length exact) (length shown)) fault wrong
        go (Refuses refusal) q = q.answer ∙ rw wrong refl

    -- one that looks at the room before the text: a malformed text is refused with 12 whatever room there is, none included
    pub text_second : by_sources from ≡ Ok tt → typed_sheet text ≡ None → r ≡ Err (File TextMalformed)
    unfolding sheet_of_text
    text_second right e =
        let q : DeclaredBy from (Refuses (File TextMalformed)) exact shown r exact' shown' = rw e at p in
        q.answer ∙ rw right refl

    -- one that looks at a line before the room
    pub room_third : (sheet : List ℕ) → by_sources from ≡ Ok tt → sheet_of_text text ≡ Gives sheet → min (length exact) (length shown) < table_size (line_count sheet)
        → r ≡ Err (File ResultTooShort)
    room_third sheet right made few =
        let q : DeclaredBy from (Gives sheet) exact shown r exact' shown' = rw made at p in
        q.demand1.answer ∙ short_answer sheet (min (length exact) (length shown)) right (made_right text sheet made) few

    -- one that answers with 2, which is no matter of a text
    pub never_two : r ≡ Err (File SheetMalformed) → ⊥
    never_two is = go (sheet_of_text text) refl p
      where
        twelve_is_other : (refusal : Refusal) → sheet_of_text text ≡ Refuses refusal → refusal ≡ File SheetMalformed → ⊥
        twelve_is_other refusal made e = let z : File TextMalformed ≡ File SheetMalformed = sym (made_refused text refusal made) ∙ e in clash (cc)

        go : (made : Made) → sheet_of_text text ≡ made → DeclaredBy from made exact shown r exact' shown' → ⊥
        go (Gives sheet) made q = right_answer sheet (min (length exact) (length shown)) (made_right text sheet made) (sym q.demand1.answer ∙ is)
        go (Refuses refusal) made q = no_two from (Err refusal) (λ e. twelve_is_other refusal made (cc)) (sym q.answer ∙ is)

-- ---- readings that are not used, refused with 9 or written by the writer

pub untreated_uses_none : (line : Line) → line.technique ≡ 0 → all_taken (used_of line) ≡ Some []
unfolding all_taken
untreated_uses_none line none-used = rw none-used refl

-- of the kinds that use none
pub kindless_uses_none : (readings_of NoReading ≡ []) × (readings_of Throughout ≡ [])
kindless_uses_none = (refl, refl)

pub unused_written : reading_texts reading_fields [] ≡ numeral 0 ∷ numeral 0 ∷ numeral 0 ∷ []
unfolding reading_texts
unused_written = refl
