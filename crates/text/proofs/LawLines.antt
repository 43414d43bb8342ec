-- The records of a text read one after the other, each laid as a line behind those before it; and the header laid last, in front of them.
use Prim.Native.Nat.{ℕ, zero, suc, ◌+◌, ◌≤◌, ◌<◌}
use mathlib.Core.Path.{◌≡◌, refl, sym, ap, ◌∙◌}
use mathlib.Core.Bool.{Bool, true, false, not, ◌&&◌, ◌||◌}
use mathlib.Core.List.{List, [], ◌∷◌, ◌++◌, append_assoc, append-nil}
use Rattle.std.specs.Prelude.{Option, None, Some}
use Rattle.std.specs.Bool.{then_some}
use Rattle.std.specs.List.{list_any}
use native.Mathlib.Nat.{zero-add}
use native.Mathlib.Omega.{arith}
use lib.Dec.{leb, eqb}
use lib.ListN.{length, drop, length-append, length-drop, drop_of_length-le}
use borrow.Author.Tests.{le-leb, lt-leb, leb-true, leb-false, ne_eqb}
use Rattle.search.specs.Test.{every}
use Rattle.search.proofs.LawTest.{either_way, clash}
use Rattle.headers.specs.House.{most_bytes}
use Rattle.headers.specs.Sheet.{sheet_header_size, most_lines}
use Rattle.numerals.specs.Laid.{laid}
use Rattle.numerals.specs.Typed.{is_numeral, number_in}
use Rattle.numerals.proofs.LawLaid.{laid_more, laid_none, laid_before, length_laid}
use Rattle.records.specs.Records.{pieces, record_in, records_of, is_quoted, content_of}
use Rattle.records.specs.Inner.{following}
use Rattle.records.proofs.LawField.{some_records, no_records}
use Rattle.text.specs.Typed.{field_number, numbers_in, header_in, line_in, before, lines_in, few_lines, none_zero, sheet_typed, sheet_in, typed_sheet}
use Rattle.text.specs.Binary.{line_bytes, lines_bytes, sheet_size, header_sizes, header_words, words_of, binary_sheet}
use Rattle.text.specs.Inner.{all_before, LinesLaid, LinesFound, SheetLaid}
use Rattle.text.proofs.LawBinary.{lines_size, header_size}

-- ---- these lines before others

before_none : (lines : List (List ℕ)) → all_before lines None ≡ None
unfolding all_before
before_none [] = refl
before_none (line ∷ lines) = rw (before_none lines) refl

before_some : (lines others : List (List ℕ)) → all_before lines (Some others) ≡ Some (lines ++ others)
unfolding all_before
before_some [] others = refl
before_some (line ∷ lines) others = rw (before_some lines others) refl

before_one : (lines : List (List ℕ)) (line : List ℕ) (others : Option (List (List ℕ)))
    → all_before lines (before (Some line) others) ≡ all_before (lines ++ (line ∷ [])) others
unfolding all_before
before_one [] line others = refl
before_one (l ∷ lines) line others = rw (before_one lines line others) refl

bytes_one : (lines : List (List ℕ)) (line : List ℕ) → lines_bytes (lines ++ (line ∷ [])) ≡ lines_bytes lines ++ line_bytes line
unfolding lines_bytes
bytes_one [] line = append-nil (line_bytes line)
bytes_one (l ∷ lines) line = rw (bytes_one lines line) (sym (append_assoc (line_bytes l) (lines_bytes lines) (line_bytes line)))

-- more than 128
too_many : (lines : List (List ℕ)) (others : Option (List (List ℕ))) (line : Option (List ℕ)) → length lines ≡ most_lines
    → few_lines (all_before lines (before line others)) ≡ None
too_many lines others None e = rw (before_none lines) refl
too_many lines None (Some line) e = rw (before_none lines) refl
too_many lines (Some others) (Some line) e =
    let size : length (lines ++ (line ∷ others)) ≡ most_lines + length (line ∷ others) = length-append lines (line ∷ others) ∙ rw e refl in
    rw (before_some lines (line ∷ others), lt-leb (length (lines ++ (line ∷ others))) most_lines (omega (arith, size))) refl

-- ---- the lines of the text from `at` on

module _ (text : List ℕ) (at : ℕ) (sheet : List ℕ) where
  abbrev left : (place : ℕ) → Option (List (List ℕ))
  left place = lines_in (records_of (drop place text))

  pub record LinesSoFar (sheet' : List ℕ) (next lines : ℕ) : Type 0 where
    pub done : List (List ℕ)
    pub count : length done ≡ lines
    pub few : lines ≤ most_lines
    pub holds : sheet' ≡ laid sheet_header_size (lines_bytes done) sheet
    pub whole : left at ≡ all_before done (left next)

  pub lines_start : LinesSoFar sheet at 0
  unfolding all_before lines_bytes
  lines_start = record { done = []; count = refl; few = omega arith; holds = laid_none sheet_header_size sheet; whole = refl }

  module _ (sheet' : List ℕ) (next lines : ℕ) (so_far : LinesSoFar sheet' next lines) where
    pub lines_length : length sheet' ≡ length sheet
    lines_length = ap length so_far.holds ∙ length_laid sheet_header_size _ sheet

    pub lines_done : length text ≤ next → LinesLaid (records_of (drop at text)) sheet lines sheet'
    unfolding lines_in
    lines_done past =
        let gone : left next ≡ Some [] = rw (drop_of_length-le text {i = next} past, no_records) refl in
        let all : left at ≡ Some so_far.done = so_far.whole ∙ rw (gone, before_some so_far.done [], append-nil so_far.done) refl in
        let few : length so_far.done ≤ most_lines = omega (arith, so_far.few, so_far.count) in
        record {
          lines = so_far.done;
          typed = rw (all, le-leb (length so_far.done) most_lines few) refl;
          count = so_far.count;
          few = so_far.few;
          holds = so_far.holds;
        }

    module _ (more : next < length text) where
      abbrev here : List (List ℕ)
      here = record_in (pieces false (drop next text))

      abbrev others : List (List (List ℕ))
      others = following (pieces false (drop next text)).records

      opened : left next ≡ before (line_in here) (lines_in others)
      unfolding lines_in
      opened = rw (some_records (drop next text) (omega (arith, more, length-drop next text))) refl

      pub lines_many : lines ≡ most_lines → few_lines (left at) ≡ None
      lines_many e = rw (so_far.whole, opened) (too_many so_far.done (lines_in others) (line_in here) (so_far.count ∙ e))

      pub lines_broken : line_in here ≡ None → few_lines (left at) ≡ None
      lines_broken e = rw (so_far.whole, opened, e, before_none so_far.done) refl

      pub lines_step : (lines ≡ most_lines → ⊥) → (numbers : List ℕ) (after : ℕ) (sheet'' : List ℕ) → line_in here ≡ Some numbers
          → others ≡ records_of (drop after text) → sheet'' ≡ laid (sheet_size lines) (line_bytes numbers) sheet' → LinesSoFar sheet'' after (lines + 1)
      lines_step other numbers after sheet'' is next-record put =
          let place : sheet_size lines ≡ sheet_header_size + length (lines_bytes so_far.done) = omega (arith, lines_size so_far.done, so_far.count) in
          record {
            done = so_far.done ++ (numbers ∷ []);
            count = length-append so_far.done (numbers ∷ []) ∙ rw so_far.count refl;
            few = omega (arith, so_far.few, other);
            holds =
                put
                ∙ rw (place, so_far.holds, bytes_one so_far.done numbers)
                (laid_more sheet_header_size (lines_bytes so_far.done) (line_bytes numbers) sheet);
            whole = so_far.whole ∙ rw (opened, is, next-record) (before_one so_far.done numbers (left after));
          }

    -- behind the last line that has room the text ends, or there are too many
    pub lines_end : lines ≡ most_lines → LinesFound text at sheet (then_some (leb (length text) next) most_lines) sheet'
    lines_end e =
        either_way (leb (length text) next)
        (λ t. rw t (rw e at (lines_done (leb-true (length text) next t))))
        (λ t. rw t (lines_many (leb-false (length text) next t) e))

-- ---- the header's three numbers

-- a number that is 0 is not at least 1
least : (n : ℕ) → leb 1 n ≡ not (eqb n 0)
least zero = refl
least (suc n) = rw (le-leb 1 (suc n) (omega arith), ne_eqb (suc n) 0 (λ e. omega (arith, e))) refl

neither : (x y : Bool) → (not x && not y) ≡ not (x || y)
neither true y = refl
neither false y = refl

abbrev pub is_zero : (n : ℕ) → Bool
is_zero n = eqb n 0

none_is_zero : (h : List ℕ) → none_zero h ≡ not (list_any is_zero h)
none_is_zero [] = refl
none_is_zero (n ∷ h) = rw (least n, none_is_zero h) (neither (is_zero n) (list_any is_zero h))

-- ---- the sheet

-- a text that is too long, or has no header
module _ (text : List ℕ) where
  pub too_long : most_bytes < length text → typed_sheet text ≡ None
  unfolding typed_sheet
  too_long l = rw (lt-leb (length text) most_bytes l) refl

  abbrev first : List (List ℕ)
  first = record_in (pieces false text)

  abbrev rest : List (List (List ℕ))
  rest = following (pieces false text).records

  -- a text of no bytes has no header
  no_text : header_in (record_in (pieces false [])) ≡ None
  unfolding pieces numbers_in field_number content_of is_quoted every number_in is_numeral
  no_text = refl

  pub no_header : header_in first ≡ None → typed_sheet text ≡ None
  unfolding typed_sheet
  no_header e = either_way (leb (length text) most_bytes) (λ l. rw l (go text refl)) (λ l. rw l refl)
    where
      go : (t : List ℕ) → text ≡ t → sheet_in (records_of text) ≡ None
      go [] same = rw (same, no_records) refl
      go (b ∷ t) same = rw (some_records text (omega (arith, ap length same)), e) refl

  module _ (short : length text ≤ most_bytes) (header : List ℕ) (said : header_in first ≡ Some header) where
    some_text : 0 < length text
    some_text = go text refl
      where
        go : (t : List ℕ) → text ≡ t → 0 < length text
        go [] same = let z : None ≡ Some header = sym no_text ∙ rw same at said in clash (cc)
        go (b ∷ t) same = omega (arith, ap length same)

    pub typed_by : typed_sheet text ≡ sheet_typed (Some header) (few_lines (lines_in rest))
    unfolding typed_sheet
    typed_by = rw (le-leb (length text) most_bytes short, some_records text some_text, said) refl

    -- whether one of the header's numbers is 0
    abbrev pub has_zero : Bool
    has_zero = list_any is_zero header

    none_zero_lem : none_zero header ≡ not has_zero
    none_zero_lem = none_is_zero header

    pub zero_header : has_zero ≡ true → typed_sheet text ≡ None
    zero_header z = typed_by ∙ go (few_lines (lines_in rest))
      where
        go : (o : Option (List (List ℕ))) → sheet_typed (Some header) o ≡ None
        go None = refl
        go (Some lines) = rw (none_zero_lem, z) refl

    module _ (at : ℕ) (next : rest ≡ records_of (drop at text)) where
      pub bad_lines : few_lines (lines_in (records_of (drop at text))) ≡ None → typed_sheet text ≡ None
      bad_lines e = typed_by ∙ rw (next, e) refl

      -- the header is laid in front of the lines
      pub header_laid : has_zero ≡ false → (sheet sheet' sheet'' : List ℕ) (n : ℕ) → LinesLaid (records_of (drop at text)) sheet n sheet'
          → sheet'' ≡ laid 0 (words_of header_sizes (header_words header n)) sheet' → SheetLaid text sheet n sheet''
      unfolding binary_sheet
      header_laid z sheet sheet' sheet'' n lines put =
          record {
            typed = record { header = header; lines = lines.lines };
            is = typed_by ∙ rw (next, lines.typed, none_zero_lem, z) refl;
            count = lines.count;
            few = lines.few;
            holds =
                put
                ∙ rw (lines.holds, ← lines.count)
                (rw (zero-add, header_size header (length lines.lines)) at
                (laid_before 0 (words_of header_sizes (header_words header (length lines.lines))) (lines_bytes lines.lines) sheet));
          }
