-- What private functions ask and answer, beside what a promise says. Nothing here is needed to read a promise.
use Rattle.std.specs.Prelude.{Result, ℕ, zero, suc, ◌+◌, ◌/◌, ◌%◌, ◌≤◌, ◌<◌, ◌≡◌, true, cond, List, [], ◌++◌, eqb, length, take, replicate}
use Rattle.little.specs.Read.{u16_range}
use Rattle.settle.specs.Shown.{at as cell}
use Rattle.answers.specs.Answer.{number_unit}
use Rattle.bundle.specs.Bundle.{most_sheets, sheet_count, sheet_of}
use Rattle.bundle.specs.Whole.{roomy}
use Rattle.headers.specs.Sheet.{line_count, most_lines}
use Rattle.headers.specs.Unit.{unit_of_sheet}
use Rattle.desk.specs.Cells.{table_size}
use Rattle.desk.specs.Demands.{cell_at}
use Rattle.desk.specs.Works.{Results, run_of}
use Rattle.numerals.specs.Laid.{reach, Puts}
use Rattle.report.specs.declared.NoRoom.{NoRoom}
use Rattle.report.specs.declared.writer.Writer.{Writer}
use Rattle.report.specs.Report.{number_text, exact_word, refused_word, line_word, line_end, most_number, most_text}
use Rattle.report.specs.Report.{figures_text, refusal_text, written_of}
use Rattle.report.specs.Bundle.{sheet_line, most_sheet_text}

-- what a u16 counts is below it
abbrev pub counted : ℕ
counted = u16_range

-- the letters of a table's name
abbrev pub name_size : ℕ
name_size = length exact_word

-- bytes of a refusal, at most
abbrev pub most_refusal : ℕ
most_refusal = length refused_word + most_number + length line_word + most_number + length line_end

-- these bytes are put, at most so many; it is the same text that is written
pub record Adds (bytes : List ℕ) (most : ℕ) (before after : Writer) : Type 0 where
  pub same : after.text.ghost_name ≡ before.text.ghost_name
  pub puts : Puts bytes most before.at before.text.now after.at after.text.now

-- r says whether a text that ends there has room; where it has none, every byte is cleared
pub record Finished (end : ℕ) (text : List ℕ) (r : Result ℕ NoRoom) (text' : List ℕ) : Type 0 where
  pub answer : r ≡ written_of end (length text)
  pub all : end ≤ length text → text' ≡ text
  pub none : length text < end → text' ≡ replicate (length text) 0

-- the first n cells of row i
unfoldable pub cells_text : (cells : List ℕ) (i n : ℕ) → List ℕ
cells_text cells i zero = []
cells_text cells i (suc n) = cells_text cells i n ++ number_text (cell_at cells i n)

-- the cells of a result that are the sheet's table
abbrev pub table_in : (sheet cells : List ℕ) → List ℕ
table_in sheet cells = take (table_size (line_count sheet)) cells

-- an answer by its code, and the results that the desk left: figures, or the refusal's number and line
unfoldable pub answer_text : (code : ℕ) (sheet exact shown : List ℕ) → List ℕ
answer_text code sheet exact shown =
    cond (eqb code 0)
    (figures_text (line_count sheet) (unit_of_sheet sheet) (table_in sheet exact) (table_in sheet shown))
    (refusal_text (code / number_unit) (code % number_unit))

-- what telling an answer asks: figures are of at most so many lines as a good sheet has
pub record Tellable (at code : ℕ) (sheet : List ℕ) : Type 0 where
  pub few : code ≡ 0 → line_count sheet ≤ most_lines
  pub within : at + most_text ≤ reach

-- ---- the sheets of a bundle, by what the desk left

-- the line and the answer of sheet i
abbrev pub sheet_text : (bundle : List ℕ) (after : Results) (i : ℕ) → List ℕ
sheet_text bundle after i =
    sheet_line i ++ answer_text (cell after.outcomes i) (sheet_of bundle i) (run_of bundle i after.exact) (run_of bundle i after.shown)

unfoldable pub sheet_texts : (bundle : List ℕ) (after : Results) (n : ℕ) → List ℕ
sheet_texts bundle after zero = []
sheet_texts bundle after (suc i) = sheet_texts bundle after i ++ sheet_text bundle after i

-- what the sheets ask: there is room for each, and no more lines than a good sheet has where there are figures
pub record SheetsTellable (bundle : List ℕ) (after : Results) : Type 0 where
  pub few : sheet_count bundle ≤ most_sheets
  pub room : roomy bundle (length after.exact) (length after.shown) (length after.outcomes) ≡ true
  pub lines : (i : ℕ) → i < sheet_count bundle → cell after.outcomes i ≡ 0 → line_count (sheet_of bundle i) ≤ most_lines

-- and what one of them asks
pub record SheetTellable (bundle : List ℕ) (after : Results) (i at : ℕ) : Type 0 where
  pub all : SheetsTellable bundle after
  pub one : i < sheet_count bundle
  pub within : at + most_sheet_text ≤ reach

-- what a row of a table with that name asks, i counted from 0, and so does a run of rows up to i
pub record Rowable (name : List ℕ) (i at most : ℕ) : Type 0 where
  pub named : length name ≡ name_size
  pub few : i < counted
  pub within : at + most ≤ reach
