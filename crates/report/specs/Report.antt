-- "The program prints": the report of a sheet, byte for byte, in ASCII. The exact rows come first, then `unit` with W, then the shown
-- rows. After `exact` or `shown`: the line's number or `total`, then G, R, U, D, F. A refusal is only `refused N line L`.
use Rattle.std.specs.Prelude.{⊤, Result, Ok, Err, ℕ, zero, suc, ◌+◌, ◌*◌, ◌≤◌, ◌≡◌, cond, List, [], ◌∷◌, ◌++◌, leb, length, drop, replicate}
use Rattle.numerals.specs.Numeral.{most_digits, numeral}
use Rattle.settle.specs.Step.{shown_table}
use Rattle.desk.specs.Lent.{Lent}
use Rattle.headers.specs.Sheet.{line_count, most_lines}
use Rattle.desk.specs.Account.{line_outcome}
use Rattle.desk.specs.Cells.{width, table_size}
use Rattle.headers.specs.Unit.{unit_of_sheet}
use Rattle.answers.specs.Answer.{file_rule, line_rule}
use Rattle.desk.specs.Table.{table_of, answer_of}
use Rattle.desk.specs.Demands.{cell_at, table_grid}
use Rattle.answers.specs.declared.answer.Refusal.{Refusal}
use Rattle.answers.specs.declared.answer.Refusal.TheVariants.{File, Line}
use Rattle.report.specs.declared.NoRoom.{NoRoom}

-- ---- words

-- `exact`
abbrev pub exact_word : List ℕ
exact_word = 101 ∷ 120 ∷ 97 ∷ 99 ∷ 116 ∷ []

-- `shown`
abbrev pub shown_word : List ℕ
shown_word = 115 ∷ 104 ∷ 111 ∷ 119 ∷ 110 ∷ []

-- ` total`
abbrev pub total_word : List ℕ
total_word = 32 ∷ 116 ∷ 111 ∷ 116 ∷ 97 ∷ 108 ∷ []

-- `unit`
abbrev pub unit_word : List ℕ
unit_word = 117 ∷ 110 ∷ 105 ∷ 116 ∷ []

-- `refused`
abbrev pub refused_word : List ℕ
refused_word = 114 ∷ 101 ∷ 102 ∷ 117 ∷ 115 ∷ 101 ∷ 100 ∷ []

-- ` line`
abbrev pub line_word : List ℕ
line_word = 32 ∷ 108 ∷ 105 ∷ 110 ∷ 101 ∷ []

abbrev pub space : List ℕ
space = 32 ∷ []

abbrev pub line_end : List ℕ
line_end = 10 ∷ []

-- a space and the number
unfoldable pub number_text : (n : ℕ) → List ℕ
number_text n = space ++ numeral n

-- ---- rows and tables

-- G, R, U, D, F of row i, counted from 0
unfoldable pub amounts_text : (cells : List ℕ) (i : ℕ) → List ℕ
amounts_text cells i =
    number_text (cell_at cells i 0)
    ++ number_text (cell_at cells i 1)
    ++ number_text (cell_at cells i 2)
    ++ number_text (cell_at cells i 3)
    ++ number_text (cell_at cells i 4)
    ++ line_end

-- row i of a table with that name
unfoldable pub row_text : (name label cells : List ℕ) (i : ℕ) → List ℕ
row_text name label cells i = name ++ label ++ amounts_text cells i

-- the rows of the first n lines; lines count from 1
unfoldable pub lines_text : (name cells : List ℕ) (n : ℕ) → List ℕ
lines_text name cells zero = []
lines_text name cells (suc i) = lines_text name cells i ++ row_text name (number_text (i + 1)) cells i

-- the rows of n lines, and the row of sums
unfoldable pub table_text : (name cells : List ℕ) (n : ℕ) → List ℕ
table_text name cells n = lines_text name cells n ++ row_text name total_word cells n

-- ---- the report

-- the unit's line
unfoldable pub unit_text : (W : ℕ) → List ℕ
unit_text W = unit_word ++ number_text W ++ line_end

-- two tables of n lines, and W
unfoldable pub figures_text : (n W : ℕ) (exact shown : List ℕ) → List ℕ
figures_text n W exact shown = table_text exact_word exact n ++ unit_text W ++ table_text shown_word shown n

unfoldable pub refusal_text : (number line : ℕ) → List ℕ
refusal_text number line = refused_word ++ number_text number ++ line_word ++ number_text line ++ line_end

-- cells that are enough for every sheet
abbrev pub most_cells : ℕ
most_cells = table_size most_lines

-- the exact table of a sheet, and the shown one
abbrev pub exact_of : (f : Lent) → List ℕ
exact_of f = table_of (line_count f.sheet) (line_outcome f)

abbrev pub shown_of : (f : Lent) → List ℕ
shown_of f = shown_table (table_grid (unit_of_sheet f.sheet) (line_count f.sheet)) (exact_of f)

-- the report where the desk answers so
unfoldable pub report_for : (answer : Result ⊤ Refusal) (f : Lent) → List ℕ
report_for (Ok _) f = figures_text (line_count f.sheet) (unit_of_sheet f.sheet) (exact_of f) (shown_of f)
report_for (Err (File fault)) f = refusal_text (file_rule fault) 0
report_for (Err (Line fault line)) f = refusal_text (line_rule fault) line

-- the report, with room in both results for every sheet
unfoldable pub report_of : (f : Lent) → List ℕ
report_of f = report_for (answer_of f most_cells) f

-- ---- the promise

-- bytes of a number and the space before it, at most
abbrev pub most_number : ℕ
most_number = length space + most_digits

-- of G, R, U, D, F and the line end
abbrev pub most_amounts : ℕ
most_amounts = width * most_number + length line_end

-- of a row: both tables' names are as long, and `total` is shorter than a number may be
abbrev pub most_row : ℕ
most_row = length exact_word + most_number + most_amounts

-- of the unit's line
abbrev pub most_unit : ℕ
most_unit = length unit_word + most_number + length line_end

-- of a report: two tables of all rows, and the unit's line
abbrev pub most_text : ℕ
most_text = 2 * (most_row * (most_lines + 1)) + most_unit

-- the one answer of a text that is too short
abbrev pub no_room : NoRoom
no_room = record {}

-- all bytes of the report, or none
unfoldable pub written_of : (size room : ℕ) → Result ℕ NoRoom
written_of size room = cond (leb size room) (Ok size) (Err no_room)

-- the report, and past it what was there; or zeros
unfoldable pub text_after : (r : Result ℕ NoRoom) (report text : List ℕ) → List ℕ
text_after (Ok n) report text = report ++ drop n text
text_after (Err none) report text = replicate (length text) 0

-- a report written at the start of a lent text: it fits the bound, r says whether it has room, and what the text holds
pub record Wrote (report : List ℕ) (most : ℕ) (text : List ℕ) (r : Result ℕ NoRoom) (text' : List ℕ) : Type 0 where
  pub fits : length report ≤ most
  pub answer : r ≡ written_of (length report) (length text)
  pub holds : text' ≡ text_after r report text

-- the whole promise for the sources, a sheet and a lent text
abbrev pub Reported : (f : Lent) (text : List ℕ) (r : Result ℕ NoRoom) (text' : List ℕ) → Type 0
Reported f text r text' = Wrote (report_of f) most_text text r text'
