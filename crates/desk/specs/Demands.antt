-- The three demands on what the desk answers, r, and leaves in its two results.
use Rattle.std.specs.Prelude.{ℕ, ◌+◌, ◌-◌, ◌*◌, ◌≤◌, ◌<◌, min, ◌≡◌, ◌≢◌, ◌⊎◌, List, length, drop, replicate, ⊤, Result, Ok, Some}
use Rattle.amounts.specs.Line.{removed_of, reused_of, discharged_of, ◌over◌, whole, manual_value, Sound}
use Rattle.settle.specs.declared.Grid.{Grid}
use Rattle.settle.specs.Grid.{grid}
use Rattle.settle.specs.Shown.{at, sum, Shown}
use Rattle.desk.specs.Lent.{Sources, Lent}
use Rattle.headers.specs.Book.{technique_block}
use Rattle.desk.specs.Row.{Hit, row_of}
use Rattle.desk.specs.Books.{book_for}
use Rattle.headers.specs.Sheet.{line_count}
use Rattle.desk.specs.Line.{line_of}
use Rattle.desk.specs.Cells.{width, discharged, table_size}
use Rattle.desk.specs.Dust.{dust_of}
use Rattle.desk.specs.Account.{treats, treatment_of, generated_of, in_water}
use Rattle.answers.specs.Answer.{answer_number, answer_line}
use Rattle.desk.specs.Table.{answer_of}
use Rattle.headers.specs.Unit.{unit_of_sheet}
use Rattle.desk.specs.declared.line.Line.{Line}
use Rattle.desk.specs.declared.row.Row.{Row}
use Rattle.answers.specs.declared.answer.Refusal.{Refusal}

-- ---- 1. Figures, or one of the numbered refusals, each given exactly when its rule says, with the line it concerns. A refusal
-- ---- leaves every result cell zero.

pub record Between (first last number : ℕ) : Type 0 where
  pub low : first ≤ number
  pub high : number ≤ last

-- a whole file or result: 1 to 3 or 13, with line 0
pub record OfFile (number line : ℕ) : Type 0 where
  pub rule : Between 1 3 number ⊎ (number ≡ 13)
  pub none : line ≡ 0

-- a line of the sheet, which has so many: 4 to 11, 14 or 15, with the line's number
pub record OfLine (lines number line : ℕ) : Type 0 where
  pub rule : Between 4 11 number ⊎ Between 14 15 number
  pub some : 1 ≤ line
  pub within : line ≤ lines

pub record Demand1 (f : Lent) (exact shown : List ℕ) (r : Result ⊤ Refusal) (exact' shown' : List ℕ) : Type 0 where
  -- rules 1, 13, 2 and 3, then the lines from 1 up, each by rules 4, 5, 15, 6, 14 and 7 to 11
  pub answer : r ≡ answer_of f (min (length exact) (length shown))
  pub numbered : r ≢ Ok tt → OfFile (answer_number r) (answer_line r) ⊎ OfLine (line_count f.sheet) (answer_number r) (answer_line r)
  pub exact_zero : r ≢ Ok tt → exact' ≡ replicate (length exact) 0
  pub shown_zero : r ≢ Ok tt → shown' ≡ replicate (length shown) 0
  -- past the table nothing changes
  pub exact_past : r ≡ Ok tt → drop (table_size (line_count f.sheet)) exact' ≡ drop (table_size (line_count f.sheet)) exact
  pub shown_past : r ≡ Ok tt → drop (table_size (line_count f.sheet)) shown' ≡ drop (table_size (line_count f.sheet)) shown

-- ---- 2. Generated is coefficient times activity, exact, and is raised by F, what escapes. Removed, reused and discharged follow the
-- ---- manuals' formulas from G without F, rounded only where the rules say. Discharged is never below the manual's exact value, readings
-- ---- as the rules take them, and less than two units above it; generated equals removed plus reused plus discharged plus F. Totals are
-- ---- sums over the lines.

-- a line of the sheet that left G, R, U, D, F
pub record LineDemand (from : Sources) (line : Line) (G R U D F : ℕ) : Type 0 where
  -- its row in the book that answers, and its treatment: the efficiency, and k = n over d
  pub row : Row
  pub efficiency : ℕ
  pub n : ℕ
  pub d : ℕ
  pub found : row_of (book_for from line.key) line.key ≡ Hit row
  pub treated : treatment_of (technique_block (book_for from line.key)) row line.technique line.reading ≡ treats efficiency n d
  -- what escapes, by the fugitive table
  pub escapes : dust_of from.fugitive line ≡ Some F
  -- G without F, and G
  pub ducted : ℕ
  pub meets : ducted ≡ generated_of row line
  pub generated : G ≡ ducted + F
  pub removed : R ≡ removed_of ducted efficiency n d
  pub reused : U ≡ reused_of (ducted - R) line.reuse (in_water line)
  pub discharged : D ≡ discharged_of (ducted - R) line.reuse (in_water line)
  -- without F it adds up, and D against the manual's exact value
  pub sound : Sound 2 (manual_value (whole ducted) (n over d) efficiency line.reuse (in_water line))
      (record { generated = ducted; removed = R; reused = U; discharged = D })
  pub adds : G ≡ R + U + D + F

-- cell j of row i, both counted from 0
abbrev pub cell_at : (cells : List ℕ) (i j : ℕ) → ℕ
cell_at cells i j = at cells (i * width + j)

pub record Demand2 (f : Lent) (exact' : List ℕ) : Type 0 where
  pub lines : (i : ℕ) → i < line_count f.sheet
      → LineDemand f.sources (line_of f.sheet i)
      (cell_at exact' i 0) (cell_at exact' i 1) (cell_at exact' i 2) (cell_at exact' i 3) (cell_at exact' i 4)
  pub totals : (j : ℕ) → j < width → cell_at exact' (line_count f.sheet) j ≡ sum exact' j width (line_count f.sheet)

-- ---- 3. Each shown figure, totals included, is at least the whole units in the exact figure and never more than one above them; an
-- ---- exact whole figure is shown as it is. Every shown row and column adds up.

-- a table of so many lines and the row of sums, in units of W
abbrev pub table_grid : (W lines : ℕ) → Grid
table_grid W lines = grid W width (lines + 1) discharged

abbrev pub Demand3 : (f : Lent) (exact' shown' : List ℕ) → Type 0
Demand3 f exact' shown' = Shown (table_grid (unit_of_sheet f.sheet) (line_count f.sheet)) exact' shown'
