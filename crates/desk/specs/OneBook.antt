-- The desk with one book: what is answered and left where the works' own book changes nothing.
use Rattle.std.specs.Prelude.{ℕ, min, ◌≡◌, ◌≢◌, List, ◌++◌, length, drop, replicate, ⊤, Result, Ok}
use Rattle.settle.specs.Step.{shown_table}
use Rattle.headers.specs.Sheet.{line_count}
use Rattle.headers.specs.Unit.{unit_of_sheet}
use Rattle.answers.specs.Answer.{answer_number, answer_line}
use Rattle.answers.specs.declared.answer.Refusal.{Refusal}
use Rattle.desk.specs.Line.{line_of}
use Rattle.desk.specs.declared.cells.TableRow.{TableRow}
use Rattle.desk.specs.Cells.{table_size}
use Rattle.desk.specs.Account.{account_in}
use Rattle.desk.specs.Table.{table_of, by_sheet, by_published, or_next, by_lines}
use Rattle.desk.specs.Demands.{table_grid}
use Rattle.answers.specs.declared.answer.LineFault.{LineFault}

-- line i of the sheet s by the book b and the fugitive table f
abbrev pub line_by_one : (b f s : List ℕ) (i : ℕ) → Result TableRow LineFault
line_by_one b f s i = account_in b f (line_of s i)

-- the book, the fugitive table, the sheet, the room, and then the lines
abbrev pub answer_by_one : (b f s : List ℕ) (room : ℕ) → Result ⊤ Refusal
answer_by_one b f s room = or_next (or_next (by_published b f) (by_sheet s room)) (by_lines (line_count s) (line_by_one b f s))

abbrev pub table_by_one : (b f s : List ℕ) → List ℕ
table_by_one b f s = table_of (line_count s) (line_by_one b f s)

-- the answer r and what both results hold are those of one book
pub record AsWithOne (b f s exact shown : List ℕ) (r : Result ⊤ Refusal) (exact' shown' : List ℕ) : Type 0 where
  pub number : answer_number r ≡ answer_number (answer_by_one b f s (min (length exact) (length shown)))
  pub line : answer_line r ≡ answer_line (answer_by_one b f s (min (length exact) (length shown)))
  -- on acceptance both tables, and past them what was there
  pub exact_table : r ≡ Ok tt → exact' ≡ table_by_one b f s ++ drop (table_size (line_count s)) exact
  pub shown_cells : r ≡ Ok tt
      → shown' ≡ shown_table (table_grid (unit_of_sheet s) (line_count s)) (table_by_one b f s) ++ drop (table_size (line_count s)) shown
  -- on refusal zeros
  pub exact_zero : r ≢ Ok tt → exact' ≡ replicate (length exact) 0
  pub shown_zero : r ≢ Ok tt → shown' ≡ replicate (length shown) 0
