-- The exact table, the refusals in their order, and what the lent cells hold afterwards.
use Rattle.std.specs.Prelude.{ℕ, zero, suc, ◌+◌, ◌≡◌, cond, List, [], ◌++◌, length, drop, replicate, leb, ⊤, Result, Ok, Err}
use Rattle.desk.specs.Lent.{Sources, Lent}
use Rattle.desk.specs.Book.{book_ok}
use Rattle.desk.specs.Entries.{fugitive_ok}
use Rattle.headers.specs.Sheet.{line_count}
use Rattle.desk.specs.Sheet.{sheet_ok}
use Rattle.desk.specs.Account.{line_outcome}
use Rattle.desk.specs.Cells.{table_size, cells_of, zeros}
use Rattle.desk.specs.Tally.{start, add}
use Rattle.answers.specs.declared.answer.FileFault.TheVariants.{OwnBookMalformed, BookMalformed, FugitiveMalformed}
use Rattle.answers.specs.declared.answer.FileFault.TheVariants.{SheetMalformed, ResultTooShort}
use Rattle.answers.specs.declared.answer.Refusal.{Refusal}
use Rattle.answers.specs.declared.answer.Refusal.TheVariants as refusal
use Rattle.answers.specs.declared.answer.LineFault.{LineFault}
use Rattle.desk.specs.declared.cells.TableRow.{TableRow}
use Rattle.desk.specs.declared.tally.Tally.{Tally}

-- ---- the table of n lines, where line i answers l i

abbrev pub row_given : Result TableRow LineFault → TableRow
row_given (Ok row) = row
row_given (Err fault) = zeros

unfoldable pub rows : (n : ℕ) (l : ℕ → Result TableRow LineFault) → List ℕ
rows zero l = []
rows (suc n) l = rows n l ++ cells_of (row_given (l n))

unfoldable pub total : (n : ℕ) (l : ℕ → Result TableRow LineFault) → Tally
total zero l = start
total (suc n) l = add (total n l) (row_given (l n))

-- the lines' rows, and the row of sums
unfoldable pub table_of : (n : ℕ) (l : ℕ → Result TableRow LineFault) → List ℕ
table_of n l = rows n l ++ cells_of (total n l).sums

-- ---- the answer

-- room for the lines and the row of sums
abbrev pub room_for : (lines room : ℕ) → Result ⊤ Refusal
room_for lines room = cond (leb (table_size lines) room) (Ok tt) (Err (refusal.File ResultTooShort))

-- what is wrong with the sheet, and then with the room
abbrev pub by_sheet : (s : List ℕ) (room : ℕ) → Result ⊤ Refusal
by_sheet s room = cond (sheet_ok s) (room_for (line_count s) room) (Err (refusal.File SheetMalformed))

-- what is wrong with the published book, and then with the fugitive table
unfoldable pub by_published : (b f : List ℕ) → Result ⊤ Refusal
by_published b f = cond (book_ok b) (cond (fugitive_ok f) (Ok tt) (Err (refusal.File FugitiveMalformed))) (Err (refusal.File BookMalformed))

-- what is wrong with the works' own book, before these
unfoldable pub by_sources : (from : Sources) → Result ⊤ Refusal
by_sources from = cond (book_ok from.own) (by_published from.book from.fugitive) (Err (refusal.File OwnBookMalformed))

-- what is refused first stands; where that is nothing, the next answer does
abbrev pub or_next : (first next : Result ⊤ Refusal) → Result ⊤ Refusal
or_next (Ok _) next = next
or_next (Err refused) next = Err refused

-- what is wrong with the sources, the sheet, the room, in this order; for results of which the shortest has this room
unfoldable pub by_files : (f : Lent) (room : ℕ) → Result ⊤ Refusal
by_files f room = or_next (by_sources f.sources) (by_sheet f.sheet room)

-- the first refused line decides; lines count from 1
abbrev pub or_line : (so_far : Result ⊤ Refusal) (line : Result TableRow LineFault) (n : ℕ) → Result ⊤ Refusal
or_line (Ok _) (Ok row) n = Ok tt
or_line (Ok _) (Err fault) n = Err (refusal.Line fault (n + 1))
or_line (Err refused) o n = Err refused

unfoldable pub by_lines : (n : ℕ) (l : ℕ → Result TableRow LineFault) → Result ⊤ Refusal
by_lines zero l = Ok tt
by_lines (suc n) l = or_line (by_lines n l) (l n) n

unfoldable pub answer_of : (f : Lent) (room : ℕ) → Result ⊤ Refusal
answer_of f room = or_next (by_files f room) (by_lines (line_count f.sheet) (line_outcome f))

-- ---- the cells

-- on acceptance the table, and past it what was there; on refusal zeros
unfoldable pub cells_after : (r : Result ⊤ Refusal) (n : ℕ) (l : ℕ → Result TableRow LineFault) (cells : List ℕ) → List ℕ
cells_after (Ok _) n l cells = table_of n l ++ drop (table_size n) cells
cells_after (Err refused) n l cells = replicate (length cells) 0

-- the whole promise for the exact table alone
pub record ExactTable (f : Lent) (cells : List ℕ) (r : Result ⊤ Refusal) (after : List ℕ) : Type 0 where
  pub answer : r ≡ answer_of f (length cells)
  pub table : after ≡ cells_after r (line_count f.sheet) (line_outcome f) cells
