-- A line of a sheet of any content, where it is there.
use Rattle.std.specs.Prelude.{ℕ, ◌+◌, cond, List, leb, ltb, length, Option, Some, None}
use Rattle.headers.specs.Sheet.{line_count, line_size}
use Rattle.desk.specs.Sheet.{line_start}
use Rattle.desk.specs.Line.{line_of}
use Rattle.desk.specs.declared.line.Line.{Line}

-- line i, counted from 0: the header states that many lines, and its bytes lie in the sheet
unfoldable pub sheet_line : (s : List ℕ) (i : ℕ) → Option Line
sheet_line s i =
    cond (leb (line_count s) i) None (cond (ltb (length s) (line_start s i + line_size)) None (Some (line_of s i)))
