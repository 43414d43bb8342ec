-- When a line of a sheet is there: past the stated lines and past the sheet's end it is not, and in a right sheet every line is.
use Rattle.std.specs.Prelude.{Some, None}
use Prim.Native.Nat.{ℕ, ◌+◌, ◌≤◌, ◌<◌}
use mathlib.Core.Path.{◌≡◌}
use mathlib.Core.Bool.{true}
use mathlib.Core.List.{List}
use lib.ListN.{length}
use borrow.Author.Tests.{le-leb, lt-leb, lt-ltb, le-ltb}
use Rattle.search.proofs.LawTest.{and_left}
use Rattle.headers.specs.Sheet.{line_count, line_size, sheet_header_ok}
use Rattle.desk.specs.Sheet.{line_start, lines_ok, sheet_ok}
use Rattle.desk.specs.Line.{line_of}
use Rattle.desk.specs.Found.{sheet_line}
use Rattle.desk.proofs.LawBook.{line_in_lem}

module _ (s : List ℕ) (i : ℕ) where
  pub none_stated : line_count s ≤ i → None ≡ sheet_line s i
  unfolding sheet_line
  none_stated h = rw (le-leb (line_count s) i h)

  module _ (stated : i < line_count s) where
    pub none_inside : length s < line_start s i + line_size → None ≡ sheet_line s i
    unfolding sheet_line
    none_inside h = rw (lt-leb (line_count s) i stated, lt-ltb (length s) (line_start s i + line_size) h)

    pub line_there : line_start s i + line_size ≤ length s → sheet_line s i ≡ Some (line_of s i)
    unfolding sheet_line
    line_there h = rw (lt-leb (line_count s) i stated, le-ltb (length s) (line_start s i + line_size) h)

    -- in a right sheet
    pub right_line : sheet_ok s ≡ true → sheet_line s i ≡ Some (line_of s i)
    unfolding sheet_ok
    right_line ok = line_there (line_in_lem s (and_left (sheet_header_ok s) (lines_ok s) ok) i stated)
