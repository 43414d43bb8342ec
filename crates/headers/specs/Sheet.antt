-- "The sheet": its header.
use Rattle.std.specs.Prelude.{ℕ, ◌+◌, ◌*◌, Bool, ◌&&◌, not, List, [], ◌∷◌, leb, eqb}
use Rattle.little.specs.Read.{byte_at, u16_at, u32_at}
use Rattle.search.specs.Test.{every}
use Rattle.headers.specs.House.{file_ok}

pub record SheetHeader : Type 0 where
  pub length : ℕ
  pub lines : ℕ
  pub medium : ℕ
  pub pollutant : ℕ
  pub line_offset : ℕ
  pub shown_unit : ℕ

-- 16 bytes: whole length u32, line count u16, medium u8, pollutant u8, line offset u32, shown unit u32
abbrev pub sheet_header : List ℕ → SheetHeader
sheet_header s =
    record {
      length = u32_at s 0;
      lines = u16_at s 4;
      medium = byte_at s 6;
      pollutant = byte_at s 7;
      line_offset = u32_at s 8;
      shown_unit = u32_at s 12;
    }

abbrev pub sheet_header_size : ℕ
sheet_header_size = 16

abbrev pub line_count : List ℕ → ℕ
line_count s = (sheet_header s).lines

abbrev pub line_size : ℕ
line_size = 64

abbrev pub most_lines : ℕ
most_lines = 128

-- the limits, and the lines inside the length; the shown unit is 1 gram, 2 kilogram or 3 tonne
abbrev pub sheet_fits : SheetHeader → Bool
sheet_fits h =
    every
    (leb h.lines most_lines
    ∷ leb 1 h.medium
    ∷ leb h.medium 3
    ∷ not (eqb h.pollutant 0)
    ∷ leb sheet_header_size h.line_offset
    ∷ leb (h.line_offset + line_size * h.lines) h.length
    ∷ leb 1 h.shown_unit
    ∷ leb h.shown_unit 3
    ∷ [])

unfoldable pub sheet_header_ok : List ℕ → Bool
sheet_header_ok s = file_ok s 0 sheet_header_size && sheet_fits (sheet_header s)
