-- "The book": its header, and where its blocks lie.
use Rattle.std.specs.Prelude.{ℕ, ◌+◌, ◌*◌, Bool, ◌&&◌, List, [], ◌∷◌, leb}
use Rattle.little.specs.Read.{u16_at, u32_at}
use Rattle.little.specs.Part.{part_of}
use Rattle.search.specs.Test.{every}
use Rattle.headers.specs.House.{file_ok}

-- where it begins and its size, the size of a row, and what it states
pub record BookHeader : Type 0 where
  pub origin : ℕ
  pub size : ℕ
  pub row_size : ℕ
  pub length : ℕ
  pub rows : ℕ
  pub techniques : ℕ
  pub row_offset : ℕ
  pub technique_offset : ℕ

-- 16 bytes: whole length u32, row count u16, technique count u16, row offset u32, technique offset u32. A row has 24
abbrev pub book_header : List ℕ → BookHeader
book_header b =
    record {
      origin = 0;
      size = 16;
      row_size = 24;
      length = u32_at b 0;
      rows = u16_at b 4;
      techniques = u16_at b 6;
      row_offset = u32_at b 8;
      technique_offset = u32_at b 12;
    }

abbrev pub row_count : List ℕ → ℕ
row_count b = (book_header b).rows

abbrev pub technique_count : List ℕ → ℕ
technique_count b = (book_header b).techniques

abbrev pub most_rows : ℕ
most_rows = 1024

abbrev pub most_techniques : ℕ
most_techniques = 4096

abbrev pub technique_size : ℕ
technique_size = 4

-- the limits, and the blocks one after the other; gaps are not looked at
abbrev pub book_fits : BookHeader → Bool
book_fits h =
    every
    (leb h.rows most_rows
    ∷ leb h.techniques most_techniques
    ∷ leb h.size h.row_offset
    ∷ leb (h.row_offset + h.row_size * h.rows) h.technique_offset
    ∷ leb (h.technique_offset + technique_size * h.techniques) h.length
    ∷ [])

unfoldable pub book_header_ok : List ℕ → Bool
book_header_ok b = file_ok b (book_header b).origin (book_header b).size && book_fits (book_header b)

-- the block is a part of the book that begins at its offset
unfoldable pub technique_block : List ℕ → List ℕ
technique_block b = part_of b (book_header b).technique_offset (technique_size * technique_count b)
