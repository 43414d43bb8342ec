-- "Dust that never meets a duct": the fugitive table, its header and where its entries lie.
use Rattle.std.specs.Prelude.{ℕ, ◌+◌, ◌*◌, Bool, ◌&&◌, List, [], ◌∷◌, leb, eqb}
use Rattle.little.specs.Read.{u16_at, u32_at}
use Rattle.little.specs.Part.{part_of}
use Rattle.search.specs.Test.{every}
use Rattle.headers.specs.House.{file_ok}
use Rattle.fugitive.specs.Entry.{entry_size}

pub record FugitiveHeader : Type 0 where
  pub length : ℕ
  pub entries : ℕ
  pub zero : ℕ
  pub offset : ℕ

-- 12 bytes: length u32 (the bytes given), count u16, zero u16, offset u32
abbrev pub fugitive_header : List ℕ → FugitiveHeader
fugitive_header f = record { length = u32_at f 0; entries = u16_at f 4; zero = u16_at f 6; offset = u32_at f 8 }

abbrev pub fugitive_header_size : ℕ
fugitive_header_size = 12

abbrev pub entry_count : List ℕ → ℕ
entry_count f = (fugitive_header f).entries

-- at most so many
abbrev pub most_entries : ℕ
most_entries = 1024

-- the limit, the zero, and the entries behind the header and inside the length; gaps are not looked at
abbrev pub fugitive_fits : FugitiveHeader → Bool
fugitive_fits h =
    every
    (leb h.entries most_entries
    ∷ eqb h.zero 0
    ∷ leb fugitive_header_size h.offset
    ∷ leb (h.offset + entry_size * h.entries) h.length
    ∷ [])

unfoldable pub fugitive_header_ok : List ℕ → Bool
fugitive_header_ok f = file_ok f 0 fugitive_header_size && fugitive_fits (fugitive_header f)

-- entries count from 0
abbrev pub entry_start : (f : List ℕ) (i : ℕ) → ℕ
entry_start f i = (fugitive_header f).offset + entry_size * i

-- the bytes of entry i
abbrev pub entry_of : (f : List ℕ) (i : ℕ) → List ℕ
entry_of f i = part_of f (entry_start f i) entry_size
