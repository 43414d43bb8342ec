-- "The sheet": when it is not malformed and within its limits. Its header is in `headers`.
use Rattle.std.specs.Prelude.{ℕ, ◌+◌, ◌*◌, Bool, ◌&&◌, List, [], ◌∷◌, leb, eqb}
use Rattle.little.specs.Read.{byte_at, u32_at}
use Rattle.search.specs.Test.{all, every}
use Rattle.headers.specs.Sheet.{sheet_header, line_count, line_size, sheet_header_ok}

-- ---- a line, 64 bytes: industry, product, material, process, scale, technique, reuse (u16 each); reading kind u8; zero u8;
-- ---- product kg u64; material kg u64; three binary64 a, b, c; three grades u8; five zero bytes

abbrev pub line_start : List ℕ → ℕ → ℕ
line_start s i = (sheet_header s).line_offset + line_size * i

abbrev pub kind_at : List ℕ → ℕ → ℕ
kind_at s at = byte_at s (at + 14)

-- line i: its kind is one of the four, and its zero bytes are zero
unfoldable pub line_ok : List ℕ → ℕ → Bool
line_ok s i =
    every
    (leb (kind_at s (line_start s i)) 3
    ∷ eqb (byte_at s (line_start s i + 15)) 0
    ∷ eqb (byte_at s (line_start s i + 59)) 0
    ∷ eqb (u32_at s (line_start s i + 60)) 0
    ∷ [])

abbrev pub lines_ok : List ℕ → Bool
lines_ok s = all (line_count s) (line_ok s)

unfoldable pub sheet_ok : List ℕ → Bool
sheet_ok s = sheet_header_ok s && lines_ok s
