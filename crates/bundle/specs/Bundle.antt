-- "A whole works in one call": the bundle, where its sheets lie, and when it is not malformed.
use Rattle.std.specs.Prelude.{ℕ, zero, suc, ◌+◌, ◌*◌, Bool, true, cond, ◌&&◌, List, [], ◌∷◌, leb, ltb, eqb}
use Rattle.little.specs.Read.{u16_at, u32_at}
use Rattle.little.specs.Part.{part_of}
use Rattle.search.specs.Test.{all, every}
use Rattle.headers.specs.House.{file_ok}

pub record BundleHeader : Type 0 where
  pub length : ℕ
  pub sheets : ℕ
  pub zero : ℕ
  pub cells : ℕ

-- 12 bytes: length u32 (the bytes given), count u16, zero u16, cells per sheet u32
abbrev pub bundle_header : List ℕ → BundleHeader
bundle_header b = record { length = u32_at b 0; sheets = u16_at b 4; zero = u16_at b 6; cells = u32_at b 8 }

abbrev pub bundle_header_size : ℕ
bundle_header_size = 12

abbrev pub sheet_count : List ℕ → ℕ
sheet_count b = (bundle_header b).sheets

-- at most so many
abbrev pub most_sheets : ℕ
most_sheets = 16

-- the cells of each result that one sheet owns
abbrev pub cells_per_sheet : List ℕ → ℕ
cells_per_sheet b = (bundle_header b).cells

-- ---- then for each sheet an entry, 8 bytes: offset u32 and length u32

abbrev pub entry_size : ℕ
entry_size = 8

abbrev pub entries_end : List ℕ → ℕ
entries_end b = bundle_header_size + entry_size * sheet_count b

-- sheets count from 0
abbrev pub sheet_offset : List ℕ → ℕ → ℕ
sheet_offset b i = u32_at b (bundle_header_size + entry_size * i)

abbrev pub sheet_length : List ℕ → ℕ → ℕ
sheet_length b i = u32_at b (bundle_header_size + entry_size * i + 4)

abbrev pub sheet_end : List ℕ → ℕ → ℕ
sheet_end b i = sheet_offset b i + sheet_length b i

-- the bytes of sheet i; past the last sheet, none
unfoldable pub sheet_of : List ℕ → ℕ → List ℕ
sheet_of b i = cond (ltb i (sheet_count b)) (part_of b (sheet_offset b i) (sheet_length b i)) []

-- ---- when it is not malformed

-- at most so many sheets, the zero, and the entries inside the length
abbrev pub bundle_fits : List ℕ → List Bool
bundle_fits b = leb (sheet_count b) most_sheets ∷ eqb (bundle_header b).zero 0 ∷ leb (entries_end b) (bundle_header b).length ∷ []

unfoldable pub bundle_header_ok : List ℕ → Bool
bundle_header_ok b = file_ok b 0 bundle_header_size && every (bundle_fits b)

-- sheet i does not begin before the end of the sheet before it
unfoldable pub after_the_one_before : List ℕ → ℕ → Bool
after_the_one_before b zero = true
after_the_one_before b (suc i) = leb (sheet_end b i) (sheet_offset b (suc i))

-- nor before the end of the entries, and it ends inside the length; gaps are not looked at
unfoldable pub entry_ok : List ℕ → ℕ → Bool
entry_ok b i =
    every
    (leb (entries_end b) (sheet_offset b i)
    ∷ after_the_one_before b i
    ∷ leb (sheet_end b i) (bundle_header b).length
    ∷ [])

abbrev pub entries_ok : List ℕ → Bool
entries_ok b = all (sheet_count b) (entry_ok b)

unfoldable pub bundle_ok : List ℕ → Bool
bundle_ok b = bundle_header_ok b && entries_ok b
