-- "The book": when it is not malformed and within its limits. Its header is in `headers`.
use Rattle.std.specs.Prelude.{ℕ, ◌+◌, ◌*◌, ◌-◌, ◌^◌, Bool, ◌&&◌, ◌||◌, not, List, [], ◌∷◌, leb, ltb, eqb}
use Rattle.amounts.specs.Line.{whole_share}
use Rattle.little.specs.Read.{byte_at, u16_at, u32_at}
use Rattle.search.specs.Test.{all, every}
use Rattle.headers.specs.Book.{book_header, row_count, technique_count, technique_size, book_header_ok, technique_block}
use Rattle.desk.specs.Key.{key_from, key_less}
use Rattle.desk.specs.declared.key.Key.{Key}

-- ---- a technique, 4 bytes of the block: code u16, efficiency u16

abbrev pub technique_code : List ℕ → ℕ → ℕ
technique_code t k = u16_at t (technique_size * k)

abbrev pub technique_efficiency : List ℕ → ℕ → ℕ
technique_efficiency t k = u16_at t (technique_size * k + 2)

-- technique j of a list that begins at `first`: its code is not 0 and above the one before, its efficiency is at most the whole
unfoldable pub technique_ok : (t : List ℕ) (first j : ℕ) → Bool
technique_ok t first j =
    every
    (not (eqb (technique_code t (first + j)) 0)
    ∷ leb (technique_efficiency t (first + j)) whole_share
    ∷ (eqb j 0 || ltb (technique_code t (first + (j - 1))) (technique_code t (first + j)))
    ∷ [])

-- the list lies in the block of `size` techniques, and each is right; of an empty list the first index is not looked at
unfoldable pub techniques_ok : (t : List ℕ) (size first count : ℕ) → Bool
techniques_ok t size first count = (eqb count 0 || leb (first + count) size) && all count (technique_ok t first)

-- ---- a row

abbrev pub row_start : (b : List ℕ) (i : ℕ) → ℕ
row_start b i = (book_header b).row_offset + (book_header b).row_size * i

-- what follows its industry, product, material, process and scale
pub record RowFields : Type 0 where
  pub medium : ℕ
  pub pollutant : ℕ
  pub basis : ℕ
  pub unit : ℕ
  pub places : ℕ
  pub rule : ℕ
  pub digits : ℕ
  pub first : ℕ
  pub techniques : ℕ

-- the row that starts at `at`
abbrev pub fields_at : List ℕ → ℕ → RowFields
fields_at b at =
    record {
      medium = byte_at b (at + 10);
      pollutant = byte_at b (at + 11);
      basis = byte_at b (at + 12);
      unit = byte_at b (at + 13);
      places = byte_at b (at + 14);
      rule = byte_at b (at + 15);
      digits = u32_at b (at + 16);
      first = u16_at b (at + 20);
      techniques = u16_at b (at + 22);
    }

abbrev pub key_at : List ℕ → ℕ → Key
key_at b at = key_from b at (fields_at b at).medium (fields_at b at).pollutant

-- medium 1 to 3; pollutant not 0; basis 1 or 2; unit 1 to 3; places at most 2 for unit 1 and at most 5 otherwise; the k rule 0 exactly
-- when there are no techniques, else 1 or 2
abbrev pub fields_fit : RowFields → Bool
fields_fit f =
    every
    (leb 1 f.medium
    ∷ leb f.medium 3
    ∷ not (eqb f.pollutant 0)
    ∷ leb 1 f.basis
    ∷ leb f.basis 2
    ∷ leb 1 f.unit
    ∷ leb f.unit 3
    ∷ leb f.places 5
    ∷ (not (eqb f.unit 1) || leb f.places 2)
    ∷ leb f.rule 2
    ∷ (eqb f.rule 0 && eqb f.techniques 0 || not (eqb f.rule 0) && not (eqb f.techniques 0))
    ∷ [])

unfoldable pub fields_ok : List ℕ → ℕ → Bool
fields_ok b at = fields_fit (fields_at b at)

-- units per kilogram, at most
abbrev pub most_coefficient : ℕ
most_coefficient = 100_000_000

-- digits × 10^(2 − places), 10^(5 − places) or 10^(8 − places) units per kilogram for units 1, 2, 3
abbrev pub coefficient : RowFields → ℕ
coefficient f = f.digits * 10 ^ (3 * f.unit - 1 - f.places)

unfoldable pub coefficient_at : List ℕ → ℕ → ℕ
coefficient_at b at = coefficient (fields_at b at)

-- the key of row i is above that of the row before
unfoldable pub rises : List ℕ → ℕ → Bool
rises b i = eqb i 0 || key_less (key_at b (row_start b (i - 1))) (key_at b (row_start b i))

-- row i of a book whose technique block is t
unfoldable pub row_ok : (b t : List ℕ) (i : ℕ) → Bool
row_ok b t i =
    every
    (fields_ok b (row_start b i)
    ∷ leb (coefficient_at b (row_start b i)) most_coefficient
    ∷ techniques_ok t (technique_count b) (fields_at b (row_start b i)).first (fields_at b (row_start b i)).techniques
    ∷ rises b i
    ∷ [])

abbrev pub rows_ok : List ℕ → Bool
rows_ok b = all (row_count b) (row_ok b (technique_block b))

unfoldable pub book_ok : List ℕ → Bool
book_ok b = book_header_ok b && rows_ok b
