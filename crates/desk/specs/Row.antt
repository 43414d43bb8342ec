-- The row of a line: the one with its key, or else the one for all scales.
use Rattle.std.specs.Prelude.{ℕ, Bool, cond, List, eqb, Option, Some, None}
use Rattle.search.specs.First.{first}
use Rattle.std.specs.Option.{option_or}
use Rattle.desk.specs.Key.{key_same, all_scales}
use Rattle.headers.specs.Book.{row_count}
use Rattle.desk.specs.Book.{row_start, key_at, fields_at, coefficient_at}
use Rattle.desk.specs.declared.key.Key.{Key}
use Rattle.desk.specs.declared.row.Basis.{Basis}
use Rattle.desk.specs.declared.row.Basis.TheVariants.{Product, Material}
use Rattle.desk.specs.declared.row.Row.{Row}

-- row i has this key
unfoldable pub row_has : List ℕ → Key → ℕ → Bool
row_has b k i = key_same (key_at b (row_start b i)) k

-- the first row with this key, or else with the same for all scales
unfoldable pub row_index : List ℕ → Key → Option ℕ
row_index b k = option_or (first (row_count b) (row_has b k)) (first (row_count b) (row_has b (all_scales k)))

-- basis 1 is the product, and 2 the material
abbrev pub basis_of : (byte : ℕ) → Basis
basis_of byte = cond (eqb byte 1) Product Material

-- row i as a line needs it
unfoldable pub row_at : List ℕ → ℕ → Row
row_at b i =
    record {
      coefficient = coefficient_at b (row_start b i);
      basis = basis_of (fields_at b (row_start b i)).basis;
      rule = (fields_at b (row_start b i)).rule;
      first = (fields_at b (row_start b i)).first;
      techniques = (fields_at b (row_start b i)).techniques;
    }

pub data RowSearch : Type 0 where
  Hit : Row → RowSearch
  Miss : RowSearch

abbrev pub row_from : List ℕ → Option ℕ → RowSearch
row_from b (Some i) = Hit (row_at b i)
row_from b None = Miss

unfoldable pub row_of : List ℕ → Key → RowSearch
row_of b k = row_from b (row_index b k)
