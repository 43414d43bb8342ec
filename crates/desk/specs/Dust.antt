-- "F is the sum of the chosen factors times product": the dust of a line that never meets a duct, by the fugitive table.
use Rattle.std.specs.Prelude.{ℕ, ◌*◌, Bool, cond, List, Option, Some, None}
use Rattle.search.specs.First.{first}
use Rattle.std.specs.Option.{option_or}
use Rattle.fugitive.specs.Entry.{factors_of}
use Rattle.fugitive.specs.Grades.{is_given}
use Rattle.fugitive.specs.Table.{entry_count, entry_of}
use Rattle.desk.specs.Key.{key_same, all_scales}
use Rattle.desk.specs.Entries.{entry_key}
use Rattle.desk.specs.declared.key.Key.{Key}
use Rattle.desk.specs.declared.line.Line.{Line}

-- entry i has this key
unfoldable pub entry_has : (f : List ℕ) (k : Key) (i : ℕ) → Bool
entry_has f k i = key_same (entry_key f i) k

-- the entry with this key, or else with the same for all scales
unfoldable pub entry_index : (f : List ℕ) (k : Key) → Option ℕ
entry_index f k = option_or (first (entry_count f) (entry_has f k)) (first (entry_count f) (entry_has f (all_scales k)))

-- a thousandth of kg/t is so many units per kilogram
abbrev pub units_per_factor : ℕ
units_per_factor = 100

-- F, by the entry at that place; rule 14 where there is none
abbrev pub dust_by : (f : List ℕ) (line : Line) (place : Option ℕ) → Option ℕ
dust_by f line None = None
dust_by f line (Some i) = Some (factors_of (entry_of f i) line.grades * units_per_factor * line.product)

-- where no grade is given no entry is looked for
unfoldable pub dust_of : (f : List ℕ) (line : Line) → Option ℕ
dust_of f line = cond (is_given line.grades) (dust_by f line (entry_index f line.key)) (Some 0)
