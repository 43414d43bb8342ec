-- "The fugitive table": when it is not malformed and within its limits. Its header and an entry's factors are in `fugitive`.
use Rattle.std.specs.Prelude.{ℕ, ◌-◌, Bool, ◌&&◌, ◌||◌, List, eqb}
use Rattle.search.specs.Test.{all}
use Rattle.fugitive.specs.Grades.{gas, particulates}
use Rattle.fugitive.specs.Table.{entry_count, entry_start, fugitive_header_ok}
use Rattle.desk.specs.Key.{key_from, key_less}
use Rattle.desk.specs.declared.key.Key.{Key}

-- the five codes that entry i begins with; every entry is of particulates in gas
unfoldable pub entry_key : (f : List ℕ) (i : ℕ) → Key
entry_key f i = key_from f (entry_start f i) gas particulates

-- the key of entry i is above that of the entry before
unfoldable pub entry_rises : (f : List ℕ) (i : ℕ) → Bool
entry_rises f i = eqb i 0 || key_less (entry_key f (i - 1)) (entry_key f i)

abbrev pub entries_ok : List ℕ → Bool
entries_ok f = all (entry_count f) (entry_rises f)

unfoldable pub fugitive_ok : List ℕ → Bool
fugitive_ok f = fugitive_header_ok f && entries_ok f
