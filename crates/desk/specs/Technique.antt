-- The technique of a line: its place in the row's list.
use Rattle.std.specs.Prelude.{ℕ, ◌+◌, Bool, List, eqb, Option}
use Rattle.search.specs.First.{first}
use Rattle.desk.specs.Book.{technique_code}

-- technique j of the list that begins at `from` has this code
unfoldable pub technique_has : (t : List ℕ) (from code j : ℕ) → Bool
technique_has t from code j = eqb (technique_code t (from + j)) code

unfoldable pub technique_index : (t : List ℕ) (from count code : ℕ) → Option ℕ
technique_index t from count code = first count (technique_has t from code)
