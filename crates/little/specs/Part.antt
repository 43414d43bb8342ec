-- A part of a list. Assumes nothing.
use Rattle.std.specs.Prelude.{ℕ, List, take, drop}

-- the `count` entries from `from` on, or as many of them as there are
abbrev pub part_of : (s : List ℕ) (from count : ℕ) → List ℕ
part_of s from count = take count (drop from s)
