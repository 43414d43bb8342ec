-- What holds of every house file: it has its header, is within the limit, and states at its origin as its whole length the bytes given.
use Rattle.std.specs.Prelude.{ℕ, Bool, List, [], ◌∷◌, length, leb, eqb}
use Rattle.little.specs.Read.{u32_at}
use Rattle.search.specs.Test.{every}

-- the bytes of a file, at most
abbrev pub most_bytes : ℕ
most_bytes = 65536

unfoldable pub file_ok : (file : List ℕ) (origin header : ℕ) → Bool
file_ok file origin header =
    every (leb header (length file) ∷ leb (length file) most_bytes ∷ eqb (u32_at file origin) (length file) ∷ [])
