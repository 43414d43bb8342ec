-- A number as a little-endian word. Assumes nothing.
use Rattle.std.specs.Prelude.{ℕ, zero, suc, ◌/◌, ◌%◌, List, [], ◌∷◌}
use Rattle.little.specs.Read.{byte_range}

-- so many bytes, the low one first; what they have no room for is left out
unfoldable pub word : (size n : ℕ) → List ℕ
word zero n = []
word (suc size) n = n % byte_range ∷ word size (n / byte_range)
