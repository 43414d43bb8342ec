-- For private functions and proofs alone: what public functions promise is said without this file. Assumes nothing.
use Rattle.std.specs.Prelude.{◌≡◌, ℕ, ◌+◌, ◌*◌, ◌^◌, ◌<◌, ◌≤◌}

-- q and r are the quotient and the remainder of v by d, said without a division
pub record Parts (v d q r : ℕ) : Type 0 where
  pub whole : q * d + r ≡ v
  pub rest : r < d

-- the quotient of v by d fits 64 bits
unfoldable pub Room : (v d : ℕ) → Type 0
Room v d = v < 2 ^ 64 * d

-- k binary digits are at least one, and a remainder by d and a digit, each times 2 ^ k, fit 64 bits together
pub record Digit (d k : ℕ) : Type 0 where
  pub some : 1 ≤ k
  pub short : k < 64
  pub fits : 2 ^ k * d ≤ 2 ^ 63

-- Twice F as a short odd number and a power of two: the odd number times 53 binary digits fits 64.
pub record Split (F odd shift : ℕ) : Type 0 where
  pub twice : 2 * F ≡ odd * 2 ^ shift
  pub some : 0 < odd
  pub short : odd ≤ 2 ^ 10
  pub few : shift ≤ 10
