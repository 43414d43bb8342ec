-- Little-endian numbers in a list of bytes. A byte past the end counts as 0. Assumes nothing.
use Rattle.std.specs.Prelude.{ℕ, ◌+◌, ◌*◌, ◌<◌, List, ◌≡◌, get_or}

-- how many numbers a byte, two bytes and four bytes can be: what is read is below that
abbrev pub byte_range : ℕ
byte_range = 256

abbrev pub u16_range : ℕ
u16_range = 65536

abbrev pub u32_range : ℕ
u32_range = 4294967296

abbrev pub byte_at : (s : List ℕ) (at : ℕ) → ℕ
byte_at s at = get_or s at 0

unfoldable pub u16_at : (s : List ℕ) (at : ℕ) → ℕ
u16_at s at = byte_at s at + byte_range * byte_at s (at + 1)

unfoldable pub u32_at : (s : List ℕ) (at : ℕ) → ℕ
u32_at s at = u16_at s at + u16_range * u16_at s (at + 2)

unfoldable pub u64_at : (s : List ℕ) (at : ℕ) → ℕ
u64_at s at = u32_at s at + u32_range * u32_at s (at + 4)

-- each entry is a byte
abbrev pub AreBytes : List ℕ → Type 0
AreBytes s = (i : ℕ) → byte_at s i < byte_range

-- r is the number that is meant, and it is below the bound
pub record Reads (r meant bound : ℕ) : Type 0 where
  pub eq : r ≡ meant
  pub small : r < bound
