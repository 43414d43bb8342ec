-- Proportional scaling. Assumes nothing.
use Rattle.std.specs.Prelude.{ℕ, ◌*◌, cond, ◌&&◌, nat_le, nat_lt, Option, Some, None}
use Rattle.amounts.specs.Rounding.{rounded_down}

-- the whole part of x · n / d, for n ≤ d and 0 < d
abbrev pub scaled_of : (x n d : ℕ) → Option ℕ
scaled_of x n d = cond (nat_le n d && nat_lt 0 d) (Some (rounded_down (x * n) d)) None
