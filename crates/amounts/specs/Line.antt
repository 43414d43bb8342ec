-- "From a line to its amounts": G is generated, e the efficiency and u the reuse in shares of whole_share, k the fraction n over d.
-- Assumes nothing.
use Rattle.std.specs.Prelude.{◌≡◌, ℕ, ◌+◌, ◌-◌, ◌*◌, ◌<◌, ◌≤◌, Bool, cond, ◌&&◌, nat_le, nat_lt, Option, Some, None}
use Rattle.amounts.specs.Rounding.{rounded_down, rounded_up}
use Rattle.amounts.specs.declared.line.Amounts.{Amounts}

-- tenths of a percent in a whole
abbrev pub whole_share : ℕ
whole_share = 1000

-- the largest divisor of a k that a line is worked from
abbrev pub most_divisor : ℕ
most_divisor = 10_000_000_000_000_000

-- R = G × efficiency × n / (1000 d), rounded down
unfoldable pub removed_of : (G e n d : ℕ) → ℕ
removed_of G e n d = rounded_down (G * e * n) (whole_share * d)

-- U = (G − R) × reuse / 1000, rounded down, in water; 0 otherwise
unfoldable pub reused_of : (left u : ℕ) (water : Bool) → ℕ
reused_of left u water = cond water (rounded_down (left * u) whole_share) 0

-- D = (G − R) × (1000 − reuse) / 1000, rounded up, in water; G − R otherwise
unfoldable pub discharged_of : (left u : ℕ) (water : Bool) → ℕ
discharged_of left u water = cond water (rounded_up (left * (whole_share - u)) whole_share) left

abbrev pub amounts_of : (G e n d u : ℕ) (water : Bool) → Amounts
amounts_of G e n d u water =
    record {
      generated = G;
      removed = removed_of G e n d;
      reused = reused_of (G - removed_of G e n d) u water;
      discharged = discharged_of (G - removed_of G e n d) u water;
    }

-- the numbers that a line is worked from
pub record Admissible (e n d u : ℕ) : Type 0 where
  pub efficiency : e ≤ whole_share
  pub fraction : n ≤ d
  pub divisor : 0 < d
  pub size : d ≤ most_divisor
  pub reuse : u ≤ whole_share

-- the same as a test
unfoldable pub admissible : (e n d u : ℕ) → Bool
admissible e n d u = (((nat_le e whole_share && nat_le n d) && nat_lt 0 d) && nat_le d most_divisor) && nat_le u whole_share

abbrev pub worked_of : (G e n d u : ℕ) (water : Bool) → Option Amounts
worked_of G e n d u water = cond (admissible e n d u) (Some (amounts_of G e n d u water)) None

-- ---- what is owed of the amounts

-- a fraction of whole numbers
pub record Fraction : Type 0 where
  pub over : ℕ
  pub under : ℕ

infix 5 ◌over◌
abbrev pub ◌over◌ : (n d : ℕ) → Fraction
◌over◌ n d = record { over = n; under = d }

abbrev pub whole : (x : ℕ) → Fraction
whole x = x over 1

-- what is not reused of a whole
abbrev pub unused : (u : ℕ) (water : Bool) → ℕ
unused u water = cond water (whole_share - u) whole_share

-- the manual's exact value: G × (1 − efficiency × k / 1000), in water times (1000 − reuse) / 1000
abbrev pub manual_value : (G k : Fraction) (e u : ℕ) (water : Bool) → Fraction
manual_value G k e u water =
    record {
      over = G.over * (whole_share * k.under - e * k.over) * unused u water;
      under = G.under * (whole_share * k.under) * whole_share;
    }

-- demand 2: the amounts add up, and D is not below the exact value and less than `slack` units above it
pub record Sound (slack : ℕ) (exact : Fraction) (a : Amounts) : Type 0 where
  pub sum : a.generated ≡ a.removed + a.reused + a.discharged
  pub low : exact.over ≤ a.discharged * exact.under
  pub high : a.discharged * exact.under < exact.over + slack * exact.under
