-- A fraction of whole numbers, rounded. Assumes nothing.
use Rattle.std.specs.Prelude.{ℕ, ◌+◌, ◌-◌, ◌/◌}

-- a / b, rounded down
abbrev pub rounded_down : ℕ → ℕ → ℕ
rounded_down a b = a / b

-- a / b, rounded up
abbrev pub rounded_up : ℕ → ℕ → ℕ
rounded_up a b = (a + (b - 1)) / b
