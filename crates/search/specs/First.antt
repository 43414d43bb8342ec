-- The first number that passes a test.
use Rattle.std.specs.Prelude.{ℕ, zero, suc, ◌<◌, ◌≡◌, Bool, true, false, Option, Some, None}

-- f, or n where f is none and the test holds at n
abbrev pub or_at : Option ℕ → Bool → ℕ → Option ℕ
or_at (Some k) hit n = Some k
or_at None true n = Some n
or_at None false n = None

-- the first number below n that passes the test
unfoldable pub first : ℕ → (ℕ → Bool) → Option ℕ
first zero p = None
first (suc n) p = or_at (first n p) (p n) n

abbrev pub Below : Option ℕ → ℕ → Type 0
Below (Some i) bound = i < bound
Below None bound = Unit

-- r is the place that is meant, and it is below the bound
pub record Finds (r meant : Option ℕ) (bound : ℕ) : Type 0 where
  pub eq : r ≡ meant
  pub below : Below r bound
