-- Where a test stops holding: what a search that halves closes in on.
use Rattle.std.specs.Prelude.{ℕ, ◌≤◌, ◌<◌, ◌≡◌, Bool, true, false}

-- of the numbers below n, the test holds at those below `low`, and at none from `high` on
pub record Cut (n : ℕ) (p : ℕ → Bool) (low high : ℕ) : Type 0 where
  pub order : low ≤ high
  pub within : high ≤ n
  pub below : (i : ℕ) → i < low → p i ≡ true
  pub above : (i : ℕ) → high ≤ i → i < n → p i ≡ false

-- where the test holds, it holds at every number before
abbrev pub Falls : (n : ℕ) (p : ℕ → Bool) → Type 0
Falls n p = (i j : ℕ) → i < j → j < n → p j ≡ true → p i ≡ true
