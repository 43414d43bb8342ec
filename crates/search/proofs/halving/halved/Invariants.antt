-- The invariant: the numbers below `low` pass, and none from `high` on does. That the test falls lets half of the rest go.
use Prim.Native.Nat.{ℕ, ◌-◌, ◌≤◌, ◌<◌}
use mathlib.Core.Path.{◌≡◌}
use mathlib.Core.Bool.{Bool}
use Rattle.search.specs.Cut.{Cut, Falls}
use Rattle.search.proofs.halving.halved.Given as goal

abbrev pub invariant-loop-high : goal.invariant-loop-high
invariant-loop-high g l =
    (l.low ≤ l.high)
    × (l.high ≤ l.n)
    × ((p : ℕ → Bool) → Falls l.n p → ((i : ℕ) (r : Bool) → i < l.n → goal.F-post g l.passes i r → r ≡ p i) → Cut l.n p l.low l.high)

abbrev pub decreases-loop-high : goal.decreases-loop-high
decreases-loop-high g l = l.high - l.low
