-- The invariant: none of the entries below `low` has the key, and none from `high` on.
use Prim.Native.Nat.{ℕ, ◌-◌, ◌≤◌, ◌<◌}
use mathlib.Core.Path.{◌≡◌}
use mathlib.Core.Bool.{false}
use Rattle.std.specs.Prelude.{None}
use Rattle.search.specs.First.{first}
use Rattle.fugitive.specs.Table.{entry_count}
use Rattle.desk.specs.Dust.{entry_has}
use Rattle.desk.specs.Inner.{at_scale, counted}
use Rattle.desk.proofs.dust.entry_at_scale.Given as goal

abbrev pub invariant-loop-low : goal.invariant-loop-low
invariant-loop-low l =
    (l.low ≤ l.high)
    × (l.high ≤ entry_count l.table.bytes.now)
    × (l.high < counted)
    × (first l.low (entry_has l.table.bytes.now (at_scale l.k l.scale)) ≡ None)
    × ((j : ℕ) → l.high ≤ j → j < entry_count l.table.bytes.now → entry_has l.table.bytes.now (at_scale l.k l.scale) j ≡ false)

abbrev pub decreases-loop-low : goal.decreases-loop-low
decreases-loop-low l = l.high - l.low
