-- The invariant: the runs that are kept from k on are filled in, `run` is the one at k, and `next` is the code there, which past the block is 0.
use Prim.Native.Nat.{◌*◌, ◌-◌, ◌≤◌}
use mathlib.Core.Path.{◌≡◌}
use lib.ListN.{length}
use Rattle.desk.specs.Book.{technique_code}
use Rattle.desk.specs.InnerRun.{runs_apart, run_of}
use Rattle.desk.proofs.LawRun.{Filled}
use Rattle.desk.proofs.run.fill_runs.Given as goal

abbrev pub invariant-loop-k : goal.invariant-loop-k
invariant-loop-k l =
    (l.k ≤ l.size)
    × (l.run ≡ run_of l.t (l.size - l.k) l.k)
    × (l.next ≡ technique_code l.t l.k)
    × (length l.runs ≡ length l.initial.runs)
    × (l.size ≤ runs_apart * length l.runs)
    × Filled l.t l.size l.k l.runs
