-- What is put after something else makes one run with it, in the same text.
use Prim.Native.Nat.{ℕ, ◌+◌, ◌≤◌}
use mathlib.Core.Path.{refl, ◌∙◌}
use mathlib.Core.List.{List, [], ◌++◌}
use Rattle.numerals.proofs.LawPuts as puts
use Rattle.report.specs.declared.writer.Writer.{Writer}
use Rattle.report.specs.Inner.{Adds}

pub nothing : (w : Writer) → Adds [] 0 w w
nothing w = record { same = refl; puts = puts.nothing w.at w.text.now }

pub then : {a b : List ℕ} {m k : ℕ} {w v u : Writer} → Adds a m w v → Adds b k v u → Adds (a ++ b) (m + k) w u
then p q = record { same = q.same ∙ p.same; puts = puts.then p.puts q.puts }

pub more : {a : List ℕ} {m k : ℕ} {w v : Writer} → Adds a m w v → m ≤ k → Adds a k w v
more p l = record { same = p.same; puts = puts.more p.puts l }
