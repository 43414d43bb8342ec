-- Bytes put one after the other: what is put where others end makes one run with them. Assumes nothing.
use Prim.Native.Nat.{ℕ, ◌+◌, ◌≤◌}
use mathlib.Core.Path.{ap}
use mathlib.Core.List.{List, [], ◌++◌}
use native.Mathlib.Omega.{arith}
use lib.ListN.{length-append}
use Rattle.numerals.specs.Laid.{Lays, Puts}
use Rattle.numerals.proofs.LawLaid.{laid_none, laid_more}

-- bytes that were laid at a place, and counted from it on
pub from_place : {bytes text text' : List ℕ} {most at r : ℕ} → Lays bytes most at text r text' → Puts bytes most at text (at + r) text'
from_place {at = at} h = record { ends = ap (λ (n : ℕ). at + n) h.counts; few = omega (arith, h.few, h.counts); holds = h.holds }

pub nothing : (at : ℕ) (text : List ℕ) → Puts [] 0 at text at text
nothing at text = record { ends = omega arith; few = omega arith; holds = laid_none at text }

pub then : {a b text between text' : List ℕ} {m k at mid r : ℕ} → Puts a m at text mid between → Puts b k mid between r text'
    → Puts (a ++ b) (m + k) at text r text'
then {a} {b} {text} {at = at} p q =
    let size = length-append a b in
    record {
      ends = omega (arith, p.ends, q.ends);
      few = omega (arith, p.few, q.few);
      holds = rw (q.holds, p.holds, p.ends) (laid_more at a b text);
    }

pub more : {a text text' : List ℕ} {m k at r : ℕ} → Puts a m at text r text' → m ≤ k → Puts a k at text r text'
more p l = record { ends = p.ends; few = omega (arith, p.few); holds = p.holds }
