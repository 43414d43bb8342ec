-- The invariant: what is left, read behind the number so far, is the whole numeral's number. Each answer is the law of its case.
-- Assumes nothing.
use Prim.Native.Nat.{◌≤◌}
use mathlib.Core.Path.{◌≡◌}
use lib.ListN.{drop}
use Rattle.numerals.specs.Typed.{number_in}
use Rattle.numerals.specs.Inner.{onward}
use Rattle.numerals.proofs.typed.number_in.Given as goal

abbrev pub invariant-loop-byte : goal.invariant-loop-byte
invariant-loop-byte l = (l.value ≤ l.most) × (onward l.most l.value (drop l.byte-index l.bytes) ≡ number_in l.digits l.most l.bytes)
