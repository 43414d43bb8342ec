-- The invariant: the first i bytes are laid. A turn stores one more, and at the end these are all. Assumes nothing.
use mathlib.Core.Path.{◌≡◌}
use lib.ListN.{take}
use Rattle.numerals.specs.Laid.{laid}
use Rattle.numerals.proofs.bytes.lay_all.Given as goal

abbrev pub invariant-loop-i : goal.invariant-loop-i
invariant-loop-i l = l.text ≡ laid l.at (take l.i l.bytes) l.initial.text
