-- The invariant: the lines so far are laid, and stand before those of the rest of the text.
use mathlib.Core.Path.{◌≡◌}
use lib.ListN.{length}
use Rattle.text.specs.Typed.{line_width}
use Rattle.text.proofs.LawLines.{LinesSoFar}
use Rattle.text.proofs.read.lay_lines.Given as goal

abbrev pub invariant-loop-line : goal.invariant-loop-line
invariant-loop-line l = (length l.numbers ≡ line_width) × LinesSoFar l.text l.at l.initial.sheet l.sheet l.next l.line
