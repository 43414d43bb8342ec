-- The invariant: the field ends as far from here as the text from here on says.
use Prim.Native.Nat.{◌+◌}
use mathlib.Core.Path.{◌≡◌}
use lib.ListN.{length, drop}
use Rattle.records.specs.Records.{pieces, field_end}
use Rattle.records.proofs.field.field_end.Given as goal

abbrev pub invariant-loop-i : goal.invariant-loop-i
invariant-loop-i l = field_end l.text l.at ≡ l.i + length (pieces l.quoted (drop l.i l.text)).field
