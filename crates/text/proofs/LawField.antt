-- A field at a place of the text, as a number.
use Rattle.std.specs.Prelude.{Option, Some}
use Prim.Native.Nat.{ℕ, ◌-◌}
use mathlib.Core.Path.{◌≡◌, refl, ◌∙◌}
use mathlib.Core.Bool.{false}
use mathlib.Core.List.{List}
use Rattle.std.specs.Prelude.{None}
use lib.ListN.{drop}
use Rattle.little.specs.Part.{part_of}
use Rattle.records.specs.Records.{pieces, field_end}
use Rattle.records.specs.Follow.{behind}
use Rattle.records.specs.declared.field.Behind.{Behind}
use Rattle.records.proofs.LawField.{field_bytes}
use Rattle.text.specs.Typed.{field_number}
use Rattle.text.specs.Inner.{led, field_read}

module _ (text : List ℕ) (at takes : ℕ) where
  -- what was read of the bytes up to the field's end
  pub number_there : {end : ℕ} {bytes : List ℕ} {typed : Option ℕ} → end ≡ field_end text at → bytes ≡ part_of text at (end - at)
      → typed ≡ field_number takes bytes → typed ≡ field_number takes (pieces false (drop at text)).field
  number_there e b t = t ∙ rw (b, e, field_bytes text at) refl

  pub read_broken : None ≡ field_number takes (pieces false (drop at text)).field → None ≡ field_read text at takes
  unfolding field_read
  read_broken none_there = rw (← none_there) refl

  pub read_number : {n end : ℕ} {follows : Behind} → Some n ≡ field_number takes (pieces false (drop at text)).field
      → follows ≡ behind text end → end ≡ field_end text at → led n follows ≡ field_read text at takes
  unfolding field_read
  read_number there f e = rw (← there, f, e) refl
