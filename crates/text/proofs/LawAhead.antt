-- A field without quotes: the number that stands at a place of the text, where the field ends with it.
use Rattle.std.specs.Prelude.{Option, Some}
use Prim.Native.Nat.{ℕ}
use mathlib.Core.Path.{◌≡◌, refl, sym, ◌∙◌}
use mathlib.Core.Bool.{true, false}
use mathlib.Core.List.{List}
use lib.Dec.{eqb}
use lib.ListN.{drop}
use Rattle.search.proofs.LawTest.{either_way}
use Rattle.numerals.specs.Numeral.{most_digits}
use Rattle.numerals.specs.Typed.{number_in, decimal_in}
use Rattle.numerals.specs.Ahead.{ahead}
use Rattle.numerals.proofs.LawAhead.{Stands, number_stands, decimal_stands}
use Rattle.records.specs.Records.{pieces, field_end, content_of}
use Rattle.records.specs.Follow.{field_ends, behind}
use Rattle.records.proofs.LawField.{field_start}
use Rattle.records.proofs.LawWhole.{plain_field, plain_content}
use Rattle.text.specs.Typed.{a_reading, field_number}
use Rattle.text.specs.Inner.{led, field_ahead, field_read}
use Rattle.text.proofs.LawField.{read_number}
use Rattle.text.proofs.LawRecord.{decimal_plain}

module _ (text : List ℕ) (at takes n end : ℕ) (ends : field_ends text end ≡ true) where
  stands_read : (meaning : List ℕ → Option ℕ) → ((field : List ℕ) → field_number takes field ≡ meaning (content_of field)) → Stands text at meaning n end
      → led n (behind text end) ≡ field_read text at takes
  stands_read meaning same s =
      let plain = decimal_plain s.bytes s.decimal in
      let field : (pieces false (drop at text)).field ≡ s.bytes = plain_field text at s.bytes plain s.there (rw s.ends at ends) in
      let number : field_number takes (pieces false (drop at text)).field ≡ Some n = rw field (same s.bytes ∙ rw (plain_content s.bytes plain) s.is) in
      let there : end ≡ field_end text at = s.ends ∙ rw (field_start text at, field) refl in
      read_number text at takes (sym number) refl there

  pub read_ahead : field_ahead text at takes ≡ ahead n end → led n (behind text end) ≡ field_read text at takes
  unfolding field_ahead field_number
  read_ahead e =
      either_way (eqb takes a_reading)
      (λ (r : eqb takes a_reading ≡ true). stands_read decimal_in (λ field. rw r refl) (decimal_stands text at n end (rw r at e)))
      (λ (r : eqb takes a_reading ≡ false). stands_read (number_in most_digits takes) (λ field. rw r refl) (number_stands text at n end most_digits takes (rw r at e)))
