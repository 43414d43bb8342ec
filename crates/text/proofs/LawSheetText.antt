-- The text of a sheet: its header's record, and those of its lines.
use Prim.Native.Nat.{ℕ, ◌+◌}
use mathlib.Core.Path.{◌≡◌, refl, ◌∙◌}
use mathlib.Core.Bool.{true, false}
use mathlib.Core.List.{List, ◌++◌}
use native.Mathlib.Omega.{arith}
use lib.ListN.{length, length-append}
use Rattle.answers.specs.declared.answer.FileFault.TheVariants.{SheetMalformed}
use Rattle.answers.specs.declared.answer.Refusal.{Refusal}
use Rattle.answers.specs.declared.answer.Refusal.TheVariants.{File}
use Rattle.numerals.specs.Laid.{laid, Puts}
use Rattle.numerals.proofs.LawLaid.{laid_more}
use Rattle.desk.specs.Sheet.{sheet_ok}
use Rattle.headers.specs.Sheet.{line_count}
use Rattle.text.specs.Typed.{header_fields}
use Rattle.text.specs.Convert.{Gives, Refuses}
use Rattle.text.specs.Written.{most_record, record_text, lines_from, header_texts, lines_text, text_of_sheet}
use Rattle.text.specs.Inner.{texts_from, LinesPut, header_numbers}

module _ (s : List ℕ) where
  pub wrong_sheet : sheet_ok s ≡ false → text_of_sheet s ≡ Refuses (File SheetMalformed)
  unfolding text_of_sheet
  wrong_sheet e = rw e refl

  -- none of the header's numbers has places
  header_fields_lem : texts_from 0 0 0 (header_numbers s) ≡ header_texts s
  unfolding texts_from
  header_fields_lem = refl

  module _ (ok : sheet_ok s ≡ true) where
    pub bad_line : (refusal : Refusal) → lines_text 0 (lines_from s 0 (line_count s)) ≡ Refuses refusal → text_of_sheet s ≡ Refuses refusal
    unfolding text_of_sheet
    bad_line refusal e = rw (ok, e) refl

    module _ (text : List ℕ) (at : ℕ) (text₁ : List ℕ)
        (header : Puts (record_text (texts_from 0 0 0 (header_numbers s))) (most_record (length header_fields)) 0 text at text₁)
        (end : ℕ) (text₂ : List ℕ) (lines : LinesPut s at text₁ end text₂) where
      abbrev front : List ℕ
      front = record_text (header_texts s)

      -- all of it
      pub written : List ℕ
      written = front ++ lines.bytes

      pub whole_text : text_of_sheet s ≡ Gives written
      unfolding text_of_sheet written
      whole_text = rw (ok, lines.gives) refl

      pub whole_laid : text₂ ≡ laid 0 written text
      unfolding written
      whole_laid =
          lines.puts.holds
          ∙ rw (header.ends, header.holds, header_fields_lem) (laid_more 0 front lines.bytes text)

      pub text_size : end ≡ length written
      unfolding written
      text_size =
          let sum : length (front ++ lines.bytes) ≡ length front + length lines.bytes = length-append front lines.bytes in
          omega (arith, sum, lines.puts.ends, rw header_fields_lem at header.ends)
