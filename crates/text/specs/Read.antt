-- The binary sheet of a text.
use Rattle.std.specs.Prelude.{ℕ, List}
use Rattle.std.specs.Prelude.{Option, None, Some}
use Rattle.answers.specs.declared.answer.FileFault.TheVariants.{TextMalformed}
use Rattle.answers.specs.declared.answer.Refusal.TheVariants.{File}
use Rattle.text.specs.Convert.{Made, Gives, Refuses}
use Rattle.text.specs.Typed.{TypedSheet, typed_sheet}
use Rattle.text.specs.Binary.{binary_sheet}

abbrev pub binary_of : Option TypedSheet → Made
binary_of None = Refuses (File TextMalformed)
binary_of (Some sheet) = Gives (binary_sheet sheet)

unfoldable pub sheet_of_text : (text : List ℕ) → Made
sheet_of_text text = binary_of (typed_sheet text)
