-- The answer of the desk on a text sheet, as one equation.
use Rattle.std.specs.Prelude.{Result, ⊤}
use Prim.Native.Nat.{ℕ, min}
use mathlib.Core.Path.{◌≡◌}
use mathlib.Core.List.{List}
use lib.ListN.{length}
use Rattle.answers.specs.declared.answer.Refusal.{Refusal}
use Rattle.desk.specs.Lent.{Sources}
use Rattle.text.specs.Convert.{Made, Gives, Refuses}
use Rattle.text.specs.Read.{sheet_of_text}
use Rattle.text.specs.Declare.{DeclaredBy, answer_by, text_answer, DeclaredText}

pub text_answer_lem : (from : Sources) (text exact shown : List ℕ) (r : Result ⊤ Refusal) (exact' shown' : List ℕ) → DeclaredText from text exact shown r exact' shown'
    → r ≡ text_answer from text (min (length exact) (length shown))
text_answer_lem from text exact shown r exact' shown' d = go (sheet_of_text text) d
  where
    go : (made : Made) → DeclaredBy from made exact shown r exact' shown' → r ≡ answer_by from made (min (length exact) (length shown))
    go (Gives sheet) d = d.demand1.answer
    go (Refuses refusal) d = d.answer
