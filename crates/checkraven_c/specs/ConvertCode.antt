-- What the C functions for text sheets promise: the answers as one number.
use Rattle.std.specs.Prelude.{⊤, Result, ℕ, min, ◌≡◌, List, length}
use Rattle.answers.specs.Answer.{code_of}
use Rattle.answers.specs.declared.answer.Refusal.{Refusal}
use Rattle.desk.specs.Lent.{Sources}
use Rattle.text.specs.Convert.{Made, by_room, Converts, converted_code}
use Rattle.text.specs.Declare.{text_answer, DeclaredText}

-- the answer r is the code of the conversion's, and the lent bytes hold what it leaves in them
pub record ConvertsCode (made : Made) (bytes : List ℕ) (r : ℕ) (bytes' : List ℕ) : Type 0 where
  pub answer : r ≡ converted_code (by_room made (length bytes))
  pub converts : Converts made bytes (by_room made (length bytes)) bytes'

-- the desk's answer to a text, for two lent results
abbrev pub answered_text : (from : Sources) (text exact shown : List ℕ) → Result ⊤ Refusal
answered_text from text exact shown = text_answer from text (min (length exact) (length shown))

-- the answer r is the code of the desk's, and both results hold what the desk leaves in them
pub record AccountsText (from : Sources) (text exact shown : List ℕ) (r : ℕ) (exact' shown' : List ℕ) : Type 0 where
  pub answer : r ≡ code_of (answered_text from text exact shown)
  pub declared : DeclaredText from text exact shown (answered_text from text exact shown) exact' shown'
