-- What the C function for a sheet promises: the desk's answer as one number.
use Rattle.std.specs.Prelude.{⊤, Result, ℕ, min, ◌≡◌, List, length}
use Rattle.desk.specs.Lent.{Lent}
use Rattle.answers.specs.Answer.{code_of}
use Rattle.desk.specs.Table.{answer_of}
use Rattle.desk.specs.Declare.{Declared}
use Rattle.answers.specs.declared.answer.Refusal.{Refusal}

-- the desk's answer, for two lent results
abbrev pub answered : (f : Lent) (exact shown : List ℕ) → Result ⊤ Refusal
answered f exact shown = answer_of f (min (length exact) (length shown))

-- the answer r is the code of the desk's, and both results hold what the desk leaves in them
pub record Accounts (f : Lent) (exact shown : List ℕ) (r : ℕ) (exact' shown' : List ℕ) : Type 0 where
  pub answer : r ≡ code_of (answered f exact shown)
  pub declared : Declared f exact shown (answered f exact shown) exact' shown'
