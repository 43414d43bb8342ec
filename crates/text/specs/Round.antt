-- What is read again from a sheet's text accounts as the sheet does.
use Rattle.std.specs.Prelude.{Result, ⊤}
use Rattle.std.specs.Prelude.{ℕ, ◌≡◌, List}
use Rattle.headers.specs.Sheet.{line_count}
use Rattle.answers.specs.declared.answer.Refusal.{Refusal}
use Rattle.desk.specs.Lent.{Sources, lent}
use Rattle.desk.specs.Account.{line_outcome}
use Rattle.desk.specs.Table.{table_of, answer_of}
use Rattle.desk.specs.Declare.{shown_after, Declared}
use Rattle.text.specs.Convert.{Gives}
use Rattle.text.specs.Read.{sheet_of_text}

-- the exact table of a sheet by its sources
abbrev pub exact_table : (from : Sources) (s : List ℕ) → List ℕ
exact_table from s = table_of (line_count s) (line_outcome (lent from s))

pub record AccountsAlike (s s' : List ℕ) : Type 0 where
  -- by all sources the same answer for every room, the same exact table, and the same shown one left in every result
  pub answer : (from : Sources) (room : ℕ) → answer_of (lent from s) room ≡ answer_of (lent from s') room
  pub exact : (from : Sources) → exact_table from s ≡ exact_table from s'
  pub shown : (from : Sources) (r : Result ⊤ Refusal) (cells : List ℕ) → shown_after r (lent from s) cells ≡ shown_after r (lent from s') cells
  -- so what the desk promises to answer and to leave for the one, it promises for the other
  pub declared : (from : Sources) (exact shown : List ℕ) (r : Result ⊤ Refusal) (exact' shown' : List ℕ)
      → Declared (lent from s) exact shown r exact' shown'
      → Declared (lent from s') exact shown r exact' shown'

-- the reader takes the text, and the sheet that it makes accounts as this one
pub record ReadAgain (s text : List ℕ) : Type 0 where
  pub sheet : List ℕ
  pub gives : sheet_of_text text ≡ Gives sheet
  pub alike : AccountsAlike s sheet
