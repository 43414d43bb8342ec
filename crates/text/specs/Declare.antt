-- The desk on a text sheet: as on the binary sheet that is read from it, with 12 in the place of 2. So 1, 13, 12, 3, then the lines.
use Rattle.std.specs.Prelude.{Err, Result, ⊤}
use Rattle.std.specs.Prelude.{ℕ, ◌≡◌, List, length, replicate}
use Rattle.answers.specs.declared.answer.Refusal.{Refusal}
use Rattle.desk.specs.Lent.{Sources, lent}
use Rattle.desk.specs.Table.{by_sources, or_next, answer_of}
use Rattle.desk.specs.Declare.{Declared}
use Rattle.text.specs.Convert.{Made, Gives, Refuses}
use Rattle.text.specs.Read.{sheet_of_text}

-- what is wrong with the text, unless it is a book or the fugitive table
abbrev pub sources_first : (from : Sources) (next : Result ⊤ Refusal) → Result ⊤ Refusal
sources_first from next = or_next (by_sources from) next

-- no sheet: every cell is zero
pub record NoSheet (from : Sources) (refusal : Refusal) (exact shown : List ℕ) (r : Result ⊤ Refusal) (exact' shown' : List ℕ) : Type 0 where
  pub answer : r ≡ sources_first from (Err refusal)
  pub exact_zero : exact' ≡ replicate (length exact) 0
  pub shown_zero : shown' ≡ replicate (length shown) 0

abbrev pub DeclaredBy : (from : Sources) (sheet : Made) (exact shown : List ℕ) (r : Result ⊤ Refusal) (exact' shown' : List ℕ) → Type 0
DeclaredBy from (Gives sheet) exact shown r exact' shown' = Declared (lent from sheet) exact shown r exact' shown'
DeclaredBy from (Refuses refusal) exact shown r exact' shown' = NoSheet from refusal exact shown r exact' shown'

-- the answer, for results of which the shortest has this room
abbrev pub answer_by : (from : Sources) (sheet : Made) (room : ℕ) → Result ⊤ Refusal
answer_by from (Gives sheet) room = answer_of (lent from sheet) room
answer_by from (Refuses refusal) room = sources_first from (Err refusal)

abbrev pub text_answer : (from : Sources) (text : List ℕ) (room : ℕ) → Result ⊤ Refusal
text_answer from text room = answer_by from (sheet_of_text text) room

-- the whole promise for the sources, a text and the two lent results
abbrev pub DeclaredText : (from : Sources) (text exact shown : List ℕ) (r : Result ⊤ Refusal) (exact' shown' : List ℕ) → Type 0
DeclaredText from text exact shown r exact' shown' = DeclaredBy from (sheet_of_text text) exact shown r exact' shown'
