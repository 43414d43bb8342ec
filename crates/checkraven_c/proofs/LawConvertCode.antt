-- What the answers for text sheets tell: a count is below 65,536, so that it is no refusal. And two outcomes that a promise allows are equal.
use Prim.Native.Nat.{ℕ, ◌/◌, ◌%◌, ◌<◌, min}
use mathlib.Core.Path.{◌≡◌, refl, sym, ap, ◌∙◌}
use mathlib.Core.List.{List}
use native.Mathlib.Omega.{arith}
use lib.ListN.{length}
use Rattle.search.proofs.LawTest.{either_way}
use Rattle.answers.specs.Answer.{answer_number, answer_line, number_unit, code_of}
use Rattle.std.specs.Prelude.{⊤, Result, Ok, Err}
use Rattle.answers.specs.declared.answer.Refusal.{Refusal}
use Rattle.answers.proofs.LawCode.{code_zero, code_number, code_line}
use Rattle.desk.specs.Lent.{Sources, lent}
use Rattle.desk.specs.Book.{book_ok}
use Rattle.desk.specs.Entries.{fugitive_ok}
use Rattle.desk.specs.Table.{by_published, by_sources}
use Rattle.desk.proofs.LawDemands.{answer_line_small}
use Rattle.text.specs.Convert.{Made, Gives, Refuses, by_room}
use Rattle.text.specs.Read.{sheet_of_text}
use Rattle.text.specs.Written.{text_of_sheet}
use Rattle.text.specs.Declare.{answer_by, text_answer}
use Rattle.text.proofs.LawBack.{written_size}
use Rattle.text.proofs.LawCode.{made_refused}
use Rattle.text.proofs.LawConvert.{one_conversion}
use Rattle.text.proofs.LawMade.{made_size}
use Rattle.text.proofs.LawOnce.{one_declared_text}
use Rattle.checkraven_c.specs.ConvertCode.{ConvertsCode, answered_text, AccountsText}

pub sheet_count_small : (text s : List ℕ) → sheet_of_text text ≡ Gives s → length s < number_unit
sheet_count_small text s made = omega (arith, made_size text s made)

pub text_count_small : (s text : List ℕ) → text_of_sheet s ≡ Gives text → length text < number_unit
text_count_small s text made = omega (arith, written_size s text made)

-- ---- the parts of an answer, on which the C header's macros rest

module _ (made : Made) (bytes : List ℕ) (r : ℕ) (bytes' : List ℕ) (p : ConvertsCode made bytes r bytes') (o : Refusal)
    (refused : by_room made (length bytes) ≡ Err o) (small : answer_line (Err o) < number_unit) where
  pub converts_number : r / number_unit ≡ answer_number (Err o)
  converts_number = rw (p.answer, refused) (code_number (Err o) small)

  pub converts_line : r % number_unit ≡ answer_line (Err o)
  converts_line = rw (p.answer, refused) (code_line (Err o) small)

-- a line is small: 0 where there is no sheet, else as the desk has it
text_line_small : (from : Sources) (text : List ℕ) (room : ℕ) → answer_line (text_answer from text room) < number_unit
unfolding by_sources by_published
text_line_small from text room = go (sheet_of_text text) refl
  where
    go : (made : Made) → sheet_of_text text ≡ made → answer_line (answer_by from made room) < number_unit
    go (Gives s) e = omega (arith, answer_line_small (lent from s) room)
    go (Refuses o) e =
        either_way (book_ok from.own)
        (λ w. either_way (book_ok from.book)
        (λ p. either_way (fugitive_ok from.fugitive) (λ q. rw (w, p, q, made_refused text o e) (omega arith)) (λ q. rw (w, p, q) (omega arith)))
        (λ p. rw (w, p) (omega arith)))
        (λ w. rw w (omega arith))

module _ (from : Sources) (text exact shown : List ℕ) (r : ℕ) (exact' shown' : List ℕ) (p : AccountsText from text exact shown r exact' shown') where
  abbrev answered : Result ⊤ Refusal
  answered = answered_text from text exact shown

  -- 0 exactly for accepted
  pub text_zero_accepted : r ≡ 0 → answered ≡ Ok tt
  text_zero_accepted z = code_zero answered (sym p.answer ∙ z)

  pub text_accepted_zero : answered ≡ Ok tt → r ≡ 0
  text_accepted_zero e = p.answer ∙ ap code_of e

  pub text_number_is : r / number_unit ≡ answer_number answered
  text_number_is = rw p.answer (code_number answered (text_line_small from text (min (length exact) (length shown))))

  pub text_line_is : r % number_unit ≡ answer_line answered
  text_line_is = rw p.answer (code_line answered (text_line_small from text (min (length exact) (length shown))))

-- ---- two outcomes

pub converts_code_once : (made : Made) (bytes : List ℕ) (r q : ℕ) (x y : List ℕ) → ConvertsCode made bytes r x → ConvertsCode made bytes q y
    → (r ≡ q) × (x ≡ y)
converts_code_once made bytes r q x y p h =
    (p.answer ∙ sym h.answer, (one_conversion made bytes _ _ x y p.converts h.converts).1)

pub accounts_text_once : (from : Sources) (text exact shown : List ℕ) (r q : ℕ) (x x' y y' : List ℕ) → AccountsText from text exact shown r x y
    → AccountsText from text exact shown q x' y' → (r ≡ q) × (x ≡ x') × (y ≡ y')
accounts_text_once from text exact shown r q x x' y y' p h =
    let same = one_declared_text from exact shown _ _ x x' y y' text p.declared h.declared in
    (p.answer ∙ sym h.answer, same.1, same.2)
