-- Two outcomes that the promise of the desk on a text allows are equal.
use Rattle.std.specs.Prelude.{Result, ⊤}
use mathlib.Core.Path.{◌≡◌, sym, ◌∙◌}
use mathlib.Core.List.{List}
use Prim.Native.Nat.{ℕ}
use Rattle.answers.specs.declared.answer.Refusal.{Refusal}
use Rattle.desk.specs.Lent.{Sources, lent}
use Rattle.desk.proofs.LawOnce.{declared_once}
use Rattle.text.specs.Convert.{Made, Gives, Refuses}
use Rattle.text.specs.Read.{sheet_of_text}
use Rattle.text.specs.Declare.{DeclaredBy, DeclaredText}

module _ (from : Sources) (exact shown : List ℕ) (r q : Result ⊤ Refusal) (x x' y y' : List ℕ) where
  -- whatever was made of the text
  one_declared : (made : Made) → DeclaredBy from made exact shown r x y → DeclaredBy from made exact shown q x' y'
      → (r ≡ q) × (x ≡ x') × (y ≡ y')
  one_declared (Gives sheet) p h = declared_once (lent from sheet) exact shown r q x x' y y' p h
  one_declared (Refuses refusal) p h =
      (p.answer ∙ sym h.answer, p.exact_zero ∙ sym h.exact_zero, p.shown_zero ∙ sym h.shown_zero)

  pub one_declared_text : (text : List ℕ) → DeclaredText from text exact shown r x y → DeclaredText from text exact shown q x' y'
      → (r ≡ q) × (x ≡ x') × (y ≡ y')
  one_declared_text text p h = one_declared (sheet_of_text text) p h
