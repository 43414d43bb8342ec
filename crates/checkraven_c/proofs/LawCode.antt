-- What the answer tells: 0 is accepted, else the quotient by 65,536 is the refusal's number and the remainder its line. And two outcomes
-- that the promise allows are equal.
use Prim.Native.Nat.{ℕ, ◌/◌, ◌%◌, ◌<◌, min}
use mathlib.Core.Path.{◌≡◌, sym, ap, ◌∙◌}
use mathlib.Core.List.{List}
use native.Mathlib.Omega.{arith}
use lib.ListN.{length}
use Rattle.desk.specs.Lent.{Lent}
use Rattle.answers.specs.Answer.{answer_number, answer_line, number_unit, code_of}
use Rattle.std.specs.Prelude.{Ok}
use Rattle.answers.proofs.LawCode.{code_zero, code_number, code_line}
use Rattle.desk.proofs.LawDemands.{answer_line_small}
use Rattle.desk.proofs.LawOnce.{declared_once}
use Rattle.checkraven_c.specs.Code.{answered, Accounts}

module _ (f : Lent) (exact shown : List ℕ) (r : ℕ) (exact' shown' : List ℕ) (p : Accounts f exact shown r exact' shown') where
  -- 0 exactly for accepted
  pub zero_accepted : r ≡ 0 → answered f exact shown ≡ Ok tt
  zero_accepted z = code_zero (answered f exact shown) (sym p.answer ∙ z)

  pub accepted_zero : answered f exact shown ≡ Ok tt → r ≡ 0
  accepted_zero e = p.answer ∙ ap code_of e

  line_small : answer_line (answered f exact shown) < number_unit
  line_small = omega (arith, answer_line_small f (min (length exact) (length shown)))

  -- its two parts, on which the C header's macros rest
  pub number_is : r / number_unit ≡ answer_number (answered f exact shown)
  number_is = rw p.answer (code_number (answered f exact shown) line_small)

  pub line_is : r % number_unit ≡ answer_line (answered f exact shown)
  line_is = rw p.answer (code_line (answered f exact shown) line_small)

pub accounts_once : (f : Lent) (exact shown : List ℕ) (r q : ℕ) (x x' y y' : List ℕ) → Accounts f exact shown r x y
    → Accounts f exact shown q x' y' → (r ≡ q) × (x ≡ x') × (y ≡ y')
accounts_once f exact shown r q x x' y y' p h =
    let same = declared_once f exact shown _ _ x x' y y' p.declared h.declared in
    (p.answer ∙ sym h.answer, same.1, same.2)
