-- What the answer to a bundle tells: 0 is taken, else the quotient by 65,536 is the refusal's number, and the line is 0. And two outcomes that
-- the promise allows are equal.
use Prim.Native.Nat.{ℕ, ◌/◌, ◌%◌}
use mathlib.Core.Path.{◌≡◌, refl, sym, ap, ◌∙◌}
use mathlib.Core.List.{List}
use native.Mathlib.Omega.{arith}
use Rattle.answers.specs.Answer.{number_unit}
use Rattle.answers.specs.Bundle.{bundle_number, bundle_code}
use Rattle.std.specs.Prelude.{⊤, Result, Ok, Err}
use Rattle.answers.specs.declared.bundle.BundleFault.{BundleFault}
use Rattle.answers.specs.declared.bundle.BundleFault.TheVariants.{BundleMalformed, ResultTooShort}
use Rattle.desk.specs.Lent.{Sources}
use Rattle.desk.specs.Works.{Results}
use Rattle.desk.proofs.LawOnce.{bundle_declared_once}
use Rattle.checkraven_c.specs.BundleCode.{answered_bundle, AccountsBundle}

only_taken : (o : Result ⊤ BundleFault) → bundle_code o ≡ 0 → o ≡ Ok tt
only_taken (Ok _) e = refl
only_taken (Err BundleMalformed) e = absurd (omega (arith, e))
only_taken (Err ResultTooShort) e = absurd (omega (arith, e))

module _ (from : Sources) (bundle : List ℕ) (before : Results) (r : ℕ) (after : Results) (p : AccountsBundle from bundle before r after) where
  -- 0 exactly where the bundle is taken
  pub zero_taken : r ≡ 0 → answered_bundle bundle before ≡ Ok tt
  zero_taken z = only_taken (answered_bundle bundle before) (sym p.answer ∙ z)

  pub taken_zero : answered_bundle bundle before ≡ Ok tt → r ≡ 0
  taken_zero e = p.answer ∙ ap bundle_code e

  -- its two parts, on which the C header's macros rest
  pub bundle_number_is : r / number_unit ≡ bundle_number (answered_bundle bundle before)
  bundle_number_is = omega (arith, p.answer)

  pub bundle_line_is : r % number_unit ≡ 0
  bundle_line_is = omega (arith, p.answer)

pub accounts_bundle_once : (from : Sources) (bundle : List ℕ) (before : Results) (r q : ℕ) (x y : Results) → AccountsBundle from bundle before r x
    → AccountsBundle from bundle before q y → (r ≡ q) × (x ≡ y)
accounts_bundle_once from bundle before r q x y p h =
    (p.answer ∙ sym h.answer, (bundle_declared_once from bundle before x y _ _ p.declared h.declared).1)
