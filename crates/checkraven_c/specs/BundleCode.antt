-- What the C function for a bundle promises: the desk's answer as one number.
use Rattle.std.specs.Prelude.{⊤, Result, ℕ, ◌≡◌, List, length}
use Rattle.answers.specs.Bundle.{bundle_code}
use Rattle.answers.specs.declared.bundle.BundleFault.{BundleFault}
use Rattle.bundle.specs.Whole.{bundle_outcome}
use Rattle.desk.specs.Lent.{Sources}
use Rattle.desk.specs.Works.{Results, BundleDeclared}

-- the desk's answer to the whole, for what is lent
abbrev pub answered_bundle : (bundle : List ℕ) (before : Results) → Result ⊤ BundleFault
answered_bundle bundle before = bundle_outcome bundle (length before.exact) (length before.shown) (length before.outcomes)

-- the answer r is the code of the desk's, and what is lent holds what the desk leaves in it
pub record AccountsBundle (from : Sources) (bundle : List ℕ) (before : Results) (r : ℕ) (after : Results) : Type 0 where
  pub answer : r ≡ bundle_code (answered_bundle bundle before)
  pub declared : BundleDeclared from bundle before (answered_bundle bundle before) after
