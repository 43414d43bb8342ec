-- What the promise shuts out, on a small bundle.
use Prim.Native.Nat.{ℕ}
use mathlib.Core.Path.{◌≡◌}
use mathlib.Core.List.{List, [], ◌∷◌}
use Rattle.std.specs.Prelude.{Result, Err, ⊤}
use Rattle.search.specs.Test.{all, every}
use Rattle.search.proofs.LawTest.{clash}
use Rattle.little.specs.Read.{u16_at, u32_at}
use Rattle.headers.specs.House.{file_ok}
use Rattle.answers.specs.declared.bundle.BundleFault.{BundleFault}
use Rattle.answers.specs.declared.bundle.BundleFault.TheVariants.{BundleMalformed, ResultTooShort}
use Rattle.bundle.specs.Bundle.{bundle_header_ok, entry_ok, after_the_one_before, bundle_ok}
use Rattle.bundle.specs.Whole.{roomy, bundle_outcome}

-- twelve bytes that state thirteen, one sheet and one cell a sheet
abbrev wrong_length : List ℕ
wrong_length = 13 ∷ 0 ∷ 0 ∷ 0 ∷ 1 ∷ 0 ∷ 0 ∷ 0 ∷ 1 ∷ 0 ∷ 0 ∷ 0 ∷ []

-- a version that looks for room first: of this bundle, with nothing lent, it would answer 3
pub room_first : bundle_outcome wrong_length 0 0 0 ≡ Err ResultTooShort → ⊥
unfolding bundle_outcome bundle_ok bundle_header_ok file_ok every u32_at u16_at all entry_ok after_the_one_before roomy
room_first h = let e : ◌≡◌ {A = Result ⊤ BundleFault} (Err BundleMalformed) (Err ResultTooShort) = h in clash (cc)
