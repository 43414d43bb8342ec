-- "A whole works in one call": the answer to a bundle as a whole, by the request's number.
use Rattle.std.specs.Prelude.{ℕ, ◌*◌, ⊤, Result, Ok, Err}
use Rattle.answers.specs.Answer.{number_unit}
use Rattle.answers.specs.declared.bundle.BundleFault.{BundleFault}
use Rattle.answers.specs.declared.bundle.BundleFault.TheVariants.{BundleMalformed, ResultTooShort}

-- 0 where the bundle is taken; a refusal of the whole carries line 0
abbrev pub bundle_number : Result ⊤ BundleFault → ℕ
bundle_number (Ok _) = 0
bundle_number (Err BundleMalformed) = 16
bundle_number (Err ResultTooShort) = 3

-- the answer as one number
abbrev pub bundle_code : Result ⊤ BundleFault → ℕ
bundle_code r = bundle_number r * number_unit
