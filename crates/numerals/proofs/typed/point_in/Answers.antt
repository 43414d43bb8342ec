-- The place that was found is the first that is a point. Assumes nothing.
use borrow.Author.Rules.{rules}
use borrow.Author.Tests.{tests}
use mathlib.Core.Path.{◌≡◌}
use Rattle.std.proofs.lemmas.Iterator.{IsFirst-from_position, YieldsList-from_slice}
use Rattle.numerals.specs.Numeral.{point}
use Rattle.numerals.proofs.LawDecimal.{point_found}
use Rattle.numerals.proofs.typed.point_in.Goals as goal

pub returns : goal.returns
returns c =
    point_found _ _
    (IsFirst-from_position _ _ _ (λ x. x ≡ point) (λ x. x ≡ point → ⊥) c.position.ensures.ran (YieldsList-from_slice c.args.bytes.now cc)
    (λ x q k. search (rules, tests)) (λ x q k. search (rules, tests)))
