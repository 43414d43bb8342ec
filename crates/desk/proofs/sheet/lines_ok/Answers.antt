-- Each line's test is the definition's, and they are as many as the header counts.
use Prim.Native.Nat.{ℕ, ◌<◌}
use mathlib.Core.Path.{refl, ap, ◌∙◌}
use native.Mathlib.Omega.{arith}
use borrow.Author.Rules.{rules}
use Rattle.std.proofs.Common.{tests}
use Rattle.std.proofs.lemmas.Iterator.{YieldsList-from_range, serves_from_Range}
use Rattle.search.proofs.LawTest.{all_of_range}
use Rattle.search.specs.Test.{all}
use Rattle.desk.specs.Inner.{counted}
use Rattle.desk.specs.Sheet.{line_ok}
use Rattle.desk.proofs.LawBook.{line_in_lem}
use Rattle.desk.proofs.sheet.lines_ok.Goals as goal

pub all-requires-clause-callable : goal.all-requires-clause-callable
all-requires-clause-callable c =
    serves_from_Range (λ x q k. search (rules, tests))
    (λ i low high.
    let few = c.line_count.ensures in
    let small : i < counted = omega arith in
    let inside = line_in_lem _ c.requires i (omega arith) in
    search rules)

pub returns : goal.returns
returns c =
    all_of_range (line_ok c.args.s.now) _ _ _ _ c.all.ensures.ran (YieldsList-from_range 0 _ _ refl (omega arith)) (λ x b q k. search (rules, tests))
    ∙ ap (λ (n : ℕ). all n (line_ok c.args.s.now)) c.line_count.ensures.eq
