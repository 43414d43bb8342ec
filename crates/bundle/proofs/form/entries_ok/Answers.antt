-- Each entry's test is the definition's, and they are as many as the header counts.
use Prim.Native.Nat.{ℕ}
use mathlib.Core.Path.{refl, ap, ◌∙◌}
use native.Mathlib.Omega.{arith}
use borrow.Author.Rules.{rules}
use Rattle.std.proofs.Common.{tests}
use Rattle.std.proofs.lemmas.Iterator.{YieldsList-from_range}
use Rattle.search.proofs.LawTest.{all_of_range}
use Rattle.search.specs.Test.{all}
use Rattle.bundle.specs.Bundle.{entry_ok}
use Rattle.bundle.proofs.form.entries_ok.Goals as goal

pub returns : goal.returns
returns c =
    all_of_range (entry_ok c.args.b.now) _ _ _ _ c.all.ensures.ran (YieldsList-from_range 0 _ _ refl (omega arith)) (λ x b q k. search (rules, tests))
    ∙ ap (λ (n : ℕ). all n (entry_ok c.args.b.now)) c.sheet_count.ensures.eq
