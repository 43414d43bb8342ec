-- Each entry's test is the definition's, and they are as many as the header counts.
use Prim.Native.Nat.{ℕ, ◌+◌, ◌*◌, ◌<◌}
use mathlib.Core.Path.{◌≡◌, refl, ap, ◌∙◌}
use native.Mathlib.Omega.{arith}
use borrow.Author.Rules.{rules}
use Rattle.std.proofs.Common.{tests, Fits, w64}
use Rattle.fugitive.specs.Entry.{entry_size}
use Rattle.fugitive.specs.Table.{entry_start}
use Rattle.std.proofs.lemmas.Iterator.{YieldsList-from_range, serves_from_Range}
use Rattle.search.proofs.LawTest.{all_of_range}
use Rattle.search.specs.Test.{all}
use Rattle.desk.specs.Inner.{counted, EntryIn}
use Rattle.desk.specs.Entries.{entry_rises}
use Rattle.desk.proofs.LawBook.{entry_in}
use Rattle.desk.proofs.entries.entries_ok.Goals as goal

pub all-requires-clause-callable : goal.all-requires-clause-callable
all-requires-clause-callable c =
    serves_from_Range (λ x q k. search (rules, tests))
    (λ i low high.
    let at = c.entry_offset-from.result + entry_size * i in
    let small : i < counted = omega (arith, c.entry_count.ensures.small) in
    let product : Fits w64 (entry_size * i) = omega arith in
    let sum : Fits w64 at = omega (arith, c.entry_offset-from.ensures.small) in
    let same : at ≡ entry_start c.args.f.now i = omega (arith, c.entry_offset-from.ensures.eq) in
    let inside : EntryIn c.args.f.now at = rw same (entry_in _ c.requires i (omega (arith, c.entry_count.ensures.eq))) in
    search rules)

pub returns : goal.returns
returns c =
    all_of_range (entry_rises c.args.f.now) _ _ _ _ c.all.ensures.ran (YieldsList-from_range 0 _ _ refl (omega arith)) (λ x b q k. search (rules, tests))
    ∙ ap (λ (n : ℕ). all n (entry_rises c.args.f.now)) c.entry_count.ensures.eq
