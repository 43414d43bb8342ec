-- Each row's test is the definition's, and they are as many as the header counts.
use Prim.Native.Nat.{ℕ, ◌+◌, ◌*◌, ◌<◌}
use mathlib.Core.Path.{◌≡◌, refl, ap, ◌∙◌}
use native.Mathlib.Omega.{arith}
use borrow.Author.Rules.{rules}
use Rattle.std.proofs.Common.{tests, Fits, w64}
use Rattle.std.proofs.lemmas.Iterator.{YieldsList-from_range, serves_from_Range}
use Rattle.search.proofs.LawTest.{all_of_range}
use Rattle.search.specs.Test.{all}
use Rattle.headers.specs.Book.{technique_block}
use Rattle.desk.specs.Book.{row_start, row_ok}
use Rattle.desk.specs.Inner.{counted, RowIn}
use Rattle.desk.proofs.LawBook.{row_in, block_size}
use Rattle.desk.proofs.book.rows_ok.Goals as goal

pub invariant_of-techniques : goal.invariant_of-techniques
invariant_of-techniques c =
    let size = c.technique_count.ensures.eq in
    let part = c.technique_block.ensures in
    record { kept = record { whole = rw (part, size) (block_size _ c.requires.0); kept = rw (part, size) c.requires.1 } }

pub all-requires-clause-callable : goal.all-requires-clause-callable
all-requires-clause-callable c =
    serves_from_Range (λ x q k. search (rules, tests))
    (λ i low high.
    let at = c.row_offset-from.result + 24 * i in
    let small : i < counted = omega (arith, c.row_count.ensures.small) in
    let product : Fits w64 (24 * i) = omega arith in
    let sum : Fits w64 at = omega (arith, c.row_offset-from.ensures.small) in
    let same : at ≡ row_start c.args.b.now i = omega (arith, c.row_offset-from.ensures.eq) in
    let inside : RowIn c.args.b.now at = rw same (row_in _ c.requires.0 i (omega (arith, c.row_count.ensures.eq))) in
    search rules)

pub returns : goal.returns
returns c =
    all_of_range (row_ok c.args.b.now (technique_block c.args.b.now)) _ _ _ _ c.all.ensures.ran (YieldsList-from_range 0 _ _ refl (omega arith))
    (λ x b q k. rw (← c.technique_block.ensures) (search (rules, tests)))
    ∙ ap (λ (n : ℕ). all n (row_ok c.args.b.now (technique_block c.args.b.now))) c.row_count.ensures.eq
