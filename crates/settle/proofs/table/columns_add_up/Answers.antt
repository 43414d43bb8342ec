use mathlib.Core.Path.{refl}
use native.Mathlib.Omega.{arith}
use borrow.Author.Rules.{rules}
use Rattle.std.proofs.Common.{tests}
use Rattle.std.proofs.lemmas.Iterator.{YieldsList-from_range}
use Rattle.search.proofs.LawTest.{all_of_range}
use Rattle.settle.specs.Table.{column_adds_up}
use Rattle.settle.proofs.table.columns_add_up.Goals as goal

pub returns : goal.returns
returns c =
    all_of_range (column_adds_up c.args.grid.columns c.args.grid.rows c.args.t.now) _ _ _ _ c.all.ensures.ran (YieldsList-from_range 0 _ _ refl (omega arith)) (λ x b q k. search (rules, tests))
