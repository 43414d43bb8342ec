-- The sources are asked first, and then the sheet.
use mathlib.Core.Path.{◌≡◌, refl}
use borrow.Author.Rules.{rules}
use Rattle.std.specs.Prelude.{Err}
use Rattle.desk.specs.Table.{by_files}
use Rattle.desk.proofs.LawTable.{sources_taken}
use Rattle.desk.proofs.table.right_files.Goals as goal

pub returns-in_err-sources-clause-told : goal.returns-in_err-sources-clause-told
unfolding by_files
returns-in_err-sources-clause-told c = λ from told.
    let is : c.from_residual.result ≡ Err c.in_err-sources.field-0.0 = search rules in
    let refused = rw c.in_err-sources.was at told in
    rw (is, refused) refl

pub returns-in_err-sheet-clause-told : goal.returns-in_err-sheet-clause-told
unfolding by_files
returns-in_err-sheet-clause-told c = λ from told.
    let is : c.from_residual-in_err-sheet.result ≡ Err c.in_err-sheet.field-0.0 = search rules in
    let same = rw c.in_ok-sources.was at told in
    let refused = rw c.in_err-sheet.was at c.right_sheet.ensures in
    rw (is, ← same, sources_taken c.in_ok-sources.sources, refused) refl

pub returns-clause-told : goal.returns-clause-told
returns-clause-told c = λ from told.
    let same = rw c.in_ok-sources.was at told in
    let sheet = rw c.in_ok-sheet.was at c.right_sheet.ensures in
    rw (same, sheet.0) refl
