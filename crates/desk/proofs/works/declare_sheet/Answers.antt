-- The runs that are lent have the sheet's cells, and are put back where they were.
use mathlib.Core.Path.{◌≡◌, ap, ◌∙◌}
use Prim.Native.Nat.{ℕ, ◌+◌, ◌*◌, ◌-◌}
use native.Mathlib.Omega.{arith}
use Rattle.desk.proofs.LawWorks.{sheet_done}
use Rattle.desk.proofs.works.declare_sheet.Goals as goal

pub returns : goal.returns
returns c = λ from told.
    let i = c.args.i in
    let cells = c.cells_per_sheet-cells.result in
    let size : i * cells + cells - i * cells ≡ cells = omega arith in
    let cells_are = c.cells_per_sheet-cells.ensures.eq in
    let start_is = ap (λ (n : ℕ). i * n) cells_are in
    sheet_done from c.args.bundle.now i c.args.exact.now c.args.shown.now
    c.sheet_of.ensures start_is (size ∙ cells_are) c.requires.exact_run c.requires.shown_run
    (c.declare_told.ensures from told) c.exact-1.given.0 c.shown-1.given.0
