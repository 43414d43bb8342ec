use mathlib.Core.Path.{◌≡◌, refl, ap, ◌∙◌}
use Prim.Native.Nat.{ℕ}
use native.Mathlib.Numerals.{add-one}
use native.Mathlib.Omega.{arith}
use lib.ListN.{length}
use Rattle.search.specs.Test.{all}
use Rattle.settle.specs.Table.{cell_fits}
use Rattle.settle.proofs.table.cells_fit.Goals as goal

pub loop-x-init : goal.loop-x-init
unfolding all
loop-x-init c = refl

pub loop-x-preserved : goal.loop-x-preserved
unfolding all cell_fits
loop-x-preserved c = rw (add-one, c.loop-x.invariant) refl

pub returns : goal.returns
returns c =
    let e : c.loop-x.x-index ≡ length c.args.t.now = omega (arith, c.loop-x-test.false) in
    c.loop-x.invariant ∙ ap (λ (n : ℕ). all n (cell_fits c.args.t.now)) e
