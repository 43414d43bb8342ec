-- The test for a lent table is the test for a unit's code and that of `settle`, and both say what the request says.
use mathlib.Core.Path.{◌≡◌, ap, ◌∙◌}
use mathlib.Core.Bool.{true}
use mathlib.Core.List.{List}
use Prim.Native.Nat.{ℕ, ◌/◌}
use native.Mathlib.Nat.{mul-div_cancel}
use native.Mathlib.Omega.{arith}
use borrow.Author.Tests.{leb-true, le-leb}
use lib.Dec.{leb, lit<, lit≤}
use lib.ListN.{length}
use Rattle.search.proofs.LawTest.{and_left, and_right}
use Rattle.headers.specs.Unit.{is_unit, unit_of}
use Rattle.settle.specs.Grid.{grid}
use Rattle.settle.specs.Table.{Good}
use Rattle.settle.proofs.LawTable.{good_of, good_is}
use Rattle.desk.specs.Cells.{width, discharged}
use Rattle.desk.proofs.LawDeclare.{unit_whole}
use Rattle.steps.specs.Table.{lent_grid, can_settle, CanSettle}

module _ (unit : ℕ) (t : List ℕ) where
  pub lent_good : can_settle unit t ≡ true → Good (lent_grid unit t) t
  unfolding can_settle
  lent_good e = good_of (lent_grid unit t) t (and_right (is_unit unit) _ e)

  -- the test says the statement
  pub can_settle_lem : can_settle unit t ≡ true → CanSettle unit t
  unfolding can_settle
  can_settle_lem e =
      let h = lent_good e in
      let u = and_left (is_unit unit) _ e in
      record {
        rows = length t / width;
        unit_code = record { low = leb-true 1 unit (and_left (leb 1 unit) _ u); high = leb-true unit 3 (and_right (leb 1 unit) _ u) };
        row_count = record { low = h.shape.high; high = h.shape.low };
        cells = h.size;
        most = λ i l. h.most i (omega (arith, h.size));
        sums = h.sums;
      }

  -- the statement, the test
  pub settles_lent : CanSettle unit t → can_settle unit t ≡ true
  unfolding can_settle
  settles_lent k =
      let n : length t / width ≡ k.rows = ap (λ (m : ℕ). m / width) k.cells ∙ mul-div_cancel k.rows (lit< tt) in
      let w = unit_whole unit in
      let h : Good (grid (unit_of unit) width k.rows discharged) t =
      record {
        shape = record { unit = w.0; whole = w.1; wide = lit< tt; narrow = lit≤ tt; high = k.row_count.low; low = k.row_count.high };
        size = k.cells;
        most = λ i l. k.most i (omega (arith, k.cells));
        sums = k.sums;
      } in
      rw (le-leb 1 unit k.unit_code.low, le-leb unit 3 k.unit_code.high, n) (good_is h)
