-- After as many steps as there are cells every cell is whole, and none was carried past a whole unit, so divided by the unit each is one of the
-- two whole numbers around its exact value; and sums that are right stay right when every cell is divided by the same unit.
use mathlib.Core.Path.{◌≡◌, sym, ap, ◌∙◌}
use mathlib.Core.List.{List, ◌++◌}
use Prim.Native.Nat.{ℕ, zero, suc, ◌+◌, ◌-◌, ◌*◌, ◌/◌, ◌<◌}
use native.Mathlib.Nat.{div-add-mod', div-lt_iff_lt-mul, le-div_iff_mul-le, eq_of_mul-eq-mul_right, mul-le-mul_right}
use native.Mathlib.Omega.{arith}
use lib.Arith.{digits_lt}
use lib.ListN.{length, get_or-append}
use Rattle.settle.specs.Grid.{Grid, area}
use Rattle.settle.specs.Shown.{at, Whole, sum, Sums, ShownCell, Shown}
use Rattle.settle.specs.Table.{Shape, Good}
use Rattle.settle.specs.Step.{step, after, units, shown_table}
use Rattle.settle.specs.Moves.{Within}
use Rattle.settle.proofs.LawCells.{length_units, at_units}
use Rattle.settle.proofs.LawStepMirrored.{count_all}
use Rattle.settle.proofs.LawSteps.{steps_good, steps_within, steps_whole}

-- a cell, in whole units
shown_cell : {W x y : ℕ} → 0 < W → Within W x y → Whole W y → ShownCell W x (y / W)
shown_cell {W} {x} {y} h a w =
    let e : (x / W + 2) * W ≡ x / W * W + W + W = omega arith in
    let l : y / W < x / W + 2 = (div-lt_iff_lt-mul h).1 (omega (arith, a.high)) in
    record { low = (le-div_iff_mul-le h).1 a.low; high = omega arith; whole = λ v. ap (λ (k : ℕ). k / W) (a.kept v) }

-- a sum that is right where every cell is W times as much
sum_units : (W : ℕ) (s u : List ℕ) (b st m : ℕ) → ((k : ℕ) → k < m → at u (b + k * st) * W ≡ at s (b + k * st)) →
    sum u b st m * W ≡ sum s b st m
unfolding sum
sum_units W s u b st zero h = omega arith
sum_units W s u b st (suc m) h =
    let e : (sum u b st m + at u (b + m * st)) * W ≡ sum u b st m * W + at u (b + m * st) * W = omega arith in
    omega (arith, sum_units W s u b st m (λ k l. h k (omega arith)), h m (omega arith))

module _ (W : ℕ) (s u : List ℕ) (h : 0 < W) where
  sum_back : (j b st m : ℕ) → at u j * W ≡ at s j → ((k : ℕ) → k < m → at u (b + k * st) * W ≡ at s (b + k * st)) →
      at s j ≡ sum s b st m → at u j ≡ sum u b st m
  sum_back j b st m e f q = eq_of_mul-eq-mul_right W h (at u j) (sum u b st m) (e ∙ q ∙ sym (sum_units W s u b st m f))

  units_sums : {g : Grid} → Shape g → ((i : ℕ) → i < area g → at u i * W ≡ at s i) → Sums g s → Sums g u
  units_sums {g} z e f =
      let K = g.columns in
      let n = g.rows in
      let h_k = z.wide in
      let below : n - 1 < n = omega (arith, z.high) in
      record {
        rows = λ i l.
            let r = mul-le-mul_right K l in
            sum_back (i * K) (i * K + 1) 1 (K - 1) (e (i * K) (omega arith)) (λ k m. e _ (omega arith)) (f.rows i l);
        columns = λ j l.
            sum_back ((n - 1) * K + j) j K (n - 1) (e _ (digits_lt below l))
            (λ k m. let y : k < n = omega arith in e _ (omega (arith, digits_lt y l)))
            (f.columns j l);
      }

module _ {g : Grid} {t : List ℕ} (h : Good g t) where
  pub shown_length : length (shown_table g t) ≡ area g
  unfolding shown_table
  shown_length = length_units g.unit (after (step g) (area g) t) ∙ (steps_good (area g) h).size

  -- as many steps as there are cells
  pub shown_steps : shown_table g t ≡ units g.unit (after (step g) (length t) t)
  unfolding shown_table
  shown_steps = ap (λ (f : ℕ). units g.unit (after (step g) f t)) (sym h.size)

  -- the shown table is one that may be shown
  pub shown_law : Shown g t (shown_table g t)
  unfolding shown_table
  shown_law =
      let W = g.unit in
      let s = after (step g) (area g) t in
      let k = steps_good (area g) h in
      let w : (i : ℕ) → i < area g → Whole W (at s i) = λ i l. count_all W s (steps_whole h) i (omega (arith, k.size)) in
      let u : (i : ℕ) → i < area g → at (units W s) i ≡ at s i / W = λ i l. at_units W s i (omega (arith, k.size)) in
      record {
        cells = λ i l. rw (u i l) (shown_cell h.shape.unit (steps_within (area g) h i l) (w i l));
        sums =
            units_sums W s (units W s) h.shape.unit h.shape
            (λ i l. rw (u i l) (let d = div-add-mod' (at s i) W in let v = w i l in omega arith))
            k.sums;
      }

  -- and so are the lent cells that begin with it
  pub shown_more : (s rest : List ℕ) → length s ≡ area g → Shown g t s → Shown g t (s ++ rest)
  shown_more s rest e k =
      let q : (i : ℕ) → i < area g → at (s ++ rest) i ≡ at s i = λ i l. get_or-append s rest 0 i (omega arith) in
      record {
        cells = λ i l. rw (q i l) (k.cells i l);
        sums = units_sums 1 s (s ++ rest) (omega arith) h.shape (λ i l. let z = q i l in omega arith) k.sums;
      }
