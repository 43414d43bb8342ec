-- A step is a step of the mirror, mirrored back, so each law of the one is a law of the other; and what holds of one step holds of the steps
-- one after the other, by induction on how many there are.
use mathlib.Core.Path.{◌≡◌, refl, sym, ap, ◌∙◌}
use mathlib.Core.Logic.{◌≢◌}
use mathlib.Core.List.{List}
use Prim.Native.Nat.{ℕ, zero, suc, ◌≤◌, ◌<◌}
use native.Mathlib.Decide.{ℕ_discrete}
use native.Mathlib.Omega.{arith}
use Rattle.settle.specs.Grid.{Grid, area}
use Rattle.settle.specs.Shown.{at}
use Rattle.settle.specs.Table.{Good}
use Rattle.settle.specs.Step.{loose, step_mirrored, mirror, step, after, changes}
use Rattle.settle.specs.Moves.{Within}
use Rattle.settle.specs.Inner.{Bounded, Table, Steps}
use Rattle.settle.proofs.LawLine.{pick_yes, pick_no, by_dec}
use Rattle.settle.proofs.LawNear.{within_refl, within_trans}
use Rattle.settle.proofs.LawStepMirrored.{kept_table, mirrored_kept, mirrored_table, mirrored_count, mirrored_stays, settle_kept}
use Rattle.settle.proofs.LawStepMirrored.{settle_whole, count_most}
use Rattle.settle.proofs.LawMirror.{good_bounded, table_bounded, good_table, kept_good, kept_within, mirror_mirror, length_mirror}
use Rattle.settle.proofs.LawMirror.{count_mirror}

module _ {g : Grid} {t : List ℕ} (h : Good g t) where
  -- the mirror of a step
  step_mirror : mirror g.columns g.rows (step g t) ≡ step_mirrored g (mirror g.columns g.rows t)
  unfolding step
  step_mirror = mirror_mirror (table_bounded (mirrored_table (good_table h)))

  -- as many cells are loose as in the mirror
  pub count_good : loose g.unit (mirror g.columns g.rows t) ≡ loose g.unit t
  count_good = count_mirror g.unit h.shape.whole (good_bounded h)

  -- the sums are kept, and all else that makes a table good
  pub step_good : Good g (step g t)
  unfolding step
  step_good = kept_good h (mirrored_kept (good_table h))

  -- no cell is carried past a whole unit, and no whole cell is broken
  pub step_within : (i : ℕ) → i < area g → Within g.unit (at t i) (at (step g t) i)
  unfolding step
  step_within = kept_within h (mirrored_kept (good_table h))

  -- at least one more cell is whole, while one is loose
  pub step_fewer : loose g.unit t ≢ 0 → loose g.unit (step g t) < loose g.unit t
  unfolding step
  step_fewer z =
      let s = good_table h in
      omega (arith, mirrored_count s, count_good, count_mirror g.unit h.shape.whole (table_bounded (mirrored_table s)))

  -- a whole table stays
  pub step_stays : loose g.unit t ≡ 0 → step g t ≡ t
  unfolding step
  step_stays z = ap (mirror g.columns g.rows) (mirrored_stays (good_table h) (count_good ∙ z)) ∙ mirror_mirror (good_bounded h)

-- the steps of a table are those of its mirror
steps_are : {g : Grid} (f : ℕ) {t : List ℕ} → Good g t →
    after (step g) f t ≡ mirror g.columns g.rows (after (step_mirrored g) f (mirror g.columns g.rows t))
unfolding after
steps_are zero h = sym (mirror_mirror (good_bounded h))
steps_are {g} (suc f) h =
    steps_are f (step_good h) ∙ ap (λ (z : List ℕ). mirror g.columns g.rows (after (step_mirrored g) f z)) (step_mirror h)

changes_are : {g : Grid} (f : ℕ) {t : List ℕ} → Good g t →
    changes (step g) g.unit f t ≡ changes (step_mirrored g) g.unit f (mirror g.columns g.rows t)
unfolding changes
changes_are zero h = refl
changes_are {g} (suc f) h =
    let r = changes_are f (step_good h) ∙ ap (changes (step_mirrored g) g.unit f) (step_mirror h) in
    rw (count_good h, r) refl

-- after as many steps as there are cells nothing is loose
pub steps_whole : {g : Grid} {t : List ℕ} → Good g t → loose g.unit (after (step g) (area g) t) ≡ 0
steps_whole {g} {t} h =
    let z = good_table h in
    let s = table_bounded (kept_table z (settle_kept (area g) z)) in
    let w = rw (length_mirror g.columns g.rows t, h.size) at (settle_whole z) in
    rw (steps_are (area g) h) (count_mirror g.unit h.shape.whole s ∙ w)

pub steps_good : {g : Grid} (f : ℕ) {t : List ℕ} → Good g t → Good g (after (step g) f t)
unfolding after
steps_good zero h = h
steps_good (suc f) h = steps_good f (step_good h)

pub steps_within : {g : Grid} (f : ℕ) {t : List ℕ} → Good g t → (i : ℕ) → i < area g → Within g.unit (at t i) (at (after (step g) f t) i)
unfolding after
steps_within zero h i l = within_refl h.shape.unit
steps_within (suc f) h i l = within_trans h.shape.unit (step_within h i l) (steps_within f (step_good h) i l)

-- however many steps are taken, no more of them change something than cells were loose
changes_loose : {g : Grid} (f : ℕ) {t : List ℕ} → Good g t → changes (step g) g.unit f t ≤ loose g.unit t
unfolding changes
changes_loose zero h = omega arith
changes_loose {g} (suc f) {t} h =
    let next = suc (changes (step g) g.unit f (step g t)) in
    by_dec (ℕ_discrete (loose g.unit t) 0)
    (λ z. rw (pick_yes {A = ℕ} (ℕ_discrete (loose g.unit t) 0) 0 next z) (omega arith))
    (λ z.
    rw (pick_no {A = ℕ} (ℕ_discrete (loose g.unit t) 0) 0 next z)
    (omega (arith, changes_loose f (step_good h), step_fewer h z)))

pub changes_most : {g : Grid} (f : ℕ) {t : List ℕ} → Good g t → changes (step g) g.unit f t ≤ area g
changes_most {g} f {t} h = omega (arith, changes_loose f h, count_most g.unit t, h.size)

-- the code's way: the table t is copied to c, mirrored to z, and f steps lead from there to s
module _ {g : Grid} {t c : List ℕ} (h : Good g t) (p : c ≡ t) where
  module _ {z : List ℕ} (q : z ≡ mirror g.columns g.rows c) where
    pub mirror_table : Table g z
    mirror_table = rw (q, p) (good_table h)

    module _ {f : ℕ} {s : List ℕ} {r : ℕ} (k : Steps (step_mirrored g) g.unit f z s r) where
      pub stepped_bounded : Bounded g.columns g.rows s
      stepped_bounded = rw k.table (table_bounded (kept_table mirror_table (settle_kept f mirror_table)))

      pub stepped_back : {s' : List ℕ} → s' ≡ mirror g.columns g.rows s → Steps (step g) g.unit f t s' r
      stepped_back e =
          record { table = e ∙ rw (k.table, q, p) (sym (steps_are f h)); count = rw (k.count, q, p) (sym (changes_are f h)) }
