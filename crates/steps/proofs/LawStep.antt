-- Each sentence about a step is a law of `settle` about a good table; here they stand together. The count is found by following the steps: while
-- the table is not whole a step changes it, and from then on none does.
use mathlib.Core.Path.{◌≡◌, refl, ap}
use mathlib.Core.Logic.{◌≢◌}
use mathlib.Core.List.{List}
use Prim.Native.Nat.{ℕ, zero, suc, ◌≤◌, ◌<◌}
use native.Mathlib.Decide.{ℕ_discrete}
use native.Mathlib.Omega.{arith}
use lib.ListN.{length}
use Rattle.settle.specs.declared.Grid.{Grid}
use Rattle.settle.specs.Table.{Good}
use Rattle.settle.specs.Step.{loose, step, after, changes}
use Rattle.settle.proofs.LawLine.{pick_yes, pick_no, by_dec}
use Rattle.settle.proofs.LawSteps.{step_good, step_within, step_fewer, step_stays, steps_whole, changes_most}
use Rattle.settle.proofs.LawOneRound.{step_round_lem}
use Rattle.steps.specs.Step.{WholeTable, SettlingStep}
use Rattle.steps.specs.Count.{StepCount}

-- a step changes every table that is not whole
pub step_changes : {g : Grid} {t : List ℕ} → Good g t → loose g.unit t ≢ 0 → step g t ≢ t
step_changes {g} h z e = omega (arith, step_fewer h z, ap (loose g.unit) e)

pub settling_step : {g : Grid} {t : List ℕ} → Good g t → SettlingStep g t (step g t)
settling_step {g} {t} h =
    record {
      more_whole = step_fewer h;
      none_broken = λ i l. (step_within h i l).kept;
      none_past_below = λ i l. (step_within h i l).low;
      none_past_above = λ i l. (step_within h i l).high;
      sums_kept = (step_good h).sums;
      one_round = step_round_lem h;
      whole_stays = step_stays h;
      only_whole_stays = λ e. by_dec (ℕ_discrete (loose g.unit t) 0) (λ z. z) (λ z. absurd (step_changes h z e));
      fixed = refl;
    }

-- ---- the count

module _ (g : Grid) where
  -- how many of the steps change something, by whether the table is whole
  pub changes_whole : (f : ℕ) (t : List ℕ) → WholeTable g t → changes (step g) g.unit f t ≡ 0
  unfolding changes
  changes_whole zero t w = refl
  changes_whole (suc f) t w = pick_yes {A = ℕ} (ℕ_discrete (loose g.unit t) 0) 0 _ w

  pub changes_next : (f : ℕ) (t : List ℕ) → loose g.unit t ≢ 0
      → changes (step g) g.unit (suc f) t ≡ suc (changes (step g) g.unit f (step g t))
  unfolding changes
  changes_next f t z = pick_no {A = ℕ} (ℕ_discrete (loose g.unit t) 0) 0 _ z

  -- each of so many changes something
  changing : (f i : ℕ) (t : List ℕ) → Good g t → i < changes (step g) g.unit f t → after (step g) (suc i) t ≢ after (step g) i t
  unfolding after changes
  changing zero i t h l = absurd (omega arith)
  changing (suc f) zero t h l =
      by_dec (ℕ_discrete (loose g.unit t) 0) (λ w. absurd (omega (arith, changes_whole (suc f) t w))) (λ z. step_changes h z)
  changing (suc f) (suc i) t h l =
      by_dec (ℕ_discrete (loose g.unit t) 0)
      (λ w. absurd (omega (arith, changes_whole (suc f) t w)))
      (λ z. changing f i (step g t) (step_good h) (omega (arith, changes_next f t z)))

  -- and after them the table is whole, if the f steps end in a whole one
  whole_then : (f : ℕ) (t : List ℕ) → Good g t → WholeTable g (after (step g) f t)
      → WholeTable g (after (step g) (changes (step g) g.unit f t) t)
  unfolding after changes
  whole_then zero t h w = w
  whole_then (suc f) t h w =
      by_dec (ℕ_discrete (loose g.unit t) 0)
      (λ y. rw (changes_whole (suc f) t y) y)
      (λ z. rw (changes_next f t z) (whole_then f (step g t) (step_good h) w))

  -- from a whole table on nothing changes
  pub whole_ends : (n i : ℕ) (t : List ℕ) → Good g t → WholeTable g (after (step g) n t) → n ≤ i
      → after (step g) (suc i) t ≡ after (step g) i t
  unfolding after
  whole_ends zero i t h w l = ap (after (step g) i) (step_stays h w)
  whole_ends (suc n) zero t h w l = absurd (omega arith)
  whole_ends (suc n) (suc i) t h w l = whole_ends n i (step g t) (step_good h) w (omega arith)

  pub step_count : (t : List ℕ) → Good g t → StepCount g t (changes (step g) g.unit (length t) t)
  step_count t h =
      let w = whole_then (length t) t h (rw h.size (steps_whole h)) in
      record {
        changing = λ i l. changing (length t) i t h l;
        ended = λ i l. whole_ends (changes (step g) g.unit (length t) t) i t h w l;
        whole = w;
        most = changes_most (length t) h;
      }
