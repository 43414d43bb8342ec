-- A loop over a list stands before what is left of it, `drop i us`: one turn on, a function that recurses on the list has gone one cell on, and
-- past the end it has its value for no cells.
use mathlib.Core.Path.{◌≡◌, refl, ◌∙◌}
use mathlib.Core.Logic.{◌≢◌}
use mathlib.Core.List.{List, [], ◌∷◌}
use mathlib.Core.Bool.{Bool, cond, not}
use Prim.Native.Nat.{ℕ, suc, ◌+◌, ◌*◌, ◌%◌, ◌≤◌, ◌<◌, min}
use native.Mathlib.Decide.{ℕ_discrete}
use native.Mathlib.Numerals.{add-one}
use native.Mathlib.Omega.{arith}
use borrow.Author.Tests.{eq-eqb, ne_eqb}
use lib.Dec.{eqb}
use lib.ListN.{length, get_or, drop, drop_of_length-le}
use lib.Seq.{drop-cons}
use Rattle.std.specs.List.{list_any}
use Rattle.settle.specs.Shown.{at, Whole}
use Rattle.settle.specs.Step.{closes, rises, least, move_by, move_pair, twin, room}
use Rattle.settle.proofs.LawLine.{pick_yes, pick_no, by_dec}
use Rattle.settle.proofs.LawWalk.{closes_whole, closes_here}

pub drop_next : (l : List ℕ) (i : ℕ) → i < length l → drop i l ≡ get_or l i 0 ∷ drop (i + 1) l
drop_next l i h = rw add-one (drop-cons l i 0 h)

module _ (W K : ℕ) (t : List ℕ) (r : ℕ) (us : List ℕ) (i : ℕ) where
  pub closes_stop : i < length us → at t (r * K + get_or us i 0 % K) % W ≢ 0 → closes W K t r (drop i us) ≡ 0
  closes_stop l h = rw (drop_next us i l) (closes_here W K t r (get_or us i 0) (drop (i + 1) us) h)

  pub closes_on : i < length us → Whole W (at t (r * K + get_or us i 0 % K)) →
      closes W K t r (drop i us) ≡ suc (closes W K t r (drop (i + 1) us))
  closes_on l h = rw (drop_next us i l) (closes_whole W K t r (get_or us i 0) (drop (i + 1) us) h)

  pub closes_out : length us ≤ i → closes W K t r (drop i us) ≡ 0
  unfolding closes
  closes_out l = rw (drop_of_length-le us l)

-- whether the marked cell is in the round decides which way it goes
pub rises_by : (lift : Bool) (mark : ℕ) (us : List ℕ) → rises lift mark us ≡ cond (list_any (λ u. eqb u mark) us) lift (not lift)
unfolding rises
rises_by lift mark [] = refl
rises_by lift mark (u ∷ us) =
    by_dec (ℕ_discrete u mark)
    (λ e. pick_yes (ℕ_discrete u mark) _ _ e ∙ rw (eq-eqb u mark e) refl)
    (λ e. pick_no (ℕ_discrete u mark) _ _ e ∙ rw (ne_eqb u mark e) (rises_by lift mark us))

module _ (W K : ℕ) (up : Bool) (t : List ℕ) (x : ℕ) (us : List ℕ) (i : ℕ) where
  pub least_on : i < length us → least W K up t x (drop i us)
      ≡ min (min (room up W (at t (get_or us i 0))) (room (not up) W (at t (twin K x (get_or us i 0))))) (least W K up t (get_or us i 0 % K) (drop (i + 1) us))
  unfolding least
  least_on l = rw (drop_next us i l)

  pub least_out : length us ≤ i → least W K up t x (drop i us) ≡ W
  unfolding least
  least_out l = rw (drop_of_length-le us l)

module _ (K p m : ℕ) (x : ℕ) (us : List ℕ) (i : ℕ) (t : List ℕ) where
  pub move_on : i < length us →
      move_by K p m x (drop i us) t ≡ move_by K p m (get_or us i 0 % K) (drop (i + 1) us) (move_pair K p m x (get_or us i 0) t)
  unfolding move_by
  move_on l = rw (drop_next us i l)

  pub move_out : length us ≤ i → move_by K p m x (drop i us) t ≡ t
  unfolding move_by
  move_out l = rw (drop_of_length-le us l)

-- no least room is above W
pub least_most : (W K : ℕ) (up : Bool) (t : List ℕ) (x : ℕ) (us : List ℕ) → min W (least W K up t x us) ≡ least W K up t x us
unfolding least
least_most W K up t x [] = omega arith
least_most W K up t x (u ∷ us) = omega (arith, least_most W K up t (u % K) us)

-- a turn of the loop that finds the least
pub least_step : (best rest all ra rb : ℕ) {b2 b1 a b whole : ℕ} → b2 ≡ min best b1 → b1 ≡ min a b → a ≡ ra → b ≡ rb →
    whole ≡ min (min ra rb) rest → min best whole ≡ all → min b2 rest ≡ all
least_step best rest all ra rb p q r s e f = omega arith
