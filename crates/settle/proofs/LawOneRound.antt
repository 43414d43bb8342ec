-- The cells of the path move one way and their twins the other, all by the same amount; rows are apart, so no later pair moves them again. Each
-- row of a path has one cell and one twin, and each column as many twins as cells. The way is chosen so that the marked total goes up.
use mathlib.Core.Path.{◌≡◌, refl, sym, ap, subst, ◌∙◌}
use mathlib.Core.Logic.{◌≢◌, ◌⊎◌, inl, inr, ⊎_elim}
use mathlib.Core.List.{List, [], ◌∷◌, ◌++◌}
use mathlib.Core.Bool.{Bool, true, false, not}
use Prim.Native.Nat.{ℕ, ◌+◌, ◌-◌, ◌*◌, ◌/◌, ◌%◌, ◌≤◌, ◌<◌}
use native.Mathlib.Nat.{le_refl, mod-lt}
use native.Mathlib.Decide.{ℕ_discrete, dec_lt}
use native.Mathlib.Omega.{arith}
use borrow.Author.Tests.{eq-eqb, ne_eqb}
use lib.Arith.{digits_div, digits_mod}
use lib.Dec.{eqb}
use lib.ListN.{length, set, get_or-eq_default}
use lib.Seq.{get_or-set_other}
use Rattle.settle.specs.Grid.{Grid, area}
use Rattle.settle.specs.Shown.{at}
use Rattle.settle.specs.Table.{limit, Good}
use Rattle.settle.specs.Step.{loose, first_loose, round_from, end_column, twin, move_pair, move_by, room, least, rises, part, move_round}
use Rattle.settle.specs.Step.{step_mirrored, mirror, marked_cell, step, step_round, step_amount}
use Rattle.settle.specs.Moves.{twins, round_cells, Among, same, in_line, in_row, in_column, OneRound}
use Rattle.settle.specs.Inner.{Table, Misses, Apart, New, Trail, Closed, Fit}
use Rattle.settle.proofs.LawLine.{pick_yes, pick_no, by_dec}
use Rattle.settle.proofs.LawPair.{pair_other, pair_cell, pair_twin, twin_row, enough, twin_enough}
use Rattle.settle.proofs.LawRound.{rest, fit_least}
use Rattle.settle.proofs.LawStepMirrored.{end_end, round_closed, first_loose_lem, first_none, mirrored_moves, mirrored_table}
use Rattle.settle.proofs.LawMirror.{good_bounded, good_table, both_ways, at_mirror, length_mirror, mirror_cases, minus_last}
use Rattle.settle.proofs.LawMirror.{plus_last, whole_comp}
use Rattle.settle.proofs.LawSteps.{step_good, step_stays, count_good}

-- a cell of the path is not in a row apart
among_apart : (K r v : ℕ) (us : List ℕ) → Apart K r us → Among v us → v / K ≢ r
among_apart K r v [] a h = absurd h
among_apart K r v (u ∷ us) a h = ⊎_elim (λ e. rw (← e) a.0) (λ g. among_apart K r v us a.1 g) h

module _ {W K : ℕ} (p m : ℕ) (hW : 0 < W) (h_k : 0 < K) where
  twinned_apart : (r v x : ℕ) (us t : List ℕ) → Fit W K p m t x us → Apart K r us → Among v (twins K x us) → v / K ≢ r
  unfolding twins
  twinned_apart r v x [] t f a h = absurd h
  twinned_apart r v x (u ∷ us) t f a h =
      ⊎_elim
      (λ e y. a.0 (sym (twin_row hW h_k f.0) ∙ ap (λ (i : ℕ). i / K) e ∙ y))
      (λ g. twinned_apart r v (u % K) us t f.2 a.1 g)
      h

  -- a row that is apart is not touched
  move_other : (r x : ℕ) (us t : List ℕ) → Fit W K p m t x us → Apart K r us → (i : ℕ) → i / K ≡ r → at (move_by K p m x us t) i ≡ at t i
  unfolding move_by
  move_other r x [] t f a i e = refl
  move_other r x (u ∷ us) t f a i e =
      move_other r (u % K) us (move_pair K p m x u t) (rest p m hW h_k x u us t f) a.1 i e
      ∙ pair_other hW h_k f.0 i (λ z. a.0 (sym z ∙ e))

  -- what the round does to its cells, and to their twins
  move_among : (v x : ℕ) (us t : List ℕ) → Fit W K p m t x us → Among v us → at (move_by K p m x us t) v + m ≡ at t v + p
  unfolding move_by
  move_among v x [] t f h = absurd h
  move_among v x (u ∷ us) t f h =
      ⊎_elim
      (λ e.
      let a = move_other (u / K) (u % K) us (move_pair K p m x u t) (rest p m hW h_k x u us t f) f.1 u refl in
      let b = pair_cell hW h_k f.0 in
      let g : at (move_by K p m (u % K) us (move_pair K p m x u t)) u + m ≡ at t u + p = omega (arith, enough hW h_k f.0) in
      rw (← e) g)
      (λ g.
      move_among v (u % K) us (move_pair K p m x u t) (rest p m hW h_k x u us t f) g
      ∙ ap (λ (i : ℕ). i + p) (pair_other hW h_k f.0 v (among_apart K (u / K) v us f.1 g)))
      h

  move_twinned : (v x : ℕ) (us t : List ℕ) → Fit W K p m t x us → Among v (twins K x us) → at (move_by K p m x us t) v + p ≡ at t v + m
  unfolding move_by twins
  move_twinned v x [] t f h = absurd h
  move_twinned v x (u ∷ us) t f h =
      ⊎_elim
      (λ e.
      let a = move_other (u / K) (u % K) us (move_pair K p m x u t) (rest p m hW h_k x u us t f) f.1 (twin K x u) (twin_row hW h_k f.0) in
      let b = pair_twin hW h_k f.0 in
      let g : at (move_by K p m (u % K) us (move_pair K p m x u t)) (twin K x u) + p ≡ at t (twin K x u) + m = omega (arith, twin_enough hW h_k f.0) in
      rw (← e) g)
      (λ g.
      move_twinned v (u % K) us (move_pair K p m x u t) (rest p m hW h_k x u us t f) g
      ∙ ap (λ (i : ℕ). i + m) (pair_other hW h_k f.0 v (twinned_apart (u / K) v (u % K) us t f.2 f.1 g)))
      h

  -- no twin is a cell of the round
  not_both : (v x : ℕ) (us t : List ℕ) → Fit W K p m t x us → Among v (twins K x us) → Among v us → ⊥
  unfolding twins
  not_both v x [] t f h g = g
  not_both v x (u ∷ us) t f h g =
      ⊎_elim
      (λ e.
      ⊎_elim
      (λ y. f.0.hop.other (ap (λ (i : ℕ). i % K) (y ∙ sym e) ∙ digits_mod (u / K) f.0.hop.column))
      (λ y. among_apart K (u / K) v us f.1 y (ap (λ (i : ℕ). i / K) (sym e) ∙ twin_row hW h_k f.0))
      g)
      (λ e.
      ⊎_elim
      (λ y. twinned_apart (u / K) v (u % K) us t f.2 f.1 e (ap (λ (i : ℕ). i / K) (sym y)))
      (λ y. not_both v (u % K) us t f.2 e y)
      g)
      h

room_pos : (W : ℕ) (up : Bool) (x : ℕ) → 0 < W → x % W ≢ 0 → 0 < room up W x
room_pos W true x h z = omega (arith, mod-lt x h)
room_pos W false x h z = omega arith

rises_among : (up : Bool) (v : ℕ) (us : List ℕ) → Among v us → rises up v us ≡ up
unfolding rises
rises_among up v [] h = absurd h
rises_among up v (u ∷ us) h =
    by_dec (ℕ_discrete u v)
    (λ e. pick_yes (ℕ_discrete u v) _ _ e)
    (λ e. pick_no (ℕ_discrete u v) _ _ e ∙ rises_among up v us (⊎_elim (λ y. absurd (e y)) (λ y. y) h))

rises_not : (up : Bool) (v : ℕ) (us : List ℕ) → (Among v us → ⊥) → rises up v us ≡ not up
unfolding rises
rises_not up v [] h = refl
rises_not up v (u ∷ us) h = pick_no (ℕ_discrete u v) _ _ (λ e. h (inl e)) ∙ rises_not up v us (λ y. h (inr y))

-- a round has room
least_pos : (W K : ℕ) (up : Bool) (t : List ℕ) (x : ℕ) (us : List ℕ) → 0 < W → Trail W K t x us → 0 < least W K up t x us
unfolding least
least_pos W K up t x [] hW h = hW
least_pos W K up t x (u ∷ us) hW h =
    let a = room_pos W up (at t u) hW h.0.loose in
    let b = room_pos W (not up) (at t (twin K x u)) hW h.0.twin_loose in
    omega (arith, least_pos W K up t (u % K) us hW h.3)

is_same_lem : (a b : ℕ) → a ≡ b → same a b ≡ 1
is_same_lem a b e = pick_yes {A = ℕ} (ℕ_discrete a b) 1 0 e

not_same : (a b : ℕ) → a ≢ b → same a b ≡ 0
not_same a b e = pick_no {A = ℕ} (ℕ_discrete a b) 1 0 e

misses_none : (f : ℕ → ℕ) (r : ℕ) (us : List ℕ) → Misses f r us → in_line f r us ≡ 0
unfolding in_line
misses_none f r [] h = refl
misses_none f r (u ∷ us) h = omega (arith, not_same (f u) r h.0, misses_none f r us h.1)

module _ (W K : ℕ) (t : List ℕ) where
  -- at most one of the cells is in a row, and in a column
  row_most : (r x : ℕ) (us : List ℕ) → Trail W K t x us → in_row K r us ≤ 1
  unfolding in_line
  row_most r x [] h = omega arith
  row_most r x (u ∷ us) h =
      by_dec (ℕ_discrete (u / K) r)
      (λ e. let a : Apart K r us = rw e at h.1 in omega (arith, is_same_lem (u / K) r e, misses_none (λ v. v / K) r us a))
      (λ e. omega (arith, not_same (u / K) r e, row_most r (u % K) us h.3))

  col_most : (c x : ℕ) (us : List ℕ) → Trail W K t x us → in_column K c us ≤ 1
  unfolding in_line
  col_most c x [] h = omega arith
  col_most c x (u ∷ us) h =
      by_dec (ℕ_discrete (u % K) c)
      (λ e. let a : New K c us = rw e at h.2 in omega (arith, is_same_lem (u % K) c e, misses_none (λ v. v % K) c us a))
      (λ e. omega (arith, not_same (u % K) c e, col_most c (u % K) us h.3))

  -- the twins have the cells' rows, and their columns but for the first and the last
  twins_row : (r x : ℕ) (us : List ℕ) → Trail W K t x us → in_row K r (twins K x us) ≡ in_row K r us
  unfolding in_line twins
  twins_row r x [] h = refl
  twins_row r x (u ∷ us) h =
      omega (arith, ap (λ (i : ℕ). same i r) (digits_div (u / K) h.0.column), twins_row r (u % K) us h.3)

  twins_col : (c x : ℕ) (us : List ℕ) → Trail W K t x us →
      in_column K c (twins K x us) + same (end_column K x us) c ≡ in_column K c us + same x c
  unfolding in_line twins end_column
  twins_col c x [] h = refl
  twins_col c x (u ∷ us) h =
      omega (arith, ap (λ (i : ℕ). same i c) (digits_mod (u / K) h.0.column), twins_col c (u % K) us h.3)

  among_loose : (v x : ℕ) (us : List ℕ) → Trail W K t x us → Among v us → (v < length t) × (at t v % W ≢ 0)
  among_loose v x [] h a = absurd a
  among_loose v x (u ∷ us) h a = ⊎_elim (λ e. rw (← e) (h.0.inside, h.0.loose)) (λ g. among_loose v (u % K) us h.3 g) a

  twinned_loose : (v x : ℕ) (us : List ℕ) → Trail W K t x us → Among v (twins K x us) → (v < length t) × (at t v % W ≢ 0)
  unfolding twins
  twinned_loose v x [] h a = absurd a
  twinned_loose v x (u ∷ us) h a = ⊎_elim (λ e. rw (← e) (h.0.twin_inside, h.0.twin_loose)) (λ g. twinned_loose v (u % K) us h.3 g) a

two : (a b : ℕ) → a ≤ 1 → b ≡ a → (a + b ≡ 0) ⊎ (a + b ≡ 2)
two a b l e = by_dec (ℕ_discrete a 0) (λ z. inl (omega arith)) (λ z. inr (omega arith))

-- a cell that is none of the round's is not touched
pair_else : (K p m x u : ℕ) (t : List ℕ) (v : ℕ) → u ≢ v → twin K x u ≢ v → at (move_pair K p m x u t) v ≡ at t v
pair_else K p m x u t v a b =
    get_or-set_other (set t u (at t u + p - m)) (twin K x u) v (at t (twin K x u) + m - p) 0 (λ e. b (sym e))
    ∙ get_or-set_other t u v (at t u + p - m) 0 (λ e. a (sym e))

move_else : (K p m x : ℕ) (us t : List ℕ) (v : ℕ) → (Among v us → ⊥) → (Among v (twins K x us) → ⊥) → at (move_by K p m x us t) v ≡ at t v
unfolding move_by twins
move_else K p m x [] t v a b = refl
move_else K p m x (u ∷ us) t v a b =
    move_else K p m (u % K) us (move_pair K p m x u t) v (λ g. a (inr g)) (λ g. b (inr g))
    ∙ pair_else K p m x u t v (λ e. a (inl e)) (λ e. b (inl e))

-- lists of cells, one after the other
pub among_left : (v : ℕ) (us ws : List ℕ) → Among v us → Among v (us ++ ws)
among_left v [] ws h = absurd h
among_left v (u ∷ us) ws h = ⊎_elim inl (λ g. inr (among_left v us ws g)) h

pub among_right : (v : ℕ) (us ws : List ℕ) → Among v ws → Among v (us ++ ws)
among_right v [] ws h = h
among_right v (u ∷ us) ws h = inr (among_right v us ws h)

pub among_either : (v : ℕ) (us ws : List ℕ) → Among v (us ++ ws) → Among v us ⊎ Among v ws
among_either v [] ws h = inr h
among_either v (u ∷ us) ws h = ⊎_elim (λ e. inl (inl e)) (λ g. ⊎_elim (λ a. inl (inr a)) inr (among_either v us ws g)) h

in_line_both : (f : ℕ → ℕ) (r : ℕ) (us ws : List ℕ) → in_line f r (us ++ ws) ≡ in_line f r us + in_line f r ws
unfolding in_line
in_line_both f r [] ws = omega arith
in_line_both f r (u ∷ us) ws = omega (arith, in_line_both f r us ws)

-- y is x moved by d, up or down
Went : (up : Bool) (x d y : ℕ) → Type 0
Went true x d y = y ≡ x + d
Went false x d y = y + d ≡ x

went_path : (up : Bool) (x d y : ℕ) → y + part (not up) d ≡ x + part up d → Went up x d y
unfolding Went
went_path true x d y e = omega arith
went_path false x d y e = omega arith

went_twin : (up : Bool) (x d y : ℕ) → y + part up d ≡ x + part (not up) d → Went (not up) x d y
unfolding Went
went_twin true x d y e = omega arith
went_twin false x d y e = omega arith

Moved : (x d y : ℕ) → Type 0
Moved x d y = (y ≡ x + d) ⊎ (y + d ≡ x)

went_moved : (up : Bool) (x d y : ℕ) → Went up x d y → Moved x d y
unfolding Moved Went
went_moved true x d y e = inl e
went_moved false x d y e = inr e

-- in the mirror up is down
mirror_moved : (x y d : ℕ) → x ≤ limit → y ≤ limit → Moved (limit - x) d y → Moved x d (limit - y)
unfolding Moved
mirror_moved x y d a b h = ⊎_elim (λ e. inr (omega arith)) (λ e. inl (omega arith)) h

not_not : (up lift : Bool) → up ≡ not lift → not up ≡ lift
not_not up true e = ap not e
not_not up false e = ap not e

-- the round of a mirrored table that is not whole
module _ {g : Grid} {z : List ℕ} (h : Table g z) (l : first_loose g.unit z < length z) where
  abbrev us : List ℕ
  us = round_from g.unit g.columns g.rows z (first_loose g.unit z)

  abbrev mark : ℕ
  mark = marked_cell g.columns g.rows g.marked

  abbrev up : Bool
  up = rises (eqb g.marked 0) mark us

  abbrev x : ℕ
  x = end_column g.columns 0 us

  abbrev amount : ℕ
  amount = least g.unit g.columns up z x us

  closed : Closed g.unit g.columns z us
  closed = round_closed h l (first_loose_lem g.unit z l)

  fit : Fit g.unit g.columns (part up amount) (part (not up) amount) z x us
  fit = fit_least g.unit g.columns up z x us amount closed.trail (le_refl amount)

  path_moved : (v : ℕ) → Among v us → Went up (at z v) amount (at (step_mirrored g z) v)
  unfolding move_round
  path_moved v a =
      let m = move_among (part up amount) (part (not up) amount) h.shape.unit h.shape.wide v x us z fit a in
      went_path up _ _ _ (rw (mirrored_moves h l) m)

  twins_moved : (v : ℕ) → Among v (twins g.columns x us) → Went (not up) (at z v) amount (at (step_mirrored g z) v)
  unfolding move_round
  twins_moved v a =
      let m = move_twinned (part up amount) (part (not up) amount) h.shape.unit h.shape.wide v x us z fit a in
      went_twin up _ _ _ (rw (mirrored_moves h l) m)

  mirrored_moved : (v : ℕ) → Among v (round_cells g.columns us) → Moved (at z v) amount (at (step_mirrored g z) v)
  mirrored_moved v a =
      ⊎_elim
      (λ b. went_moved up _ _ _ (path_moved v b))
      (λ b. went_moved (not up) _ _ _ (twins_moved v b))
      (among_either v us (twins g.columns x us) a)

  mirrored_else : (v : ℕ) → (Among v (round_cells g.columns us) → ⊥) → at (step_mirrored g z) v ≡ at z v
  unfolding move_round
  mirrored_else v a =
      let ws = twins g.columns x us in
      rw (mirrored_moves h l)
      (move_else g.columns (part up amount) (part (not up) amount) x us z v (λ b. a (among_left v us ws b)) (λ b. a (among_right v us ws b)))

  mark_moved : Among mark (round_cells g.columns us) → Went (eqb g.marked 0) (at z mark) amount (at (step_mirrored g z) mark)
  mark_moved a =
      let lift = eqb g.marked 0 in
      ⊎_elim
      (λ b. subst (λ (m : Bool). Went m (at z mark) amount (at (step_mirrored g z) mark)) (rises_among lift mark us b) (path_moved mark b))
      (λ b.
      let apart = not_both (part up amount) (part (not up) amount) h.shape.unit h.shape.wide mark x us z fit b in
      let e = not_not up lift (rises_not lift mark us apart) in
      subst (λ (m : Bool). Went m (at z mark) amount (at (step_mirrored g z) mark)) e (twins_moved mark b))
      (among_either mark us (twins g.columns x us) a)

  -- what is said of the round itself
  round_loose : (v : ℕ) → Among v (round_cells g.columns us) → (v < length z) × (at z v % g.unit ≢ 0)
  round_loose v a =
      ⊎_elim
      (λ b. among_loose g.unit g.columns z v x us closed.trail b)
      (λ b. twinned_loose g.unit g.columns z v x us closed.trail b)
      (among_either v us (twins g.columns x us) a)

  round_rows : (r : ℕ) → (in_row g.columns r (round_cells g.columns us) ≡ 0) ⊎ (in_row g.columns r (round_cells g.columns us) ≡ 2)
  round_rows r =
      let K = g.columns in
      rw (in_line_both (λ v. v / K) r us (twins K x us))
      (two (in_row K r us) _ (row_most g.unit K z r x us closed.trail) (twins_row g.unit K z r x us closed.trail))

  round_columns : (c : ℕ) →
      (in_column g.columns c (round_cells g.columns us) ≡ 0) ⊎ (in_column g.columns c (round_cells g.columns us) ≡ 2)
  round_columns c =
      let K = g.columns in
      let e = ap (λ (i : ℕ). same i c) (end_end K x 0 us closed.some) in
      rw (in_line_both (λ v. v % K) c us (twins K x us))
      (two (in_column K c us) _ (col_most g.unit K z c x us closed.trail) (omega (arith, twins_col g.unit K z c x us closed.trail)))

  amount_pos : 0 < amount
  amount_pos = least_pos g.unit g.columns up z x us h.shape.unit closed.trail

marked_at : (K n c : ℕ) → c < K → marked_cell K n c ≡ (n - 1) * K + c
unfolding marked_cell
marked_at K n c l = pick_yes (dec_lt c K) _ _ l

-- a step of a good table that is not whole
module _ {g : Grid} {t : List ℕ} (h : Good g t) (some : loose g.unit t ≢ 0) where
  abbrev z : List ℕ
  z = mirror g.columns g.rows t

  l : first_loose g.unit z < length z
  l =
      by_dec (dec_lt (first_loose g.unit z) (length z))
      (λ y. y)
      (λ y. absurd (some (sym (count_good h) ∙ first_none g.unit z (omega arith))))

  inside : (v : ℕ) → Among v (round_cells g.columns (step_round g t)) → (v < area g) × (at t v % g.unit ≢ 0)
  inside v a =
      let b = round_loose (good_table h) l v a in
      let e = at_mirror g.columns g.rows t v in
      let i : v < length t = omega (arith, b.0, length_mirror g.columns g.rows t) in (
        omega (arith, h.size),
        λ w.
            b.1
            (⊎_elim
            (λ m. rw (e i ∙ m (at t v)) (whole_comp g.unit h.shape.whole w ((good_bounded h).most v)))
            (λ m. rw (e i ∙ m (at t v)) w)
            (mirror_cases g.columns g.rows v)),
      )

  -- only the cells of one closed round are moved, none or two in each row and column, each by the same amount
  pub step_round_lem : OneRound g t (step g t) (round_cells g.columns (step_round g t)) (step_amount g t)
  unfolding Moved step
  step_round_lem =
      let s = good_table h in
      let d = step_amount g t in
      record {
        some = amount_pos s l;
        inside = inside;
        rows = round_rows s l;
        columns = round_columns s l;
        moved = λ v a.
            both_ways h (mirrored_table s) v (inside v a).0 (λ x y. Moved x d y) (λ x y. mirror_moved x y d) (mirrored_moved s l v a);
        others = λ v a.
            by_dec (dec_lt v (area g))
            (λ i. sym (both_ways h (mirrored_table s) v i (λ x y. x ≡ y) (λ x y p q e. omega arith) (sym (mirrored_else s l v a))))
            (λ i.
            get_or-eq_default (step g t) 0 {n = v} (omega (arith, (step_good h).size))
            ∙ sym (get_or-eq_default t 0 {n = v} (omega (arith, h.size))));
      }

  -- where the round holds the marked total, that cell goes up
  pub step_lifts : g.marked < g.columns → let v = (g.rows - 1) * g.columns + g.marked in
      Among v (round_cells g.columns (step_round g t)) → at (step g t) v ≡ at t v + step_amount g t
  unfolding step Went
  step_lifts k a =
      let K = g.columns in
      let n = g.rows in
      let h_k = h.shape.wide in
      let v = (n - 1) * K + g.marked in
      let d = step_amount g t in
      let y = good_table h in
      let ys = mirrored_table y in
      let s = step_mirrored g z in
      let e = marked_at K n g.marked k in
      let w : Went (eqb g.marked 0) (at z v) d (at s v) = subst (λ (i : ℕ). Went (eqb g.marked 0) (at z i) d (at s i)) e (mark_moved y l (rw e a)) in
      let i : v < area g = (inside v a).0 in
      let p = at_mirror K n s v (omega (arith, ys.even.size)) in
      let q = at_mirror K n t v (omega (arith, h.size)) in
      by_dec (ℕ_discrete g.marked 0)
      (λ m.
      let w' : Went true (at z v) d (at s v) = subst (λ (b : Bool). Went b (at z v) d (at s v)) (eq-eqb g.marked 0 m) w in
      let p' : at (mirror K n s) v ≡ at s v = p ∙ plus_last K n h_k g.marked (at s v) h.shape.high m in
      let q' : at z v ≡ at t v = q ∙ plus_last K n h_k g.marked (at t v) h.shape.high m in
      omega arith)
      (λ m.
      let w' : Went false (at z v) d (at s v) = subst (λ (b : Bool). Went b (at z v) d (at s v)) (ne_eqb g.marked 0 m) w in
      let p' = p ∙ minus_last K n h_k g.marked (at s v) h.shape.high k m in
      let q' = q ∙ minus_last K n h_k g.marked (at t v) h.shape.high k m in
      omega (arith, (good_bounded h).most v, ys.most v))

among? : (v : ℕ) (us : List ℕ) → Dec (Among v us)
among? v [] = no (λ h. h)
among? v (u ∷ us) =
    by_dec (ℕ_discrete u v) (λ e. yes (inl e)) (λ e. by_dec (among? v us) (λ h. yes (inr h)) (λ q. no (λ h. ⊎_elim e q h)))

-- so no step lowers it
pub step_never_lowers : {g : Grid} {t : List ℕ} → Good g t → g.marked < g.columns →
    let v = (g.rows - 1) * g.columns + g.marked in
    at t v ≤ at (step g t) v
step_never_lowers {g} {t} h k =
    let v = (g.rows - 1) * g.columns + g.marked in
    by_dec (ℕ_discrete (loose g.unit t) 0)
    (λ e. rw (step_stays h e) (le_refl _))
    (λ e.
    by_dec (among? v (round_cells g.columns (step_round g t)))
    (λ a. omega (arith, step_lifts h e k a))
    (λ a. omega (arith, (step_round_lem h e).others v a)))
