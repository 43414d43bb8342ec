-- A round is moved pair by pair, by induction on its list: a pair leaves the other rows alone, so what is known of the rest of the round still
-- stands. What a pair adds to one column the next pair takes off it; a round that ends where it began keeps every sum.
use mathlib.Core.Path.{◌≡◌, refl, sym, ◌∙◌}
use mathlib.Core.Logic.{◌≢◌, ◌⊎◌, inl, inr, ⊎_elim}
use mathlib.Core.List.{List, [], ◌∷◌}
use mathlib.Core.Bool.{Bool, true, false, not}
use Prim.Native.Nat.{ℕ, zero, suc, ◌+◌, ◌-◌, ◌*◌, ◌/◌, ◌%◌, ◌≤◌, ◌<◌}
use native.Mathlib.Nat.{mod-lt, le_of_suc-le-suc}
use native.Mathlib.Decide.{ℕ_discrete}
use native.Mathlib.Omega.{arith}
use lib.Arith.{digits_div}
use lib.ListN.{length, set, length-set}
use Rattle.settle.specs.Shown.{at, Whole, sum}
use Rattle.settle.specs.Step.{whole?, twin, move_pair, move_by, end_column, loose_cell, loose, room, least, part}
use Rattle.settle.specs.Moves.{Within}
use Rattle.settle.specs.Inner.{Hop, Move, Fit, Apart, Trail}
use Rattle.settle.proofs.LawLine.{pick_yes, pick_no, by_dec}
use Rattle.settle.proofs.LawNear.{within_refl, within_trans, hit_up, hit_down}
use Rattle.settle.proofs.LawPair.{tag, twin_at, pair_length, pair_row, pair_column, pair_other, pair_within}

-- some cell of the round becomes whole
abbrev pub Hit : (W K p m : ℕ) (t : List ℕ) (x : ℕ) (us : List ℕ) → Type 0
Hit W K p m t x [] = ⊥
Hit W K p m t x (u ∷ us) = Whole W (at t u + p - m) ⊎ (Whole W (at t (twin K x u) + m - p) ⊎ Hit W K p m t (u % K) us)

-- what is known of a path stands where its rows are as they were
module _ (W K p m : ℕ) (t t' : List ℕ) (r : ℕ) (el : length t' ≡ length t) (e : (i : ℕ) → i / K ≢ r → at t' i ≡ at t i) where
  pair_carry : (x u : ℕ) → u / K ≢ r → Move W K p m t x u → Move W K p m t' x u
  pair_carry x u z h =
      let a = e u z in
      let b = e (twin K x u) (λ y. z (sym (digits_div (u / K) h.hop.column) ∙ y)) in
      record {
        hop =
            record {
              inside = omega (arith, h.hop.inside);
              twin_inside = omega (arith, h.hop.twin_inside);
              column = h.hop.column;
              other = h.hop.other;
              loose = rw a h.hop.loose;
              twin_loose = rw b h.hop.twin_loose;
            };
        up = rw a h.up;
        down = rw a h.down;
        twin_up = rw b h.twin_up;
        twin_down = rw b h.twin_down;
      }

  fit_carry : (x : ℕ) (us : List ℕ) → Apart K r us → Fit W K p m t x us → Fit W K p m t' x us
  fit_carry x [] z h = tt
  fit_carry x (u ∷ us) z h = (pair_carry x u z.0 h.0, h.1, fit_carry (u % K) us z.1 h.2)

  hit_carry : (x : ℕ) (us : List ℕ) → Apart K r us → Fit W K p m t x us → Hit W K p m t x us → Hit W K p m t' x us
  hit_carry x [] z f h = h
  hit_carry x (u ∷ us) z f h =
      let a = e u z.0 in
      let b = e (twin K x u) (λ y. z.0 (sym (digits_div (u / K) f.0.hop.column) ∙ y)) in
      ⊎_elim (λ w. inl (rw a w)) (λ g. inr (⊎_elim (λ w. inl (rw b w)) (λ k. inr (hit_carry (u % K) us z.1 f.2 k)) g)) h

-- the number of loose cells after a store
count_set : (W : ℕ) (t : List ℕ) (i v : ℕ) → i < length t → loose W (set t i v) + loose_cell W (at t i) ≡ loose W t + loose_cell W v
unfolding loose
count_set W [] i v h = absurd (omega arith)
count_set W (x ∷ xs) zero v h = omega arith
count_set W (x ∷ xs) (suc i) v h = let r = count_set W xs i v (le_of_suc-le-suc h) in omega arith

pub cell_whole : (W x : ℕ) → Whole W x → loose_cell W x ≡ 0
cell_whole W x w = pick_yes {A = ℕ} (whole? W x) 0 1 w

pub cell_loose : (W x : ℕ) → x % W ≢ 0 → loose_cell W x ≡ 1
cell_loose W x w = pick_no {A = ℕ} (whole? W x) 0 1 w

cell_most : (W x : ℕ) → loose_cell W x ≤ 1
cell_most W x = by_dec (whole? W x) (λ w. omega (arith, cell_whole W x w)) (λ w. omega (arith, cell_loose W x w))

pair_count : {W K p m : ℕ} {t : List ℕ} {x u : ℕ} → 0 < W → 0 < K → Move W K p m t x u →
    loose W (move_pair K p m x u t) + 2 ≡ loose W t + loose_cell W (at t u + p - m) + loose_cell W (at t (twin K x u) + m - p)
pair_count {W} {K} {p} {m} {t} {x} {u} hW h_k h =
    let d = twin K x u in
    let t1 = set t u (at t u + p - m) in
    let a = count_set W t u (at t u + p - m) h.hop.inside in
    let b = count_set W t1 d (at t d + m - p) (simp length-set h.hop.twin_inside) in
    let b' = rw (twin_at hW h_k h) at b in
    let y = cell_loose W (at t u) h.hop.loose in
    let z = cell_loose W (at t d) h.hop.twin_loose in
    omega arith

module _ {W K : ℕ} (p m : ℕ) (hW : 0 < W) (h_k : 0 < K) where
  -- the rest of a round after its first pair is moved
  pub rest : (x u : ℕ) (us : List ℕ) (t : List ℕ) → Fit W K p m t x (u ∷ us) → Fit W K p m (move_pair K p m x u t) (u % K) us
  rest x u us t h =
      fit_carry W K p m t (move_pair K p m x u t) (u / K) (pair_length hW h_k h.0) (pair_other hW h_k h.0) (u % K) us h.1 h.2

  pub move_length : (x : ℕ) (us t : List ℕ) → Fit W K p m t x us → length (move_by K p m x us t) ≡ length t
  unfolding move_by
  move_length x [] t h = refl
  move_length x (u ∷ us) t h = move_length (u % K) us (move_pair K p m x u t) (rest x u us t h) ∙ pair_length hW h_k h.0

  pub move_row : (x : ℕ) (us t : List ℕ) → Fit W K p m t x us → (r : ℕ) → sum (move_by K p m x us t) (r * K) 1 K ≡ sum t (r * K) 1 K
  unfolding move_by
  move_row x [] t h r = refl
  move_row x (u ∷ us) t h r = move_row (u % K) us (move_pair K p m x u t) (rest x u us t h) r ∙ pair_row hW h_k h.0 r

  move_column : (x : ℕ) (us t : List ℕ) → Fit W K p m t x us → (n j : ℕ) → length t ≡ n * K → j < K →
      sum (move_by K p m x us t) j K n + tag (end_column K x us) j m + tag x j p ≡ sum t j K n + tag (end_column K x us) j p + tag x j m
  unfolding move_by end_column
  move_column x [] t h n j hl hj = omega arith
  move_column x (u ∷ us) t h n j hl hj =
      let a = move_column (u % K) us (move_pair K p m x u t) (rest x u us t h) n j (pair_length hW h_k h.0 ∙ hl) hj in
      let b = pair_column hW h_k h.0 n j hl hj in
      omega arith

  -- a round that closes keeps every column's sum
  pub round_column : (x : ℕ) (us t : List ℕ) → Fit W K p m t x us → end_column K x us ≡ x → (n j : ℕ) → length t ≡ n * K → j < K →
      sum (move_by K p m x us t) j K n ≡ sum t j K n
  round_column x us t h e n j hl hj =
      let a = move_column x us t h n j hl hj in
      let b = rw e at a in
      omega arith

  pub move_within : (x : ℕ) (us t : List ℕ) → Fit W K p m t x us → (i : ℕ) → Within W (at t i) (at (move_by K p m x us t) i)
  unfolding move_by
  move_within x [] t h i = within_refl hW
  move_within x (u ∷ us) t h i =
      within_trans hW (pair_within hW h_k h.0 i)
      (move_within (u % K) us (move_pair K p m x u t) (rest x u us t h) i)

  move_count : (x : ℕ) (us t : List ℕ) → Fit W K p m t x us → loose W (move_by K p m x us t) ≤ loose W t
  unfolding move_by
  move_count x [] t h = omega arith
  move_count x (u ∷ us) t h =
      let a = move_count (u % K) us (move_pair K p m x u t) (rest x u us t h) in
      let b = pair_count hW h_k h.0 in
      omega (arith, cell_most W (at t u + p - m), cell_most W (at t (twin K x u) + m - p))

  -- where a cell is hit, fewer are loose
  pub round_count : (x : ℕ) (us t : List ℕ) → Fit W K p m t x us → Hit W K p m t x us → loose W (move_by K p m x us t) < loose W t
  unfolding move_by
  round_count x [] t h g = absurd g
  round_count x (u ∷ us) t h g =
      let a = move_count (u % K) us (move_pair K p m x u t) (rest x u us t h) in
      let b = pair_count hW h_k h.0 in
      ⊎_elim
      (λ w. omega (arith, cell_whole W (at t u + p - m) w, cell_most W (at t (twin K x u) + m - p)))
      (λ g'.
      ⊎_elim
      (λ w. omega (arith, cell_whole W (at t (twin K x u) + m - p) w, cell_most W (at t u + p - m)))
      (λ g''.
      let t' = move_pair K p m x u t in
      let hit = hit_carry W K p m t t' (u / K) (pair_length hW h_k h.0) (pair_other hW h_k h.0) (u % K) us h.1 h.2 g'' in
      let c = round_count (u % K) us t' (rest x u us t h) hit in
      omega (arith, cell_most W (at t u + p - m), cell_most W (at t (twin K x u) + m - p)))
      g')
      g

-- the least room fits, and hits
pair_least : (W K : ℕ) (up : Bool) (t : List ℕ) (x u d : ℕ) → Hop W K t x u → d ≤ room up W (at t u) →
    d ≤ room (not up) W (at t (twin K x u)) →
    Move W K (part up d) (part (not up) d) t x u
pair_least W K true t x u d h a b = record { hop = h; up = a; down = omega arith; twin_up = omega arith; twin_down = b }
pair_least W K false t x u d h a b = record { hop = h; up = omega arith; down = a; twin_up = b; twin_down = omega arith }

pub fit_least : (W K : ℕ) (up : Bool) (t : List ℕ) (x : ℕ) (us : List ℕ) (d : ℕ) → Trail W K t x us → d ≤ least W K up t x us →
    Fit W K (part up d) (part (not up) d) t x us
unfolding least
fit_least W K up t x [] d h l = tt
fit_least W K up t x (u ∷ us) d h l =
    (pair_least W K up t x u d h.0 (omega arith) (omega arith), h.1, fit_least W K up t (u % K) us d h.3 (omega arith))

hit_first : (W : ℕ) (up : Bool) (x d : ℕ) → 0 < W → d ≡ room up W x → Whole W (x + part up d - part (not up) d)
hit_first W true x d h e = let y : x + d - 0 ≡ x + (W - x % W) = omega arith in rw y (hit_up W x h)
hit_first W false x d h e = let y : x + 0 - d ≡ x - x % W = omega arith in rw y (hit_down W x)

hit_twin : (W : ℕ) (up : Bool) (x d : ℕ) → 0 < W → d ≡ room (not up) W x → Whole W (x + part (not up) d - part up d)
hit_twin W true x d h e = let y : x + 0 - d ≡ x - x % W = omega arith in rw y (hit_down W x)
hit_twin W false x d h e = let y : x + d - 0 ≡ x + (W - x % W) = omega arith in rw y (hit_up W x h)

room_most : (W : ℕ) (up : Bool) (x : ℕ) → 0 < W → room up W x ≤ W
room_most W true x h = omega arith
room_most W false x h = omega (arith, mod-lt x h)

pub hit_least : (W K : ℕ) (up : Bool) (t : List ℕ) (x u : ℕ) (us : List ℕ) (d : ℕ) → 0 < W → d ≡ least W K up t x (u ∷ us) →
    Hit W K (part up d) (part (not up) d) t x (u ∷ us)
unfolding least
hit_least W K up t x u [] d h e =
    by_dec (ℕ_discrete d (room up W (at t u)))
    (λ y. inl (hit_first W up (at t u) d h y))
    (λ y. inr (inl (hit_twin W up (at t (twin K x u)) d h (omega (arith, room_most W up (at t u) h)))))
hit_least W K up t x u (v ∷ us) d h e =
    by_dec (ℕ_discrete d (room up W (at t u)))
    (λ y. inl (hit_first W up (at t u) d h y))
    (λ y.
    by_dec (ℕ_discrete d (room (not up) W (at t (twin K x u))))
    (λ z. inr (inl (hit_twin W up (at t (twin K x u)) d h z)))
    (λ z. inr (inr (hit_least W K up t (u % K) v us d h (omega arith)))))
