-- Moving a pair is two stores in one row. Each store changes a line's sum by what it adds to the cell, so the row keeps its sum and the two
-- columns change by opposite amounts; the room that a Move has keeps both cells between their whole numbers.
use mathlib.Core.Path.{◌≡◌, refl, sym, ap, ◌∙◌}
use mathlib.Core.Logic.{◌≢◌}
use mathlib.Core.List.{List}
use Prim.Native.Nat.{ℕ, ◌+◌, ◌-◌, ◌*◌, ◌/◌, ◌%◌, ◌≤◌, ◌<◌}
use native.Mathlib.Nat.{div-add-mod', mod-lt, div-lt_iff_lt-mul, add-mul-mod_self_right, mod-eq_of_lt}
use native.Mathlib.Decide.{ℕ_discrete}
use native.Mathlib.Omega.{arith}
use lib.Arith.{digits_div, digits_mod}
use lib.ListN.{length, set, length-set}
use lib.Seq.{get_or-set_same, get_or-set_other}
use Rattle.settle.specs.Shown.{at, sum}
use Rattle.settle.specs.Step.{pick, twin, move_pair}
use Rattle.settle.specs.Moves.{Within}
use Rattle.settle.specs.Inner.{Move}
use Rattle.settle.proofs.LawLine.{pick_yes, pick_no, by_dec, sum_in, sum_out}
use Rattle.settle.proofs.LawNear.{within_refl, within_move}

-- v where a is b, else 0
abbrev pub tag : (a b v : ℕ) → ℕ
tag a b v = pick (ℕ_discrete a b) v 0

tag_add : {P : Type 0} (d : Dec P) (a b p m : ℕ) → a + p ≡ b + m → pick d a 0 + pick d p 0 ≡ pick d b 0 + pick d m 0
tag_add (yes h) a b p m e = e
tag_add (no h) a b p m e = refl

-- a store and the sum of column j
col_set : (K n : ℕ) (t : List ℕ) (i v j : ℕ) → 0 < K → length t ≡ n * K → i < length t → j < K →
    sum (set t i v) j K n + tag (i % K) j (at t i) ≡ sum t j K n + tag (i % K) j v
col_set K n t i v j h_k hl hi hj =
    by_dec (ℕ_discrete (i % K) j)
    (λ e.
    rw (pick_yes (ℕ_discrete (i % K) j) (at t i) 0 e, pick_yes (ℕ_discrete (i % K) j) v 0 e)
    (sum_in t j K n (i / K) i v h_k ((div-lt_iff_lt-mul h_k).1 (omega arith)) (omega (arith, div-add-mod' i K)) hi))
    (λ e.
    rw (pick_no (ℕ_discrete (i % K) j) (at t i) 0 e, pick_no (ℕ_discrete (i % K) j) v 0 e)
    (ap (λ (k : ℕ). k + 0)
    (sum_out t j K n i v (λ k l z. e (ap (λ (k : ℕ). k % K) (sym z) ∙ add-mul-mod_self_right j k K ∙ mod-eq_of_lt hj)))))

-- a store and the sum of row r
row_set : (K : ℕ) (t : List ℕ) (i v r : ℕ) → 0 < K → i < length t →
    sum (set t i v) (r * K) 1 K + tag (i / K) r (at t i) ≡ sum t (r * K) 1 K + tag (i / K) r v
row_set K t i v r h_k hi =
    by_dec (ℕ_discrete (i / K) r)
    (λ e.
    rw (pick_yes (ℕ_discrete (i / K) r) (at t i) 0 e, pick_yes (ℕ_discrete (i / K) r) v 0 e)
    (sum_in t (r * K) 1 K (i % K) i v (omega arith) (mod-lt i h_k) (omega (arith, div-add-mod' i K, ap (λ (k : ℕ). k * K) e)) hi))
    (λ e.
    rw (pick_no (ℕ_discrete (i / K) r) (at t i) 0 e, pick_no (ℕ_discrete (i / K) r) v 0 e)
    (ap (λ (k : ℕ). k + 0)
    (sum_out t (r * K) 1 K i v (λ k l z. e (ap (λ (k : ℕ). k / K) (let y : i ≡ r * K + k = omega arith in y) ∙ digits_div r l)))))

-- what a Move says of its pair
module _ {W K p m : ℕ} {t : List ℕ} {x u : ℕ} (hW : 0 < W) (h_k : 0 < K) (h : Move W K p m t x u) where
  apart : twin K x u ≢ u
  apart e = h.hop.other (ap (λ (k : ℕ). k % K) (sym e) ∙ digits_mod (u / K) h.hop.column)

  pub twin_row : twin K x u / K ≡ u / K
  twin_row = digits_div (u / K) h.hop.column

  twin_col : twin K x u % K ≡ x
  twin_col = digits_mod (u / K) h.hop.column

  pub twin_at : at (set t u (at t u + p - m)) (twin K x u) ≡ at t (twin K x u)
  twin_at = get_or-set_other t u (twin K x u) (at t u + p - m) 0 apart

  pub enough : m ≤ at t u
  enough = omega (arith, h.down, div-add-mod' (at t u) W)

  pub twin_enough : p ≤ at t (twin K x u)
  twin_enough = omega (arith, h.twin_down, div-add-mod' (at t (twin K x u)) W)

  pub pair_length : length (move_pair K p m x u t) ≡ length t
  pair_length = simp length-set

  -- rows keep their sums
  pub pair_row : (r : ℕ) → sum (move_pair K p m x u t) (r * K) 1 K ≡ sum t (r * K) 1 K
  pair_row r =
      let d = twin K x u in
      let t1 = set t u (at t u + p - m) in
      let a = row_set K t u (at t u + p - m) r h_k h.hop.inside in
      let b = row_set K t1 d (at t d + m - p) r h_k (simp length-set h.hop.twin_inside) in
      let c = tag_add (ℕ_discrete (u / K) r) (at t u) (at t u + p - m) p m (omega (arith, enough)) in
      let b' : sum (move_pair K p m x u t) (r * K) 1 K + tag (u / K) r (at t d) ≡ sum t1 (r * K) 1 K + tag (u / K) r (at t d + m - p) = rw (twin_at, twin_row) at b in
      let c' = tag_add (ℕ_discrete (u / K) r) (at t d) (at t d + m - p) m p (omega (arith, twin_enough)) in
      omega arith

  -- columns: the one of u has p more and m less, the one of its twin m more and p less
  pub pair_column : (n j : ℕ) → length t ≡ n * K → j < K →
      sum (move_pair K p m x u t) j K n + tag (u % K) j m + tag x j p ≡ sum t j K n + tag (u % K) j p + tag x j m
  pair_column n j hl hj =
      let d = twin K x u in
      let t1 = set t u (at t u + p - m) in
      let a = col_set K n t u (at t u + p - m) j h_k hl h.hop.inside hj in
      let b = col_set K n t1 d (at t d + m - p) j h_k (simp length-set hl) (simp length-set h.hop.twin_inside) hj in
      let c = tag_add (ℕ_discrete (u % K) j) (at t u) (at t u + p - m) p m (omega (arith, enough)) in
      let b' : sum (move_pair K p m x u t) j K n + tag x j (at t d) ≡ sum t1 j K n + tag x j (at t d + m - p) = rw (twin_at, twin_col) at b in
      let c' = tag_add (ℕ_discrete x j) (at t d) (at t d + m - p) m p (omega (arith, twin_enough)) in
      omega arith

  -- other rows are as they were
  pub pair_other : (i : ℕ) → i / K ≢ u / K → at (move_pair K p m x u t) i ≡ at t i
  pair_other i z =
      let d = twin K x u in
      let t1 = set t u (at t u + p - m) in
      get_or-set_other t1 d i (at t d + m - p) 0 (λ e. z (ap (λ (k : ℕ). k / K) e ∙ twin_row))
      ∙ get_or-set_other t u i (at t u + p - m) 0 (λ e. z (ap (λ (k : ℕ). k / K) e))

  pub pair_cell : at (move_pair K p m x u t) u ≡ at t u + p - m
  pair_cell =
      get_or-set_other (set t u (at t u + p - m)) (twin K x u) u (at t (twin K x u) + m - p) 0 (λ e. apart (sym e))
      ∙ get_or-set_same t u (at t u + p - m) 0 h.hop.inside

  pub pair_twin : at (move_pair K p m x u t) (twin K x u) ≡ at t (twin K x u) + m - p
  pair_twin = get_or-set_same (set t u (at t u + p - m)) (twin K x u) (at t (twin K x u) + m - p) 0 (simp length-set h.hop.twin_inside)

  -- every cell stays between its whole numbers
  pub pair_within : (i : ℕ) → Within W (at t i) (at (move_pair K p m x u t) i)
  pair_within i =
      by_dec (ℕ_discrete i (twin K x u))
      (λ e. rw (e, pair_twin) (within_move m p hW h.twin_up h.twin_down h.hop.twin_loose))
      (λ e.
      by_dec (ℕ_discrete i u)
      (λ f. rw (f, pair_cell) (within_move p m hW h.up h.down h.hop.loose))
      (λ f.
      rw (get_or-set_other (set t u (at t u + p - m)) (twin K x u) i (at t (twin K x u) + m - p) 0 e, get_or-set_other t u i (at t u + p - m) 0 f)
      (within_refl hW)))
