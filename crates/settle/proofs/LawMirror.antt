-- In the mirror the cells with a minus sign stand as what they lack of the limit, so every line of a good table sums to a multiple of the limit.
-- A step keeps those sums; mirrored back, they are the table's own sums again. Bounds and whole cells go to their complements and back.
use mathlib.Core.Path.{◌≡◌, refl, sym, ap, ◌∙◌}
use mathlib.Core.Logic.{◌≢◌, ◌⊎◌, inl, inr, ⊎_elim}
use mathlib.Core.List.{List, [], ◌∷◌}
use Prim.Native.Nat.{ℕ, zero, suc, ◌+◌, ◌-◌, ◌*◌, ◌/◌, ◌%◌, ◌≤◌, ◌<◌}
use native.Mathlib.Nat.{le_of_suc-le-suc, zero-add, div-add-mod', mod-lt, add-mod, mod-mod, div-lt_iff_lt-mul, add_comm, zero-mod, add-zero}
use native.Mathlib.Nat.{div-eq_of_lt-le}
use native.Mathlib.Decide.{ℕ_discrete, dec_lt}
use native.Mathlib.Omega.{arith}
use lib.Arith.{digits_mod, digits_lt}
use lib.ListN.{length, set, get_or-eq_default}
use lib.Seq.{ext_get_or}
use Rattle.settle.specs.Grid.{Grid, area}
use Rattle.settle.specs.Shown.{at, Whole, sum, Sums}
use Rattle.settle.specs.Table.{limit, Shape, Good}
use Rattle.settle.specs.Step.{whole?, mirror_cell, mirrors, mirror, loose_cell, loose}
use Rattle.settle.specs.Moves.{Within}
use Rattle.settle.specs.Inner.{Bounded, Even, Table, Written}
use Rattle.settle.proofs.LawCells.{written_more, written_on}
use Rattle.settle.proofs.LawLine.{pick_yes, pick_no, by_dec}
use Rattle.settle.proofs.LawNear.{within_refl}
use Rattle.settle.proofs.LawRound.{cell_whole, cell_loose}
use Rattle.settle.proofs.LawStepMirrored.{Kept, kept_table}
use Rattle.settle.proofs.LawTable.{last_row, small_of}

-- sums of two lists on a line where they agree, and where they complement each other; a sum by its first cell
sum_same : (t z : List ℕ) (b s m : ℕ) → ((k : ℕ) → k < m → at z (b + k * s) ≡ at t (b + k * s)) → sum z b s m ≡ sum t b s m
unfolding sum
sum_same t z b s zero h = refl
sum_same t z b s (suc m) h = omega (arith, sum_same t z b s m (λ k l. h k (omega arith)), h m (omega arith))

sum_mirror : (t z : List ℕ) (b s m : ℕ) → ((k : ℕ) → k < m → at z (b + k * s) + at t (b + k * s) ≡ limit) →
    sum z b s m + sum t b s m ≡ m * limit
unfolding sum
sum_mirror t z b s zero h = omega arith
sum_mirror t z b s (suc m) h = omega (arith, sum_mirror t z b s m (λ k l. h k (omega arith)), h m (omega arith))

sum_head : (t : List ℕ) (b s m : ℕ) → sum t b s (suc m) ≡ at t b + sum t (b + s) s m
unfolding sum
sum_head t b s zero = let e : b + 0 * s ≡ b = omega arith in omega (arith, ap (at t) e)
sum_head t b s (suc m) =
    let e : b + suc m * s ≡ b + s + m * s = omega arith in
    omega (arith, sum_head t b s m, ap (at t) e)

-- a cell and its complement
at_mirrors : (K n j : ℕ) (t : List ℕ) (i : ℕ) → i < length t → at (mirrors K n j t) i ≡ mirror_cell K n (j + i) (at t i)
unfolding mirrors
at_mirrors K n j [] i l = absurd (omega arith)
at_mirrors K n j (x ∷ xs) zero l = let e : j + 0 ≡ j = omega arith in rw e refl
at_mirrors K n j (x ∷ xs) (suc i) l =
    let e : suc j + i ≡ j + suc i = omega arith in
    at_mirrors K n (suc j) xs i (le_of_suc-le-suc l) ∙ ap (λ (k : ℕ). mirror_cell K n k (at xs i)) e

length_mirrors : (K n j : ℕ) (t : List ℕ) → length (mirrors K n j t) ≡ length t
unfolding mirrors
length_mirrors K n j [] = refl
length_mirrors K n j (x ∷ xs) = ap suc (length_mirrors K n (suc j) xs)

pub length_mirror : (K n : ℕ) (t : List ℕ) → length (mirror K n t) ≡ length t
length_mirror K n t = length_mirrors K n 0 t

pub at_mirror : (K n : ℕ) (t : List ℕ) (i : ℕ) → i < length t → at (mirror K n t) i ≡ mirror_cell K n i (at t i)
at_mirror K n t i l = at_mirrors K n 0 t i l ∙ ap (λ (k : ℕ). mirror_cell K n k (at t i)) (zero-add i)

-- by signs: minus, or plus
pub mirror_cases : (K n j : ℕ) → ((x : ℕ) → mirror_cell K n j x ≡ limit - x) ⊎ ((x : ℕ) → mirror_cell K n j x ≡ x)
unfolding mirror_cell
mirror_cases K n j =
    by_dec (dec_lt (j + K) (n * K))
    (λ a.
    by_dec (ℕ_discrete (j % K) 0)
    (λ b. inl (λ x. pick_yes (dec_lt (j + K) (n * K)) _ _ a ∙ pick_yes (ℕ_discrete (j % K) 0) _ _ b))
    (λ b. inr (λ x. pick_yes (dec_lt (j + K) (n * K)) _ _ a ∙ pick_no (ℕ_discrete (j % K) 0) _ _ b)))
    (λ a.
    by_dec (ℕ_discrete (j % K) 0)
    (λ b. inr (λ x. pick_no (dec_lt (j + K) (n * K)) _ _ a ∙ pick_yes (ℕ_discrete (j % K) 0) _ _ b))
    (λ b. inl (λ x. pick_no (dec_lt (j + K) (n * K)) _ _ a ∙ pick_no (ℕ_discrete (j % K) 0) _ _ b)))

module _ (K n : ℕ) (h_k : 0 < K) where
  above : (i c : ℕ) → i + 1 < n → c < K → i * K + c + K < n * K
  above i c l z = omega (arith, digits_lt l z)

  -- column 0 of a row above: minus; its other columns: plus; the last row the other way round
  minus_above : (i x : ℕ) → i + 1 < n → mirror_cell K n (i * K + 0) x ≡ limit - x
  unfolding mirror_cell
  minus_above i x l = pick_yes (dec_lt (i * K + 0 + K) (n * K)) _ _ (above i 0 l h_k) ∙ pick_yes (ℕ_discrete ((i * K + 0) % K) 0) _ _ (digits_mod i h_k)

  plus_above : (i c x : ℕ) → i + 1 < n → c < K → c ≢ 0 → mirror_cell K n (i * K + c) x ≡ x
  unfolding mirror_cell
  plus_above i c x l z y =
      pick_yes (dec_lt (i * K + c + K) (n * K)) _ _ (above i c l z)
      ∙ pick_no (ℕ_discrete ((i * K + c) % K) 0) _ _ (λ e. y (sym (digits_mod i z) ∙ e))

  pub plus_last : (c x : ℕ) → 0 < n → c ≡ 0 → mirror_cell K n ((n - 1) * K + c) x ≡ x
  unfolding mirror_cell
  plus_last c x l e =
      let q : (n - 1) * K + c + K < n * K → ⊥ = omega (arith, last_row K l) in
      pick_no (dec_lt ((n - 1) * K + c + K) (n * K)) _ _ q
      ∙ pick_yes (ℕ_discrete (((n - 1) * K + c) % K) 0) _ _ (digits_mod (n - 1) (omega arith) ∙ e)

  pub minus_last : (c x : ℕ) → 0 < n → c < K → c ≢ 0 → mirror_cell K n ((n - 1) * K + c) x ≡ limit - x
  unfolding mirror_cell
  minus_last c x l z y =
      let q : (n - 1) * K + c + K < n * K → ⊥ = omega (arith, last_row K l) in
      pick_no (dec_lt ((n - 1) * K + c + K) (n * K)) _ _ q
      ∙ pick_no (ℕ_discrete (((n - 1) * K + c) % K) 0) _ _ (λ e. y (sym (digits_mod (n - 1) z) ∙ e))

  -- the mirror as it is written: row after row above the last, then cell after cell of the last
  module _ {t₀ t : List ℕ} where
    pub written_row : (r : ℕ) → Written (mirror_cell K n) (r * K) t₀ t → r + 1 < n → r * K < length t →
        Written (mirror_cell K n) ((r + 1) * K) t₀ (set t (r * K) (limit - at t (r * K)))
    written_row r h l s =
        let e : r * K + 0 ≡ r * K = omega arith in
        let minus = rw e at (minus_above r (at t (r * K)) l) in
        written_on (written_more h s (sym minus)) (omega arith)
        (λ j a b x.
        let d : r * K + (j - r * K) ≡ j = omega arith in
        rw d at (plus_above r (j - r * K) x l (omega arith) (λ z. omega arith)))

    pub written_rows : (r : ℕ) → Written (mirror_cell K n) (r * K) t₀ t → 0 < n → r ≡ n - 1 → Written (mirror_cell K n) ((n - 1) * K + 1) t₀ t
    written_rows r h l q =
        written_on (rw q at h) (omega arith)
        (λ j a b x.
        let d : (n - 1) * K + 0 ≡ j = omega arith in
        rw d at (plus_last 0 x l refl))

    pub written_last : (i : ℕ) → Written (mirror_cell K n) i t₀ t → 0 < n → (n - 1) * K + 1 ≤ i → i < n * K → i < length t →
        Written (mirror_cell K n) (i + 1) t₀ (set t i (limit - at t i))
    written_last i h l a b s =
        let d : (n - 1) * K + (i - (n - 1) * K) ≡ i = omega arith in
        let c = minus_last (i - (n - 1) * K) (at t i) l (omega (arith, last_row K l)) (λ z. omega arith) in
        let minus = rw d at c in
        written_more h s (sym minus)

-- two tables of which each is the other with its minus cells complemented
record Signed (K n : ℕ) (t z : List ℕ) : Type 0 where
  minus_above : (i : ℕ) → i + 1 < n → at z (i * K) + at t (i * K) ≡ limit
  plus_above : (i c : ℕ) → i + 1 < n → c < K → c ≢ 0 → at z (i * K + c) ≡ at t (i * K + c)
  plus_last : at z ((n - 1) * K) ≡ at t ((n - 1) * K)
  minus_last : (c : ℕ) → c < K → c ≢ 0 → at z ((n - 1) * K + c) + at t ((n - 1) * K + c) ≡ limit

signed_sym : {K n : ℕ} {t z : List ℕ} → Signed K n t z → Signed K n z t
signed_sym h =
    record {
      minus_above = λ i l. omega (arith, h.minus_above i l);
      plus_above = λ i c l y q. sym (h.plus_above i c l y q);
      plus_last = sym h.plus_last;
      minus_last = λ c y q. omega (arith, h.minus_last c y q);
    }

signed_mirror : {K n : ℕ} {t : List ℕ} → Bounded K n t → Signed K n t (mirror K n t)
signed_mirror {K} {n} {t} h =
    let h_k = h.frame.small.wide in
    let hn = h.frame.small.high in
    let s = h.frame.size in
    let below : n - 1 < n = omega arith in
    record {
      minus_above = λ i l.
          let e : i * K + 0 ≡ i * K = omega arith in
          let a = at_mirror K n t (i * K + 0) (omega (arith, above K n h_k i 0 l h_k)) in
          let b : at (mirror K n t) (i * K) ≡ limit - at t (i * K) = rw e at (a ∙ minus_above K n h_k i (at t (i * K + 0)) l) in
          omega (arith, h.most (i * K));
      plus_above = λ i c l y q. at_mirror K n t (i * K + c) (omega (arith, above K n h_k i c l y)) ∙ plus_above K n h_k i c (at t (i * K + c)) l y q;
      plus_last =
          let e : (n - 1) * K + 0 ≡ (n - 1) * K = omega arith in
          let a = at_mirror K n t ((n - 1) * K + 0) (omega (arith, digits_lt below h_k)) in
          rw e at (a ∙ plus_last K n h_k 0 (at t ((n - 1) * K + 0)) hn refl);
      minus_last = λ c y q.
          let a = at_mirror K n t ((n - 1) * K + c) (omega (arith, digits_lt below y)) in
          let b = a ∙ minus_last K n h_k c (at t ((n - 1) * K + c)) hn y q in
          omega (arith, h.most ((n - 1) * K + c));
    }

next_place : (b k : ℕ) → b + 1 + k * 1 ≡ b + (k + 1)
next_place b k = omega arith

-- the sums of the lines of a table that is even by its signs
record Totals (K n : ℕ) (z : List ℕ) : Type 0 where
  row : (i : ℕ) → i + 1 < n → sum z (i * K) 1 K ≡ limit
  last : sum z ((n - 1) * K) 1 K ≡ (K - 1) * limit
  zeroth : sum z 0 K n ≡ (n - 1) * limit
  col : (j : ℕ) → j < K → j ≢ 0 → sum z j K n ≡ limit

module _ {g : Grid} {t z : List ℕ} (shape : Shape g) (h : Signed g.columns g.rows t z) where
  abbrev K : ℕ
  K = g.columns

  abbrev n : ℕ
  n = g.rows

  h_k : 0 < K
  h_k = shape.wide

  hn : 0 < n
  hn = shape.high

  row_above : (i : ℕ) → i + 1 < n → sum z (i * K) 1 K + at t (i * K) ≡ limit + sum t (i * K + 1) 1 (K - 1)
  row_above i l =
      let e : K ≡ suc (K - 1) = omega (arith, h_k) in
      let a = ap (sum z (i * K) 1) e ∙ sum_head z (i * K) 1 (K - 1) in
      let b = sum_same t z (i * K + 1) 1 (K - 1) (λ k m. rw (next_place (i * K) k) (h.plus_above i (k + 1) l (omega arith) (omega arith))) in
      omega (arith, h.minus_above i l)

  row_last : sum z ((n - 1) * K) 1 K + sum t ((n - 1) * K + 1) 1 (K - 1) ≡ at t ((n - 1) * K) + (K - 1) * limit
  row_last =
      let e : K ≡ suc (K - 1) = omega (arith, h_k) in
      let a = ap (sum z ((n - 1) * K) 1) e ∙ sum_head z ((n - 1) * K) 1 (K - 1) in
      let b = sum_mirror t z ((n - 1) * K + 1) 1 (K - 1) (λ k m. rw (next_place ((n - 1) * K) k) (h.minus_last (k + 1) (omega arith) (omega arith))) in
      omega (arith, h.plus_last)

  col_zero : sum z 0 K n + sum t 0 K (n - 1) ≡ (n - 1) * limit + at t ((n - 1) * K + 0)
  unfolding sum
  col_zero =
      let e : n ≡ suc (n - 1) = omega (arith, hn) in
      let a : sum z 0 K n ≡ sum z 0 K (n - 1) + at z (0 + (n - 1) * K) = ap (sum z 0 K) e in
      let b = sum_mirror t z 0 K (n - 1) (λ k m. rw zero-add (h.minus_above k (omega arith))) in
      let g : at z (0 + (n - 1) * K) ≡ at t ((n - 1) * K + 0) = rw (zero-add, add-zero) h.plus_last in
      omega arith

  col_other : (j : ℕ) → j < K → j ≢ 0 → sum z j K n + at t ((n - 1) * K + j) ≡ sum t j K (n - 1) + limit
  unfolding sum
  col_other j l q =
      let e : n ≡ suc (n - 1) = omega (arith, hn) in
      let a : sum z j K n ≡ sum z j K (n - 1) + at z (j + (n - 1) * K) = ap (sum z j K) e in
      let b = sum_same t z j K (n - 1) (λ k m. rw (add_comm j (k * K)) (h.plus_above k j (omega arith) l q)) in
      let g : at z (j + (n - 1) * K) + at t ((n - 1) * K + j) ≡ limit = rw (add_comm j ((n - 1) * K)) (h.minus_last j l q) in
      omega arith

  sums_totals : Sums g t → Totals K n z
  sums_totals s =
      record {
        row = λ i l. omega (arith, row_above i l, s.rows i (omega arith));
        last = omega (arith, row_last, s.rows (n - 1) (omega arith));
        zeroth = omega (arith, col_zero, s.columns 0 h_k);
        col = λ j l q. omega (arith, col_other j l q, s.columns j l);
      }

  totals_sums : Totals K n z → Sums g t
  totals_sums s =
      record {
        rows = λ i l.
            by_dec (ℕ_discrete i (n - 1))
            (λ e. rw e (omega (arith, row_last, s.last)))
            (λ e. let m : i + 1 < n = omega arith in omega (arith, row_above i m, s.row i m));
        columns = λ j l.
            by_dec (ℕ_discrete j 0)
            (λ e. rw e (omega (arith, col_zero, s.zeroth)))
            (λ e. omega (arith, col_other j l e, s.col j l e));
      }

whole_mul : (W m x : ℕ) → Whole W x → Whole W (m * x)
whole_mul W zero x h = let e : 0 * x ≡ 0 = omega arith in rw e (zero-mod W)
whole_mul W (suc m) x h =
    let e : suc m * x ≡ m * x + x = omega arith in
    rw e (add-mod (m * x) x W ∙ rw (whole_mul W m x h, h, zero-add) (zero-mod W))

-- totals are whole
totals_even : {W K n : ℕ} {z : List ℕ} → Whole W limit → length z ≡ n * K → Totals K n z → Even W K n z
totals_even {W} {K} {n} w l s =
    record {
      size = l;
      rows = λ i m.
          by_dec (ℕ_discrete i (n - 1))
          (λ e. rw (e, s.last) (whole_mul W (K - 1) limit w))
          (λ e. rw (s.row i (omega arith)) w);
      columns = λ j m.
          by_dec (ℕ_discrete j 0)
          (λ e. rw (e, s.zeroth) (whole_mul W (n - 1) limit w))
          (λ e. rw (s.col j m e) w);
    }

kept_totals : {g : Grid} {z z' : List ℕ} → 0 < g.columns → Kept g z z' → Totals g.columns g.rows z → Totals g.columns g.rows z'
kept_totals {g} h_k k s =
    record {
      row = λ i l. k.rows i ∙ s.row i l;
      last = k.rows (g.rows - 1) ∙ s.last;
      zeroth = k.columns 0 h_k ∙ s.zeroth;
      col = λ j l q. k.columns j l ∙ s.col j l q;
    }

-- complements
pub whole_comp : (W : ℕ) {M y : ℕ} → Whole W M → Whole W y → y ≤ M → Whole W (M - y)
whole_comp W {M} {y} a b l =
    let e : M ≡ M - y + y = omega arith in
    let g : M % W ≡ ((M - y) % W + y % W) % W = ap (λ (k : ℕ). k % W) e ∙ add-mod (M - y) y W in
    let g' : M % W ≡ (M - y) % W = rw (b, add-zero, mod-mod) at g in
    sym g' ∙ a

whole_back : (W : ℕ) {M x : ℕ} → Whole W M → x ≤ M → Whole W (M - x) → Whole W x
whole_back W {M} {x} w l r = let e : M - (M - x) ≡ x = omega arith in rw e at (whole_comp W w r (omega arith))

within_comp : {W M x y : ℕ} → 0 < W → Whole W M → x ≤ M → y ≤ M → Within W x y → Within W (M - x) (M - y)
within_comp {W} {M} {x} {y} h w lx ly a =
    by_dec (whole? W x)
    (λ v. rw (a.kept v) (within_refl h))
    (λ v.
    let dx = div-add-mod' x W in
    let dm = div-add-mod' M W in
    let fx = mod-lt x h in
    let n : x ≢ M = λ e. v (ap (λ (k : ℕ). k % W) e ∙ w) in
    let q : x / W < M / W = (div-lt_iff_lt-mul h).1 (omega arith) in
    let k = M / W - x / W - 1 in
    let e : M / W ≡ x / W + (k + 1) = omega arith in
    let p : M / W * W ≡ (x / W + (k + 1)) * W = ap (λ (i : ℕ). i * W) e in
    let p' : M ≡ x / W * W + k * W + W = omega arith in
    let g : (M - x) / W ≡ k = div-eq_of_lt-le W (omega arith) (omega arith) in
    let g' : (M - x) / W * W ≡ k * W = ap (λ (i : ℕ). i * W) g in
    record { low = omega (arith, a.high); high = omega (arith, a.low); kept = λ r. absurd (v (whole_back W w lx r)) })

-- no cell of a good table is above the limit, nor what is read past its end; nor in the mirror
good_most : {g : Grid} {t : List ℕ} → Good g t → (i : ℕ) → at t i ≤ limit
good_most {t = t} h i =
    by_dec (dec_lt i (length t))
    (λ l. h.most i (omega (arith, h.size)))
    (λ l. let a = get_or-eq_default t 0 {n = i} (omega arith) in omega arith)

pub good_bounded : {g : Grid} {t : List ℕ} → Good g t → Bounded g.columns g.rows t
good_bounded h = record { frame = record { small = small_of h.shape; size = h.size }; most = good_most h }

pub table_bounded : {g : Grid} {t : List ℕ} → Table g t → Bounded g.columns g.rows t
table_bounded h = record { frame = record { small = small_of h.shape; size = h.even.size }; most = h.most }

mirror_most : (K n : ℕ) (t : List ℕ) → ((i : ℕ) → at t i ≤ limit) → (i : ℕ) → at (mirror K n t) i ≤ limit
mirror_most K n t h i =
    by_dec (dec_lt i (length t))
    (λ l.
    let a = at_mirror K n t i l in
    ⊎_elim (λ f. omega (arith, f (at t i))) (λ f. omega (arith, f (at t i), h i)) (mirror_cases K n i))
    (λ l.
    let a = get_or-eq_default (mirror K n t) 0 {n = i} (omega (arith, length_mirror K n t)) in
    omega arith)

pub mirror_mirror : {K n : ℕ} {t : List ℕ} → Bounded K n t → mirror K n (mirror K n t) ≡ t
mirror_mirror {K} {n} {t} h =
    let a = length_mirror K n (mirror K n t) in
    let b = length_mirror K n t in
    ext_get_or 0 (mirror K n (mirror K n t)) t (a ∙ b)
    (λ i l.
    let p = at_mirror K n (mirror K n t) i (omega arith) in
    let q = at_mirror K n t i (omega arith) in
    p
    ∙ ⊎_elim
    (λ f. f (at (mirror K n t) i) ∙ (let e = q ∙ f (at t i) in omega (arith, h.most i)))
    (λ f. f (at (mirror K n t) i) ∙ q ∙ f (at t i))
    (mirror_cases K n i))

-- a good table, mirrored
module _ {g : Grid} {t : List ℕ} (h : Good g t) where
  good_totals : Totals g.columns g.rows (mirror g.columns g.rows t)
  good_totals = sums_totals h.shape (signed_mirror (good_bounded h)) h.sums

  pub good_table : Table g (mirror g.columns g.rows t)
  good_table =
      record {
        shape = h.shape;
        even = totals_even h.shape.whole (length_mirror g.columns g.rows t ∙ h.size) good_totals;
        most = mirror_most g.columns g.rows t (good_most h);
      }

  -- what holds of a cell and of its complement, before and after, holds of the cell before and after
  pub both_ways : {s : List ℕ} → Table g s → (v : ℕ) → v < area g → (P : ℕ → ℕ → Type 0) →
      ((x y : ℕ) → x ≤ limit → y ≤ limit → P (limit - x) y → P x (limit - y)) →
      P (at (mirror g.columns g.rows t) v) (at s v) → P (at t v) (at (mirror g.columns g.rows s) v)
  both_ways {s} k v i P f p =
      let a = at_mirror g.columns g.rows t v (omega (arith, h.size)) in
      let b = at_mirror g.columns g.rows s v (omega (arith, k.even.size)) in
      ⊎_elim
      (λ m. rw (b ∙ m (at s v)) (f (at t v) (at s v) (good_most h v) (k.most v) (rw (a ∙ m (at t v)) at p)))
      (λ m. rw (b ∙ m (at s v)) (rw (a ∙ m (at t v)) at p))
      (mirror_cases g.columns g.rows v)

  -- what is kept of the mirror, said of the table
  module _ {s : List ℕ} (k : Kept g (mirror g.columns g.rows t) s) where
    pub kept_good : Good g (mirror g.columns g.rows s)
    kept_good =
        let ts = kept_table good_table k in
        record {
          shape = h.shape;
          size = length_mirror g.columns g.rows s ∙ ts.even.size;
          most = λ i l. mirror_most g.columns g.rows s ts.most i;
          sums =
              totals_sums h.shape (signed_sym (signed_mirror (table_bounded ts))) (kept_totals h.shape.wide k good_totals);
        }

    pub kept_within : (i : ℕ) → i < area g → Within g.unit (at t i) (at (mirror g.columns g.rows s) i)
    kept_within i l =
        both_ways (kept_table good_table k) i l (λ x y. Within g.unit x y)
        (λ x y a b w.
        let e : limit - (limit - x) ≡ x = omega arith in
        rw e at (within_comp h.shape.unit h.shape.whole (omega arith) b w))
        (k.within i)

-- as many cells are loose as in the mirror
loose_comp : (W x : ℕ) → Whole W limit → x ≤ limit → loose_cell W (limit - x) ≡ loose_cell W x
loose_comp W x w l =
    by_dec (whole? W x)
    (λ v. cell_whole W (limit - x) (whole_comp W w v l) ∙ sym (cell_whole W x v))
    (λ v. cell_loose W (limit - x) (λ r. v (whole_back W w l r)) ∙ sym (cell_loose W x v))

count_mirrors : (W K n j : ℕ) (t : List ℕ) → Whole W limit → ((i : ℕ) → at t i ≤ limit) → loose W (mirrors K n j t) ≡ loose W t
unfolding mirrors loose
count_mirrors W K n j [] w h = refl
count_mirrors W K n j (x ∷ xs) w h =
    let r = count_mirrors W K n (suc j) xs w (λ i. h (suc i)) in
    let b : loose_cell W (mirror_cell K n j x) ≡ loose_cell W x =
    ⊎_elim (λ f. ap (loose_cell W) (f x) ∙ loose_comp W x w (h 0)) (λ f. ap (loose_cell W) (f x)) (mirror_cases K n j) in
    omega arith

pub count_mirror : (W : ℕ) {K n : ℕ} {t : List ℕ} → Whole W limit → Bounded K n t → loose W (mirror K n t) ≡ loose W t
count_mirror W {K} {n} {t} w h = count_mirrors W K n 0 t w h.most
