-- The walk closes, since each row that it enters takes a column off those that are new to its path, and there are few columns. What it closes
-- is a round: a row met again would have had a loose column of the path, and closed there.
use mathlib.Core.Path.{◌≡◌, refl, sym, ap, ◌∙◌}
use mathlib.Core.Logic.{◌≢◌, inr}
use mathlib.Core.List.{List, [], ◌∷◌}
use Prim.Native.Nat.{ℕ, zero, suc, ◌+◌, ◌-◌, ◌*◌, ◌/◌, ◌%◌, ◌≤◌, ◌<◌}
use native.Mathlib.Nat.{mod-lt, le_of_suc-le-suc, mul-one, add_comm, div-lt_iff_lt-mul, div-add-mod', mul-le-mul_right}
use native.Mathlib.Nat.{div-mul-le_self}
use native.Mathlib.Decide.{ℕ_discrete, dec_lt}
use native.Mathlib.Omega.{arith}
use lib.Arith.{digits_div, digits_mod, digits_lt}
use lib.ListN.{length, get_or, set, take, drop}
use lib.Seq.{take_all}
use Rattle.settle.specs.Shown.{at, Whole}
use Rattle.settle.specs.Step.{pick, whole?, seek, closes, walk, end_column}
use Rattle.settle.specs.Inner.{Small, Even, Misses, Apart, New, Hop, Trail, Closed, Line, Passed, Start}
use Rattle.settle.proofs.LawLine.{pick_yes, pick_no, by_dec, finds}

-- the newest row of the path is not r
abbrev pub Headed : (K r : ℕ) (us : List ℕ) → Type 0
Headed K r [] = Unit {0}
Headed K r (u ∷ us) = u / K ≢ r

-- the walk stands in row r, which it entered by column c
pub record Way (W K n : ℕ) (t path : List ℕ) (r c : ℕ) : Type 0 where
  pub row : r < n
  pub col : c < K
  pub loose : at t (r * K + c) % W ≢ 0
  pub head : Headed K r path
  pub new : New K c path
  pub trail : Trail W K t c path

module _ (W K : ℕ) (t : List ℕ) (r : ℕ) where
  pub closes_whole : (u : ℕ) (us : List ℕ) → Whole W (at t (r * K + u % K)) → closes W K t r (u ∷ us) ≡ suc (closes W K t r us)
  unfolding closes
  closes_whole u us w = pick_yes (whole? W (at t (r * K + u % K))) (suc (closes W K t r us)) 0 w

  pub closes_here : (u : ℕ) (us : List ℕ) → at t (r * K + u % K) % W ≢ 0 → closes W K t r (u ∷ us) ≡ 0
  unfolding closes
  closes_here u us w = pick_no (whole? W (at t (r * K + u % K))) (suc (closes W K t r us)) 0 w

  -- a row that is whole in the column by which a path is left is not the path's newest row
  headed : (y : ℕ) (us : List ℕ) → Trail W K t y us → Whole W (at t (r * K + y)) → Headed K r us
  headed y [] h w = tt
  headed y (v ∷ us) h w = λ e. h.0.twin_loose (rw e w)

  -- the rows of a path up to the first column that is loose in r are not r
  far : (x m : ℕ) (us : List ℕ) → m ≤ closes W K t r us → Headed K r us → Trail W K t x us → Apart K r (take (suc m) us)
  far x m [] l z h = tt
  far x zero (u ∷ us) l z h = (z, tt)
  far x (suc m) (u ∷ us) l z h =
      by_dec (whole? W (at t (r * K + u % K)))
      (λ w. (z, far (u % K) m us (omega (arith, closes_whole u us w)) (headed (u % K) us h.3 w) h.3))
      (λ w. absurd (omega (arith, closes_here u us w)))

  -- where the walk closes, the closing column is loose in r
  closes_loose : (us : List ℕ) → closes W K t r us < length us → at t (r * K + get_or us (closes W K t r us) 0 % K) % W ≢ 0
  closes_loose [] l = absurd (omega arith)
  closes_loose (u ∷ us) l =
      by_dec (whole? W (at t (r * K + u % K)))
      (λ w. let e = closes_whole u us w in rw e (closes_loose us (omega arith)))
      (λ w. rw (closes_here u us w) w)

  -- where it does not, a column that is loose in r is new
  closes_new : (c : ℕ) (us : List ℕ) → length us ≤ closes W K t r us → at t (r * K + c) % W ≢ 0 → New K c us
  closes_new c [] l h = tt
  closes_new c (u ∷ us) l h =
      by_dec (whole? W (at t (r * K + u % K)))
      (λ w. ((λ e. h (rw e at w)), closes_new c us (omega (arith, closes_whole u us w)) h))
      (λ w. absurd (omega (arith, closes_here u us w)))

-- parts of a path
misses_take : (f : ℕ → ℕ) (r j : ℕ) (us : List ℕ) → Misses f r us → Misses f r (take j us)
misses_take f r zero us h = tt
misses_take f r (suc j) [] h = tt
misses_take f r (suc j) (u ∷ us) h = (h.0, misses_take f r j us h.1)

trail_take : (W K : ℕ) (t : List ℕ) (x j : ℕ) (us : List ℕ) → Trail W K t x us → Trail W K t x (take j us)
trail_take W K t x zero us h = tt
trail_take W K t x (suc j) [] h = tt
trail_take W K t x (suc j) (u ∷ us) h =
    (h.0, misses_take (λ v. v / K) (u / K) j us h.1, misses_take (λ v. v % K) (u % K) j us h.2, trail_take W K t (u % K) j us h.3)

pub end_take : (K x j : ℕ) (us : List ℕ) → j < length us → end_column K x (take (suc j) us) ≡ get_or us j 0 % K
unfolding end_column
end_take K x j [] l = absurd (omega arith)
end_take K x zero (u ∷ us) l = refl
end_take K x (suc j) (u ∷ us) l = end_take K (u % K) j us (le_of_suc-le-suc l)

new_at : (K c j : ℕ) (us : List ℕ) → New K c us → j < length us → get_or us j 0 % K ≢ c
new_at K c j [] h l = absurd (omega arith)
new_at K c zero (u ∷ us) h l = h.0
new_at K c (suc j) (u ∷ us) h l = new_at K c j us h.1 (le_of_suc-le-suc l)

-- how many columns are new to a path: a path has no more cells than there are columns
new? : (K j : ℕ) (us : List ℕ) → Dec (New K j us)
new? K j [] = yes tt
new? K j (v ∷ vs) = by_dec (ℕ_discrete (v % K) j) (λ e. no (λ h. h.0 e)) (λ e. by_dec (new? K j vs) (λ h. yes (e, h)) (λ q. no (λ h. q h.1)))

abbrev one : (K j : ℕ) (us : List ℕ) → ℕ
one K j us = pick (new? K j us) 1 0

pub free : (K : ℕ) (us : List ℕ) (j : ℕ) → ℕ
free K us zero = 0
free K us (suc j) = free K us j + one K j us

is_new : (K j : ℕ) (us : List ℕ) → New K j us → one K j us ≡ 1
is_new K j us h = pick_yes {A = ℕ} (new? K j us) 1 0 h

is_not : (K j : ℕ) (us : List ℕ) → (New K j us → ⊥) → one K j us ≡ 0
is_not K j us h = pick_no {A = ℕ} (new? K j us) 1 0 h

new_less : (K j u : ℕ) (us : List ℕ) → one K j (u ∷ us) ≤ one K j us
new_less K j u us =
    by_dec (new? K j (u ∷ us))
    (λ h. omega (arith, is_new K j (u ∷ us) h, is_new K j us h.1))
    (λ h. omega (arith, is_not K j (u ∷ us) h))

pub free_most : (K : ℕ) (us : List ℕ) (N : ℕ) → free K us N ≤ N
unfolding free
free_most K us zero = omega arith
free_most K us (suc N) =
    by_dec (new? K N us)
    (λ h. omega (arith, is_new K N us h, free_most K us N))
    (λ h. omega (arith, is_not K N us h, free_most K us N))

free_less : (K u : ℕ) (us : List ℕ) (N : ℕ) → free K (u ∷ us) N ≤ free K us N
unfolding free
free_less K u us zero = omega arith
free_less K u us (suc N) = omega (arith, free_less K u us N, new_less K N u us)

pub free_push : (K u : ℕ) (us : List ℕ) (N : ℕ) → u % K < N → New K (u % K) us → free K (u ∷ us) N < free K us N
unfolding free
free_push K u us zero l h = absurd (omega arith)
free_push K u us (suc N) l h =
    by_dec (ℕ_discrete (u % K) N)
    (λ e.
    let a : New K N us = rw e at h in
    omega (arith, is_new K N us a, is_not K N (u ∷ us) (λ z. z.0 e), free_less K u us N))
    (λ e. omega (arith, free_push K u us N (omega arith) h, new_less K N u us))

module _ {W K n : ℕ} {t : List ℕ} (h_k : 0 < K) (ev : Even W K n t) where
  -- the cell by which a row is entered, and a column by which it is left
  hop_of : (r : ℕ) {c x : ℕ} → r < n → c < K → x < K → c ≢ x → at t (r * K + c) % W ≢ 0 → at t (r * K + x) % W ≢ 0 → Hop W K t x (r * K + c)
  hop_of r hr hc hx z a b =
      let e = digits_div r hc in
      record {
        inside = omega (arith, digits_lt hr hc, ev.size);
        twin_inside = rw e (omega (arith, digits_lt hr hx, ev.size));
        column = hx;
        other = rw (digits_mod r hc) z;
        loose = a;
        twin_loose = rw e b;
      }

  -- the walk goes on
  pub way_next : {path : List ℕ} {r c : ℕ} → Way W K n t path r c → length path ≤ closes W K t r path →
      let c' = seek W t (r * K) 1 c K 0 in
      Way W K n t ((r * K + c) ∷ path) (seek W t c' K r n 0) c'
  way_next {path} {r} {c} h l =
      let c' = seek W t (r * K) 1 c K 0 in
      let f = finds W t (r * K) 1 K c (ev.rows r h.row) h.col (rw mul-one h.loose) in
      let b : at t (r * K + c') % W ≢ 0 = rw mul-one at f.loose in
      let g = finds W t c' K n r (ev.columns c' f.within) h.row (rw (add_comm c' (r * K)) b) in
      let q = digits_div r h.col in
      let q' = digits_mod r h.col in
      let z : c ≢ c' = λ e. f.other (sym e) in
      let all = take_all (suc (length path)) path (omega arith) in
      record {
        row = g.within;
        col = f.within;
        loose = rw (add_comm (seek W t c' K r n 0 * K) c') g.loose;
        head = rw q (λ e. g.other (sym e));
        new = (rw q' z, closes_new W K t r c' path l b);
        trail = (
          hop_of r h.row h.col f.within z h.loose b,
          rw q (rw all at (far W K t r c (length path) path l h.head h.trail)),
          rw q' h.new,
          rw q' h.trail,
        );
      }

  -- the walk closes
  pub way_closed : {path : List ℕ} {r c : ℕ} → Way W K n t path r c → closes W K t r path < length path →
      Closed W K t ((r * K + c) ∷ take (suc (closes W K t r path)) path)
  unfolding end_column
  way_closed {path} {r} {c} h l =
      let m = closes W K t r path in
      let q = digits_div r h.col in
      let q' = digits_mod r h.col in
      let e = end_take K ((r * K + c) % K) m path l in
      let other : c ≢ get_or path m 0 % K = λ y. new_at K c m path h.new l (sym y) in
      record {
        some = omega arith;
        trail = (
          rw e (hop_of r h.row h.col (mod-lt (get_or path m 0) h_k) other h.loose (closes_loose W K t r path l)),
          rw q (far W K t r c m path (omega arith) h.head h.trail),
          rw q' (misses_take (λ v. v % K) c (suc m) path h.new),
          rw q' (trail_take W K t c (suc m) path h.trail),
        );
      }

-- a row that is entered takes its column off those that are new
free_way : {W K n : ℕ} {t path : List ℕ} {r c : ℕ} → Way W K n t path r c → free K ((r * K + c) ∷ path) K < free K path K
free_way {K = K} {path = path} {r = r} {c = c} h =
    let q = digits_mod r h.col in
    free_push K (r * K + c) path K (rw q h.col) (rw q h.new)

pub free_next : {W K n : ℕ} {t path : List ℕ} {r c : ℕ} → Way W K n t path r c → (f : ℕ) → free K path K ≤ f →
    free K ((r * K + c) ∷ path) K ≤ f - 1
free_next h f l = omega (arith, free_way h)

pub free_some : {W K n : ℕ} {t path : List ℕ} {r c : ℕ} → Way W K n t path r c → 0 < free K path K
free_some h = omega (arith, free_way h)

pub walk_round : {W K n : ℕ} {t : List ℕ} → 0 < K → Even W K n t → (f : ℕ) {path : List ℕ} {r c : ℕ} → Way W K n t path r c →
    free K path K ≤ f →
    Closed W K t (walk W K n t f path r c)
unfolding walk
walk_round h_k ev zero h l = absurd (omega (arith, free_some h))
walk_round {W} {K} {n} {t} h_k ev (suc f) {path} {r} {c} h l =
    by_dec (dec_lt (closes W K t r path) (length path))
    (λ y. rw (pick_yes (dec_lt (closes W K t r path) (length path)) _ _ y) (way_closed h_k ev h y))
    (λ y.
    rw (pick_no (dec_lt (closes W K t r path) (length path)) _ _ y)
    (walk_round h_k ev f (way_next h_k ev h (omega arith)) (omega (arith, free_way h))))

-- the walk at its start
pub way_start : (W K n : ℕ) (t : List ℕ) (i : ℕ) → 0 < K → i < n * K → at t i % W ≢ 0 → Way W K n t [] (i / K) (i % K)
way_start W K n t i h_k hi h =
    record { row = (div-lt_iff_lt-mul h_k).1 hi; col = mod-lt i h_k; loose = rw (div-add-mod' i K) h; head = tt; new = tt; trail = tt }

-- a turn of the loop that walks
module _ (W K n : ℕ) (t : List ℕ) (f : ℕ) (path : List ℕ) (r c : ℕ) where
  pub walk_stop : 0 < f → closes W K t r path < length path → walk W K n t f path r c ≡ (r * K + c) ∷ take (suc (closes W K t r path)) path
  unfolding walk
  walk_stop z l = let e : f ≡ suc (f - 1) = omega arith in rw e (pick_yes (dec_lt (closes W K t r path) (length path)) _ _ l)

  pub walk_on : 0 < f → length path ≤ closes W K t r path →
      let c' = seek W t (r * K) 1 c K 0 in
      walk W K n t f path r c ≡ walk W K n t (f - 1) ((r * K + c) ∷ path) (seek W t c' K r n 0) c'
  unfolding walk
  walk_on z l =
      let q : closes W K t r path < length path → ⊥ = omega arith in
      let e : f ≡ suc (f - 1) = omega arith in
      ap (λ (g : ℕ). walk W K n t g path r c) e ∙ pick_no (dec_lt (closes W K t r path) (length path)) _ _ q

-- the lines of a table
module _ {W K n : ℕ} {t : List ℕ} (small : Small K n) (ev : Even W K n t) where
  pub column_line : {c : ℕ} → c < K → Line t c K n
  column_line l =
      record { cells = λ k z. omega (arith, digits_lt z l, ev.size); small = omega (arith, small.few, small.narrow) }

-- a column need not be searched above the first loose cell's row
module _ {W K n : ℕ} {t : List ℕ} {i top : ℕ} (h : Start W K n t i) (e : top ≡ i / K) where
  pub row_in : top ≤ n
  row_in = let z : i / K < n = (div-lt_iff_lt-mul h.small.wide).1 h.inside in omega arith

  pub column_passed : {c : ℕ} → c < K → (q : ℕ) → Passed W t c K q top
  column_passed {c} z q j l =
      let m : j < i / K = omega arith in
      inr (h.before (c + j * K) (omega (arith, mul-le-mul_right K m, div-mul-le_self i K)))

-- the path in an array that is filled from its end
store_drop : (l : List ℕ) (j v : ℕ) → j < length l → drop j (set l j v) ≡ v ∷ drop (suc j) l
store_drop [] j v h = absurd (omega arith)
store_drop (x ∷ xs) zero v h = refl
store_drop (x ∷ xs) (suc j) v h = store_drop xs j v (le_of_suc-le-suc h)

pub pushing : (us : List ℕ) (a v : ℕ) → 0 < a → a ≤ length us → drop (a - 1) (set us (a - 1) v) ≡ v ∷ drop a us
pushing us a v z l =
    let e : suc (a - 1) ≡ a = omega arith in
    store_drop us (a - 1) v (omega arith) ∙ ap (λ (j : ℕ). v ∷ drop j us) e

pub closing : (us : List ℕ) (a v m : ℕ) → 0 < a → a ≤ length us →
    take (a + m + 1 - (a - 1)) (drop (a - 1) (set us (a - 1) v)) ≡ v ∷ take (suc m) (drop a us)
closing us a v m z l =
    let e : a + m + 1 - (a - 1) ≡ suc (suc m) = omega arith in
    rw (e, pushing us a v z l)
