-- A row's list is right exactly where it is no longer than the run from its first technique on, and how that is found by steps.
use Prim.Native.Nat.{ℕ, zero, suc, ◌+◌, ◌*◌, ◌-◌, ◌/◌, ◌%◌, ◌≤◌, ◌<◌}
use mathlib.Core.Path.{◌≡◌, refl, sym, ◌∙◌}
use mathlib.Core.Bool.{Bool, true, false, cond, ◌&&◌, ◌||◌}
use mathlib.Core.List.{List}
use mathlib.Core.Logic.{⊎_elim}
use native.Mathlib.Numerals.{add-one}
use native.Mathlib.Nat.{eq-or-lt_of_le}
use native.Mathlib.Omega.{arith}
use borrow.Author.Tests.{le-leb, lt-leb, le-ltb, lt-ltb, leb-true, leb-false, ltb-true, ltb-false, eqb-true, eqb-false, eq-eqb, ne_eqb}
use lib.Dec.{leb, ltb, eqb}
use lib.ListN.{get_or, length, set}
use lib.Seq.{get_or-set_same, get_or-set_other}
use Rattle.search.specs.Test.{all, every}
use Rattle.search.proofs.LawTest.{either_way, and_left, and_right, all_at, all_of}
use Rattle.desk.specs.Book.{technique_code, technique_efficiency, technique_ok, techniques_ok}
use Rattle.desk.specs.InnerRun.{lawful_by, lawful, run_before, run_from, run_of, runs_apart, Runs, run_reaches}

-- the c techniques from f on are lawful, and their codes rise
record Good (t : List ℕ) (f c : ℕ) : Type 0 where
  each : (j : ℕ) → j < c → lawful t (f + j) ≡ true
  rise : (j : ℕ) → suc j < c → ltb (technique_code t (f + j)) (technique_code t (f + suc j)) ≡ true

none_good : (t : List ℕ) (f c : ℕ) → c ≡ 0 → Good t f c
none_good t f c e = record { each = λ j l. absurd (omega arith); rise = λ j l. absurd (omega arith) }

-- ---- lists

ok_later : (t : List ℕ) (f j : ℕ) → technique_ok t f (suc j) ≡ (lawful t (f + suc j) && ltb (technique_code t (f + j)) (technique_code t (f + suc j)))
unfolding technique_ok every lawful
ok_later t f j =
    let n : suc j - 1 ≡ j = omega arith in
    rw (ne_eqb (suc j) 0 (λ q. omega arith), n)

pub ok_rises : (t : List ℕ) (f j : ℕ) → technique_ok t f (suc j) ≡ true → ltb (technique_code t (f + j)) (technique_code t (f + suc j)) ≡ true
ok_rises t f j h =
    and_right (lawful t (f + suc j)) (ltb (technique_code t (f + j)) (technique_code t (f + suc j))) (sym (ok_later t f j) ∙ h)

ok_lawful : (t : List ℕ) (f j : ℕ) → technique_ok t f j ≡ true → lawful t (f + j) ≡ true
unfolding technique_ok every lawful
ok_lawful t f j h = and_left (lawful t (f + j)) (eqb j 0 || ltb (technique_code t (f + (j - 1))) (technique_code t (f + j))) h

ok_first : (t : List ℕ) (f : ℕ) → lawful t (f + 0) ≡ true → technique_ok t f 0 ≡ true
unfolding technique_ok every lawful
ok_first t f h = rw h

ok_good : (t : List ℕ) (f c : ℕ) → all c (technique_ok t f) ≡ true → Good t f c
ok_good t f c h =
    record {
      each = λ j l. ok_lawful t f j (all_at (technique_ok t f) c j h l);
      rise = λ j l. ok_rises t f j (all_at (technique_ok t f) c (suc j) h l);
    }

good_ok : (t : List ℕ) (f c : ℕ) → Good t f c → all c (technique_ok t f) ≡ true
good_ok t f c G = all_of (technique_ok t f) c (λ j l. at j l)
  where
    at : (j : ℕ) → j < c → technique_ok t f j ≡ true
    at zero l = ok_first t f (G.each 0 l)
    at (suc j) l = ok_later t f j ∙ rw (G.each (suc j) l, G.rise j l)

-- ---- runs

module _ (t : List ℕ) where
  longer : (f c : ℕ) → lawful t f ≡ true → (1 < c → ltb (technique_code t f) (technique_code t (f + 1)) ≡ true) → Good t (f + 1) (c - 1) → Good t f c
  longer f c h r G = record { each = each; rise = rise }
    where
      each : (j : ℕ) → j < c → lawful t (f + j) ≡ true
      each zero l = let e : f ≡ f + 0 = omega arith in rw e at h
      each (suc j) l = let e : f + 1 + j ≡ f + suc j = omega arith in rw e at (G.each j (omega arith))

      rise : (j : ℕ) → suc j < c → ltb (technique_code t (f + j)) (technique_code t (f + suc j)) ≡ true
      rise zero l =
          let e : f + 0 ≡ f = omega arith in
          let d : f + suc 0 ≡ f + 1 = omega arith in
          rw (e, d) (r (omega arith))
      rise (suc j) l =
          let e : f + suc j ≡ f + 1 + j = omega arith in
          let d : f + suc (suc j) ≡ f + 1 + suc j = omega arith in
          rw (e, d) (G.rise j (omega arith))

  shorter : (f c : ℕ) → Good t f (suc c) → Good t (f + 1) c
  shorter f c G = record { each = each; rise = rise }
    where
      each : (j : ℕ) → j < c → lawful t (f + 1 + j) ≡ true
      each j l = let e : f + 1 + j ≡ f + suc j = omega arith in rw e (G.each (suc j) (omega arith))

      rise : (j : ℕ) → suc j < c → ltb (technique_code t (f + 1 + j)) (technique_code t (f + 1 + suc j)) ≡ true
      rise j l =
          let e : f + 1 + j ≡ f + suc j = omega arith in
          let d : f + 1 + suc j ≡ f + suc (suc j) = omega arith in
          rw (e, d) (G.rise (suc j) (omega arith))

  -- the three lengths of a run
  unlawful : (k next : ℕ) → lawful t k ≡ false → run_before t k next ≡ 0
  unfolding run_before
  unlawful k next h = rw h

  goes_on : (k next : ℕ) → lawful t k ≡ true → ltb (technique_code t k) (technique_code t (k + 1)) ≡ true → run_before t k next ≡ next + 1
  unfolding run_before
  goes_on k next h r = rw (h, r)

  ends : (k next : ℕ) → lawful t k ≡ true → ltb (technique_code t k) (technique_code t (k + 1)) ≡ false → run_before t k next ≡ 1
  unfolding run_before
  ends k next h r = rw (h, r)

  pub run_most : (n k : ℕ) → run_of t n k ≤ n
  unfolding run_of
  run_most zero k = omega arith
  run_most (suc n) k =
      let next = run_of t n (k + 1) in
      let m : next ≤ n = run_most n (k + 1) in
      either_way (lawful t k)
      (λ h. either_way (ltb (technique_code t k) (technique_code t (k + 1)))
      (λ r. omega (arith, goes_on k next h r))
      (λ r. omega (arith, ends k next h r)))
      (λ h. omega (arith, unlawful k next h))

  run_good : (n f c : ℕ) → c ≤ run_of t n f → Good t f c
  unfolding run_of
  run_good zero f c h = none_good t f c (omega arith)
  run_good (suc n) f c h =
      let next = run_of t n (f + 1) in
      either_way (lawful t f)
      (λ w. either_way (ltb (technique_code t f) (technique_code t (f + 1)))
      (λ r. longer f c w (λ l. r) (run_good n (f + 1) (c - 1) (omega (arith, goes_on f next w r))))
      (λ r.
      let one : c ≤ 1 = omega (arith, ends f next w r) in
      longer f c w (λ l. absurd (omega arith)) (none_good t (f + 1) (c - 1) (omega arith))))
      (λ w. none_good t f c (omega (arith, unlawful f next w)))

  good_run : (n f c : ℕ) → c ≤ n → Good t f c → c ≤ run_of t n f
  unfolding run_of
  good_run n f zero l G = omega arith
  good_run zero f (suc c) l G = absurd (omega arith)
  good_run (suc n) f (suc c) l G =
      let next = run_of t n (f + 1) in
      let e : f + 0 ≡ f = omega arith in
      let d : f + suc 0 ≡ f + 1 = omega arith in
      let w : lawful t f ≡ true = rw e at (G.each 0 (omega arith)) in
      either_way (ltb (technique_code t f) (technique_code t (f + 1)))
      (λ r. let m : c ≤ next = good_run n (f + 1) c (omega arith) (shorter f c G) in omega (arith, goes_on f next w r))
      (λ r. omega (arith, ends f next w r, only c (λ k. sym (rw (e, d) at (G.rise 0 k)) ∙ r)))
    where
      only : (c : ℕ) → (suc 0 < suc c → true ≡ false) → c ≡ 0
      only zero k = refl
      only (suc c) k = let z : true ≡ false = k (omega arith) in cc

  -- ---- a row's list

  within_run : (n f c : ℕ) → c ≤ n → leb c (run_of t n f) ≡ all c (technique_ok t f)
  within_run n f c l =
      either_way (leb c (run_of t n f))
      (λ h. h ∙ sym (good_ok t f c (run_good n f c (leb-true c (run_of t n f) h))))
      (λ h. either_way (all c (technique_ok t f))
      (λ a. let z : true ≡ false = sym (le-leb c (run_of t n f) (good_run n f c l (ok_good t f c a))) ∙ h in cc)
      (λ a. h ∙ sym a))

  pub list_none : (size first count : ℕ) → count ≡ 0 → true ≡ techniques_ok t size first count
  unfolding techniques_ok
  list_none size first count e = rw (e, all_of (technique_ok t first) 0 (λ i l. absurd (omega arith)))

  module _ (size first count : ℕ) (some : count ≡ 0 → ⊥) where
    pub list_outside : size < first + count → false ≡ techniques_ok t size first count
    unfolding techniques_ok
    list_outside l = rw (ne_eqb count 0 some, lt-leb (first + count) size l)

    pub list_inside : first + count ≤ size → run_reaches t size first (first + count) ≡ techniques_ok t size first count
    unfolding techniques_ok run_reaches
    list_inside l =
        let e : first + count - first ≡ count = omega arith in
        rw (ne_eqb count 0 some, le-leb (first + count) size l, e) (within_run (size - first) first count (omega arith))

  -- ---- a list looked at technique by technique

  pub lawful_is : (k : ℕ) {code efficiency : ℕ} → code ≡ technique_code t k → efficiency ≡ technique_efficiency t k → lawful t k ≡ lawful_by code efficiency
  unfolding lawful
  lawful_is k p q = rw (p, q)

  run_step : (size k : ℕ) → k < size → run_of t (size - k) k ≡ run_before t k (run_of t (size - (k + 1)) (k + 1))
  unfolding run_of
  run_step size k l = let n : size - k ≡ suc (size - (k + 1)) = omega arith in rw n

  module _ (size k end : ℕ) (below : k < end) (inside : end ≤ size) where
    step : run_of t (size - k) k ≡ run_before t k (run_of t (size - (k + 1)) (k + 1))
    step = run_step size k (omega arith)

    pub reaches_not : lawful t k ≡ false → false ≡ run_reaches t size k end
    unfolding run_reaches
    reaches_not h = rw (step, unlawful k (run_of t (size - (k + 1)) (k + 1)) h, lt-leb (end - k) 0 (omega arith))

    pub reaches_last : lawful t k ≡ true → k + 1 ≡ end → true ≡ run_reaches t size k end
    unfolding run_reaches
    reaches_last h e =
        let next = run_of t (size - (k + 1)) (k + 1) in
        let one : end - k ≤ 1 = omega arith in
        rw step
        (either_way (ltb (technique_code t k) (technique_code t (k + 1)))
        (λ r. rw (goes_on k next h r, le-leb (end - k) (next + 1) (omega arith)))
        (λ r. rw (ends k next h r, le-leb (end - k) 1 one)))

    pub reaches_no_further : lawful t k ≡ true → k + 1 < end → technique_code t (k + 1) ≤ technique_code t k → false ≡ run_reaches t size k end
    unfolding run_reaches
    reaches_no_further h m c =
        rw (step, ends k (run_of t (size - (k + 1)) (k + 1)) h (le-ltb _ _ c), lt-leb (end - k) 1 (omega arith))

    pub reaches_on : lawful t k ≡ true → technique_code t k < technique_code t (k + 1) → run_reaches t size (k + 1) end ≡ run_reaches t size k end
    unfolding run_reaches
    reaches_on h c =
        let next = run_of t (size - (k + 1)) (k + 1) in
        rw (step, goes_on k next h (lt-ltb _ _ c))
        (either_way (leb (end - (k + 1)) next)
        (λ r. rw (r, le-leb (end - k) (next + 1) (omega (arith, leb-true (end - (k + 1)) next r))))
        (λ r. rw (r, lt-leb (end - k) (next + 1) (omega (arith, leb-false (end - (k + 1)) next r)))))

  -- whether the rest of a list is right, from k on, behind a technique with the code `before`: for the first of a list that is 0
  unfoldable pub rest_reaches : (size k end before : ℕ) → Bool
  rest_reaches size k end before = cond (eqb k end) true (ltb before (technique_code t k) && run_reaches t size k end)

  pub rest_none : (size k end before : ℕ) → k ≡ end → true ≡ rest_reaches size k end before
  unfolding rest_reaches
  rest_none size k end before e = rw (eq-eqb k end e)

  module _ (size k end : ℕ) (below : k < end) (inside : end ≤ size) where
    some_left : eqb k end ≡ false
    some_left = ne_eqb k end (λ q. omega arith)

    no_code : technique_code t k ≤ 0 → lawful t k ≡ false
    unfolding lawful
    no_code l = rw (eq-eqb (technique_code t k) 0 (omega arith))

    pub rest_first : run_reaches t size k end ≡ rest_reaches size k end 0
    unfolding rest_reaches
    rest_first =
        rw some_left
        (either_way (ltb 0 (technique_code t k))
        (λ h. rw h)
        (λ h. rw h (sym (reaches_not size k end below inside (no_code (ltb-false 0 (technique_code t k) h))))))

    rest_next : lawful t k ≡ true → rest_reaches size (k + 1) end (technique_code t k) ≡ run_reaches t size k end
    unfolding rest_reaches
    rest_next w =
        either_way (eqb (k + 1) end)
        (λ e. rw e (reaches_last size k end below inside w (eqb-true (k + 1) end e)))
        (λ e. either_way (ltb (technique_code t k) (technique_code t (k + 1)))
        (λ r. rw (e, r) (reaches_on size k end below inside w (ltb-true _ _ r)))
        (λ r. rw (e, r) (reaches_no_further size k end below inside w (omega (arith, eqb-false (k + 1) end e)) (ltb-false _ _ r))))

    module _ (before : ℕ) where
      pub rest_falls : technique_code t k ≤ before → false ≡ rest_reaches size k end before
      unfolding rest_reaches
      rest_falls h = rw (some_left, le-ltb before (technique_code t k) h)

      pub rest_by_run : before < technique_code t k → run_reaches t size k end ≡ rest_reaches size k end before
      unfolding rest_reaches
      rest_by_run h = rw (some_left, lt-ltb before (technique_code t k) h)

      pub rest_on : before < technique_code t k → lawful t k ≡ true → rest_reaches size (k + 1) end (technique_code t k) ≡ rest_reaches size k end before
      rest_on h w = rest_next w ∙ rest_by_run h

  pub reaches_by_kept : (size k end : ℕ) (runs : List ℕ) → Runs t size runs → k % runs_apart ≡ 0 → k < size
      → leb (end - k) (get_or runs (k / runs_apart) 0) ≡ run_reaches t size k end
  unfolding run_reaches
  reaches_by_kept size k end runs R whole l =
      let back : runs_apart * (k / runs_apart) ≡ k = omega arith in
      let kept = rw back at (R.at (k / runs_apart) (omega arith)) in
      rw kept

  -- ---- filling from the end

  pub run_by_codes : (k next : ℕ) {code efficiency next_code : ℕ} → code ≡ technique_code t k → efficiency ≡ technique_efficiency t k
      → next_code ≡ technique_code t (k + 1) → run_from code efficiency next_code next ≡ run_before t k next
  unfolding run_before lawful
  run_by_codes k next p q r = rw (p, q, r)

  pub run_none : (n k : ℕ) → n ≡ 0 → 0 ≡ run_of t n k
  unfolding run_of
  run_none n k e = rw e

  pub run_next : (size k r : ℕ) → 0 < k → k ≤ size → r ≡ run_of t (size - k) k → run_before t (k - 1) r ≡ run_of t (size - (k - 1)) (k - 1)
  run_next size zero r p l e = absurd (omega arith)
  run_next size (suc k) r p l e =
      let m : suc k - 1 ≡ k = omega arith in
      rw (m, e) (sym (rw (add-one k) at (run_step size k (omega arith))))

  -- the runs that are kept from k on are filled in
  abbrev pub Filled : (size k : ℕ) → List ℕ → Type 0
  Filled size k runs = (m : ℕ) → k ≤ runs_apart * m → runs_apart * m < size → get_or runs m 0 ≡ run_of t (size - runs_apart * m) (runs_apart * m)

  module _ (size k : ℕ) (runs : List ℕ) (F : Filled size (k + 1) runs) where
    pub filled_kept : (v : ℕ) → k % runs_apart ≡ 0 → k / runs_apart < length runs → v ≡ run_of t (size - k) k
        → Filled size k (set runs (k / runs_apart) v)
    filled_kept v whole h e m l below =
        let back : runs_apart * (k / runs_apart) ≡ k = omega arith in
        ⊎_elim
        (λ (q : k / runs_apart ≡ m). rw (← q, back) (get_or-set_same runs (k / runs_apart) v 0 h ∙ e))
        (λ (lt : k / runs_apart < m). get_or-set_other runs (k / runs_apart) m v 0 (λ q. omega arith) ∙ F m (omega arith) below)
        (eq-or-lt_of_le (omega arith))

    pub filled_between : (k % runs_apart ≡ 0 → ⊥) → Filled size k runs
    filled_between part m l below = F m (omega arith) below
