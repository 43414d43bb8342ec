-- The order of keys, and what rising rows and entries make of a search.
use Prim.Native.Nat.{ℕ, suc, ◌+◌, ◌*◌, ◌-◌, ◌≤◌, ◌<◌}
use mathlib.Core.Path.{◌≡◌, refl, sym, ap, ◌∙◌}
use mathlib.Core.Bool.{Bool, true, false, ◌&&◌, ◌||◌}
use mathlib.Core.List.{List, [], ◌∷◌}
use mathlib.Core.Logic.{◌⊎◌, inl, inr}
use native.Mathlib.Nat.{eq-or-lt_of_le}
use native.Mathlib.Omega.{arith}
use borrow.Author.Tests.{ltb-true, eqb-true, lt-ltb, le-ltb, eq-eqb, ne_eqb}
use lib.Dec.{ltb, eqb}
use Rattle.std.specs.Prelude.{Some, None}
use Rattle.little.specs.Read.{u16_at}
use Rattle.search.specs.First.{first}
use Rattle.search.specs.Cut.{Falls}
use Rattle.search.specs.InnerOrder.{list_order}
use Rattle.std.specs.Ordering.{ordering_then, is_lt, is_eq}
use Rattle.search.specs.Test.{every}
use Rattle.std.specs.declared.cmp.Ordering.{Ordering}
use Rattle.std.specs.declared.cmp.Ordering.TheVariants.{Less, Equal, Greater}
use Rattle.search.proofs.LawTest.{either_way, and_left, and_right, all_at, every_at}
use Rattle.search.proofs.LawFirst.{first_start, first_here, first_rest}
use Rattle.search.proofs.LawCut.{rising}
use Rattle.search.proofs.LawOrder.{before_first, same_first, order_joined}
use Rattle.fugitive.specs.Entry.{entry_size}
use Rattle.fugitive.specs.Grades.{gas, particulates}
use Rattle.fugitive.specs.Table.{fugitive_header, entry_count, entry_start, fugitive_header_ok}
use Rattle.desk.specs.Key.{key_from, key_fields, before, key_less, key_same}
use Rattle.headers.specs.Book.{book_header, row_count}
use Rattle.desk.specs.Book.{row_start, key_at, rises, row_ok, book_ok}
use Rattle.desk.specs.Row.{row_has}
use Rattle.desk.specs.Entries.{entry_key, entry_rises, entries_ok, fugitive_ok}
use Rattle.desk.specs.Dust.{entry_has}
use Rattle.desk.specs.Inner.{at_scale, code_fields, rest_fields, codes_at, key_order, row_fits, OfDust, row_less}
use Rattle.desk.specs.declared.key.Key.{Key}
use Rattle.desk.proofs.LawBook.{row_good}

-- ---- dictionary order

-- what `before` says where the heads are not in order: they are the same, and the tails are in order
tails : (a b : ℕ) (x y : List ℕ) → ltb a b ≡ false → (ltb a b || eqb a b && before x y) ≡ true → (a ≡ b) × (before x y ≡ true)
tails a b x y l h =
    let t : (eqb a b && before x y) ≡ true = rw l at h in
    (eqb-true a b (and_left (eqb a b) (before x y) t), and_right (eqb a b) (before x y) t)

heads : (a c : ℕ) (x z : List ℕ) → a < c → (ltb a c || eqb a c && before x z) ≡ true
heads a c x z h = rw (lt-ltb a c h)

before_trans : (x y z : List ℕ) → before x y ≡ true → before y z ≡ true → before x z ≡ true
before_trans [] y z p q = cc
before_trans (a ∷ x) [] z p q = cc
before_trans (a ∷ x) (b ∷ y) [] p q = cc
before_trans (a ∷ x) (b ∷ y) (c ∷ z) p q =
    either_way (ltb a b)
    (λ l. either_way (ltb b c)
    (λ m. heads a c x z (omega (arith, ltb-true a b l, ltb-true b c m)))
    (λ m. let t = tails b c y z m q in heads a c x z (omega (arith, ltb-true a b l, t.0))))
    (λ l.
    let s = tails a b x y l p in
    either_way (ltb b c)
    (λ m. heads a c x z (omega (arith, ltb-true b c m, s.0)))
    (λ m.
    let t = tails b c y z m q in
    let h : c ≤ a = omega (arith, s.0, t.0) in
    rw (le-ltb a c h, eq-eqb a c (s.0 ∙ t.0), before_trans x y z s.1 t.1)))

-- ---- keys

less_trans : (x y z : Key) → key_less x y ≡ true → key_less y z ≡ true → key_less x z ≡ true
unfolding key_less
less_trans x y z p q = before_trans (key_fields x) (key_fields y) (key_fields z) p q

same_fields : (a k : Key) → key_same a k ≡ true → key_fields a ≡ key_fields k
unfolding key_same
same_fields a k h =
    rw (
      eqb-true a.industry k.industry (every_at _ h 0),
      eqb-true a.product k.product (every_at _ h 1),
      eqb-true a.material k.material (every_at _ h 2),
      eqb-true a.process k.process (every_at _ h 3),
      eqb-true a.scale k.scale (every_at _ h 4),
      eqb-true a.medium k.medium (every_at _ h 5),
      eqb-true a.pollutant k.pollutant (every_at _ h 6),
    )

-- what is told apart by some key is not the same
apart : (c a k : Key) → key_less c a ≡ true → key_less c k ≡ false → key_same a k ≡ false
unfolding key_less
apart c a k p q =
    either_way (key_same a k)
    (λ s. let z : true ≡ false = sym p ∙ ap (λ (l : List ℕ). before (key_fields c) l) (same_fields a k s) ∙ q in cc)
    (λ s. s)

-- ---- an order that is found field by field

-- a row's first field stands where the row starts
pub from_start : (b : List ℕ) (at x : ℕ) → x ≡ u16_at b (at + 0) → x ≡ u16_at b at
from_start b at x h = let e : at + 0 ≡ at = omega arith in rw e at h

before_is : (x y : List ℕ) → is_lt (list_order x y) ≡ before x y
unfolding list_order
before_is [] y = refl
before_is (a ∷ x) [] = refl
before_is (a ∷ x) (b ∷ y) = before_first a b x y ∙ ap (λ (t : Bool). ltb a b || eqb a b && t) (before_is x y)

pub less_is : (a k : Key) → is_lt (key_order a k) ≡ key_less a k
unfolding key_order key_less
less_is a k = before_is (key_fields a) (key_fields k)

-- the same up to the end of the shorter
abbrev alike : List ℕ → List ℕ → Bool
alike [] y = true
alike (a ∷ x) [] = true
alike (a ∷ x) (b ∷ y) = eqb a b && alike x y

alike_is : (x y : List ℕ) → is_eq (list_order x y) ≡ alike x y
unfolding list_order
alike_is [] y = refl
alike_is (a ∷ x) [] = refl
alike_is (a ∷ x) (b ∷ y) = same_first a b x y ∙ ap (λ (t : Bool). eqb a b && t) (alike_is x y)

regroup : (a b c d e f g : Bool) → (a && (b && (c && (d && (e && (f && (g && true))))))) ≡ (a && b && c && d && e && f && g)
regroup false b c d e f g = refl
regroup true false c d e f g = refl
regroup true true false d e f g = refl
regroup true true true false e f g = refl
regroup true true true true false f g = refl
regroup true true true true true false g = refl
regroup true true true true true true false = refl
regroup true true true true true true true = refl

pub same_is : (a k : Key) → is_eq (key_order a k) ≡ key_same a k
unfolding key_order key_same every
same_is a k =
    alike_is (key_fields a) (key_fields k)
    ∙ regroup (eqb a.industry k.industry) (eqb a.product k.product) (eqb a.material k.material) (eqb a.process k.process)
    (eqb a.scale k.scale) (eqb a.medium k.medium) (eqb a.pollutant k.pollutant)

-- a key that stands before another is not the same
less_other : (a k : Key) → key_less a k ≡ true → key_same a k ≡ false
less_other a k h = sym (same_is a k) ∙ not_same (key_order a k) (less_is a k ∙ h)
  where
    not_same : (o : Ordering) → is_lt o ≡ true → is_eq o ≡ false
    not_same Less e = refl
    not_same Equal e = cc
    not_same Greater e = cc

-- what stands before a key stands before every one that is the same
same_less : (c a k : Key) → key_less c a ≡ true → key_same a k ≡ true → key_less c k ≡ true
unfolding key_less
same_less c a k p s = sym (ap (λ (l : List ℕ). before (key_fields c) l) (same_fields a k s)) ∙ p

-- the five codes decide, or leave it to the medium and the pollutant
pub codes_then_rest : (a k : Key) → key_order a k ≡ ordering_then (list_order (code_fields a) (code_fields k)) (list_order (rest_fields a) (rest_fields k))
unfolding key_order
codes_then_rest a k = order_joined (code_fields a) (rest_fields a) (code_fields k) (rest_fields k) refl

-- so a row's order is found in two steps
pub row_stands : (b : List ℕ) (at : ℕ) (k : Key) (scale : ℕ) → key_order (key_at b at) (at_scale k scale)
    ≡ ordering_then (list_order (codes_at b at) (code_fields (at_scale k scale))) (list_order (rest_fields (key_at b at)) (rest_fields k))
unfolding key_from codes_at at_scale
row_stands b at k scale = codes_then_rest (key_at b at) (at_scale k scale)

-- ---- an entry's key, which is of particulates in gas, is told by its five codes

pub entry_stands : (f : List ℕ) (at : ℕ) (k : Key) → OfDust k → key_order (key_from f at gas particulates) k ≡ list_order (codes_at f at) (code_fields k)
unfolding key_from codes_at list_order
entry_stands f at k of =
    codes_then_rest (key_from f at gas particulates) k ∙ (rw (of.medium, of.pollutant) (left_alone (list_order (codes_at f at) (code_fields k))))
  where
    left_alone : (o : Ordering) → ordering_then o Equal ≡ o
    left_alone Less = refl
    left_alone Equal = refl
    left_alone Greater = refl

-- an entry that is compared where it stands, with another scale in the place of the key's own
pub at_scale_stands : (f : List ℕ) (i : ℕ) (k : Key) (scale : ℕ) {from : ℕ} {o : Ordering} → OfDust k → from ≡ (fugitive_header f).offset
    → list_order (codes_at f (from + entry_size * i)) (code_fields (at_scale k scale)) ≡ o → key_order (entry_key f i) (at_scale k scale) ≡ o
unfolding entry_key at_scale
at_scale_stands f i k scale of start h =
    entry_stands f (entry_start f i) (at_scale k scale) (record { medium = of.medium; pollutant = of.pollutant }) ∙ rw start at h

dust_key : (f : List ℕ) (at : ℕ) (key : Key) → key ≡ key_from f at gas particulates → OfDust (at_scale key key.scale)
unfolding key_from at_scale
dust_key f at key held = record { medium = ap (λ (k : Key). k.medium) held; pollutant = ap (λ (k : Key). k.pollutant) held }

-- a key is held, and another is compared with it
pub less_told : (a k : Key) {o : Ordering} → key_order a (at_scale k k.scale) ≡ o → is_lt o ≡ key_less a k
unfolding at_scale
less_told a k h = sym (ap is_lt h) ∙ less_is a k

-- a row's key is held, and the row before it is compared with it
pub rises_by : (b : List ℕ) (i at : ℕ) (key : Key) {o : Ordering} → (i ≡ 0 → ⊥) → at ≡ row_start b i → key ≡ key_at b at
    → key_order (key_at b (at - (book_header b).row_size)) (at_scale key key.scale) ≡ o → is_lt o ≡ rises b i
unfolding rises
rises_by b i at key {o} some start held h =
    let back : at - (book_header b).row_size ≡ row_start b (i - 1) = omega (arith, start, some) in
    rw (ne_eqb i 0 some) (less_told (key_at b (at - (book_header b).row_size)) key h ∙ (rw (back, held, start)))

-- a row's test is that of the row by itself, and that it stands after the one before it
pub row_by_parts : (b t : List ℕ) (i : ℕ) → (row_fits b t (row_start b i) && rises b i) ≡ row_ok b t i
unfolding every row_ok row_fits
row_by_parts b t i = refl

-- ---- keys that rise, of rows or of entries

module _ (key : ℕ → Key) (n : ℕ) (next : (j : ℕ) → suc j < n → key_less (key j) (key (suc j)) ≡ true) where
  keys_rise : (i j : ℕ) → i < j → j < n → key_less (key i) (key j) ≡ true
  keys_rise = rising (λ i j. key_less (key i) (key j) ≡ true) (λ i j k. less_trans (key i) (key j) (key k)) n next

  -- those that stand before a key come first
  keys_fall : (k : Key) → Falls n (λ j. key_less (key j) k)
  keys_fall k i j lt m e = less_trans (key i) (key j) k (keys_rise i j lt m) e

  -- which of them have this key
  module _ (k : Key) (has : ℕ → Bool) (is : (j : ℕ) → has j ≡ key_same (key j) k) (i : ℕ) (l : i < n) where
    -- one that stands before a key has it not, nor has any before that
    earlier_other : key_order (key i) k ≡ Less → (j : ℕ) → j < i + 1 → has j ≡ false
    earlier_other h j m = is j ∙ at j (eq-or-lt_of_le (omega arith))
      where
        at : (j : ℕ) → (j ≡ i) ⊎ (j < i) → key_same (key j) k ≡ false
        at j (inl q) = rw q (sym (same_is _ k) ∙ ap is_eq h)
        at j (inr m) = less_other (key j) k (less_trans _ _ k (keys_rise j i m l) (sym (less_is _ k) ∙ ap is_lt h))

    pub none_up_to : key_order (key i) k ≡ Less → first (i + 1) has ≡ None
    none_up_to h = first_rest has 0 (i + 1) (first_start _) (omega arith) (λ j z m. earlier_other h j m)

    -- one that has the key is the first
    pub found_at : key_order (key i) k ≡ Equal → Some i ≡ first n has
    found_at h = first_here has i n (first_rest has 0 i (first_start _) (omega arith) (λ j z m. is j ∙ before j m)) (is i ∙ same) l
      where
        same : key_same (key i) k ≡ true
        same = sym (same_is _ k) ∙ ap is_eq h

        before : (j : ℕ) → j < i → key_same (key j) k ≡ false
        before j m = less_other (key j) k (same_less (key j) (key i) k (keys_rise j i m l) same)

    -- one that stands after a key has it not, nor has any past it
    pub later_other : key_order (key i) k ≡ Greater → (j : ℕ) → i ≤ j → j < n → has j ≡ false
    later_other h j z m = is j ∙ at j (eq-or-lt_of_le z) m
      where
        at : (j : ℕ) → (i ≡ j) ⊎ (i < j) → j < n → key_same (key j) k ≡ false
        at j (inl q) m = rw (← q) (sym (same_is _ k) ∙ ap is_eq h)
        at j (inr lt) m = apart (key i) (key j) k (keys_rise i j lt m) (sym (less_is _ k) ∙ ap is_lt h)

-- ---- the rows of a good book

pub row_less_told : (b : List ℕ) (i : ℕ) (k : Key) {at : ℕ} → at ≡ row_start b i → is_lt (key_order (key_at b at) k) ≡ row_less b k i
unfolding row_less
row_less_told b i k start = rw start (less_is (key_at b (row_start b i)) k)

module _ (b : List ℕ) (good : book_ok b ≡ true) where
  row_rises : (j : ℕ) → suc j < row_count b → key_less (key_at b (row_start b j)) (key_at b (row_start b (suc j))) ≡ true
  unfolding row_ok rises
  row_rises j l =
      let e = every_at _ (row_good b good (suc j) l) 3 in
      let n : suc j - 1 ≡ j = omega arith in
      rw (ne_eqb (suc j) 0 (λ q. omega arith), n) at e

  module _ (k : Key) where
    pub rows_fall : Falls (row_count b) (row_less b k)
    unfolding row_less
    rows_fall = keys_fall (λ j. key_at b (row_start b j)) (row_count b) row_rises k

    pub row_less_other : (j : ℕ) → row_less b k j ≡ true → row_has b k j ≡ false
    unfolding row_less row_has
    row_less_other j h = less_other (key_at b (row_start b j)) k h

  module _ (k : Key) (i : ℕ) (l : i < row_count b) where
    abbrev stands : Ordering
    stands = key_order (key_at b (row_start b i)) k

    has : (j : ℕ) → row_has b k j ≡ key_same (key_at b (row_start b j)) k
    unfolding row_has
    has j = refl

    pub passed : stands ≡ Less → first (i + 1) (row_has b k) ≡ None
    passed = none_up_to (λ j. key_at b (row_start b j)) (row_count b) row_rises k (row_has b k) has i l

    pub here : stands ≡ Equal → Some i ≡ first (row_count b) (row_has b k)
    here = found_at (λ j. key_at b (row_start b j)) (row_count b) row_rises k (row_has b k) has i l

    -- past a row that stands after a key no row has it
    pub ended : first i (row_has b k) ≡ None → stands ≡ Greater → None ≡ first (row_count b) (row_has b k)
    ended none h =
        sym (first_rest (row_has b k) i (row_count b) none (omega arith) (later_other (λ j. key_at b (row_start b j)) (row_count b) row_rises k (row_has b k) has i l h))

-- ---- the entries of a right fugitive table

module _ (f : List ℕ) (right : fugitive_ok f ≡ true) where
  entry_rises_lem : (j : ℕ) → suc j < entry_count f → key_less (entry_key f j) (entry_key f (suc j)) ≡ true
  unfolding fugitive_ok entry_rises
  entry_rises_lem j l =
      let e = all_at (entry_rises f) (entry_count f) (suc j) (and_right (fugitive_header_ok f) (entries_ok f) right) l in
      let n : suc j - 1 ≡ j = omega arith in
      rw (ne_eqb (suc j) 0 (λ q. omega arith), n) at e

  module _ (k : Key) (i : ℕ) (l : i < entry_count f) where
    entry_has_lem : (j : ℕ) → entry_has f k j ≡ key_same (entry_key f j) k
    unfolding entry_has
    entry_has_lem j = refl

    pub entries_passed : key_order (entry_key f i) k ≡ Less → first (i + 1) (entry_has f k) ≡ None
    entries_passed = none_up_to (entry_key f) (entry_count f) entry_rises_lem k (entry_has f k) entry_has_lem i l

    pub entry_here : key_order (entry_key f i) k ≡ Equal → Some i ≡ first (entry_count f) (entry_has f k)
    entry_here = found_at (entry_key f) (entry_count f) entry_rises_lem k (entry_has f k) entry_has_lem i l

    pub entries_past : key_order (entry_key f i) k ≡ Greater → (j : ℕ) → i ≤ j → j < entry_count f → entry_has f k j ≡ false
    entries_past = later_other (entry_key f) (entry_count f) entry_rises_lem k (entry_has f k) entry_has_lem i l

-- an entry's key is held, and the entry before it is compared with it, code by code
pub entry_rises_by : (f : List ℕ) (i at : ℕ) (key : Key) {o : Ordering} → (i ≡ 0 → ⊥) → at ≡ entry_start f i → key ≡ key_from f at gas particulates
    → list_order (codes_at f (at - entry_size)) (code_fields (at_scale key key.scale)) ≡ o → is_lt o ≡ entry_rises f i
unfolding entry_rises entry_key
entry_rises_by f i at key {o} some start held h =
    let back : at - entry_size ≡ entry_start f (i - 1) = omega (arith, start, some) in
    let stands = entry_stands f (at - entry_size) (at_scale key key.scale) (dust_key f at key held) ∙ h in
    rw (ne_eqb i 0 some) (less_told (key_from f (at - entry_size) gas particulates) key stands ∙ (rw (back, held, start)))
