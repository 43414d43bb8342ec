-- How a text is cut, from its front: a byte that ends no field belongs to the first one; where the field ends, the text behind it has the
-- other fields and records. Assumes nothing.
use Prim.Native.Nat.{ℕ, suc, ◌+◌, ◌-◌, ◌≤◌, ◌<◌, max}
use mathlib.Core.Path.{◌≡◌, refl, sym, ap, ◌∙◌}
use mathlib.Core.Bool.{Bool, true, false, ◌&&◌, ◌||◌}
use mathlib.Core.List.{List, [], ◌∷◌}
use native.Mathlib.Nat.{add-zero}
use Rattle.std.proofs.Math.Nat.{max-eq_left, max-eq_right}
use native.Mathlib.Numerals.{add-one}
use native.Mathlib.Omega.{arith}
use lib.Dec.{leb, eqb}
use lib.ListN.{length, take, drop, drop_of_length-le}
use lib.Seq.{drop-cons, drop-drop, get_or-drop}
use borrow.Author.Tests.{eqb-true, ne_eqb, le-leb, lt-leb, leb-true, leb-false, eqb-false}
use Rattle.little.specs.Read.{byte_at}
use Rattle.little.specs.Part.{part_of}
use Rattle.search.proofs.LawTest.{either_way, clash, and_left, and_right}
use Rattle.records.specs.Records.{comma, quote, carriage_return, line_feed, Pieces, no_pieces, record_in, onto, returned, turned, pieces}
use Rattle.records.specs.Records.{is_blank, ended, records_of, field_end}
use Rattle.records.specs.Follow.{ends_field, behind}
use Rattle.records.specs.Inner.{following}
use Rattle.records.specs.declared.field.Behind.{Behind}
use Rattle.records.specs.declared.field.Behind.TheVariants.{Field, Record}

-- ---- one byte

-- the first field is empty or begins with the text's first byte
first_byte : (q : Bool) (b : ℕ) (t : List ℕ) (f : List ℕ) (c : ℕ) → (pieces q (b ∷ t)).field ≡ c ∷ f → c ≡ b
unfolding pieces
first_byte q b t f c e =
    either_way (q || eqb b quote)
    (λ p. let same : b ∷ (pieces (turned q b) t).field ≡ c ∷ f = rw p at e in cc)
    (λ p.
    either_way (eqb b comma)
    (λ k. let none : [] ≡ c ∷ f = rw (p, k) at e in clash (cc))
    (λ k.
    either_way (eqb b carriage_return)
    (λ r. returns r (pieces (turned q b) t) (rw (p, k, r) at e))
    (λ r. let same : b ∷ (pieces (turned q b) t).field ≡ c ∷ f = rw (p, k, r) at e in cc)))
  where
    by_field : (r : eqb b carriage_return ≡ true) (p : Pieces) (g : List ℕ) → (returned g p).field ≡ c ∷ f → c ≡ b
    by_field r p [] e' = let is = eqb-true b carriage_return r in cc
    by_field r p (x ∷ g) e' =
        either_way (eqb x line_feed)
        (λ h. let none : [] ≡ c ∷ f = rw h at e' in clash (cc))
        (λ h. let same : carriage_return ∷ p.field ≡ c ∷ f = rw h at e' in let is = eqb-true b carriage_return r in cc)

    returns : (r : eqb b carriage_return ≡ true) (p : Pieces) → (returned p.field p).field ≡ c ∷ f → c ≡ b
    returns r p e' = by_field r p p.field e'

-- a carriage return that no line feed follows belongs to the field
plain_return : (q : Bool) (t : List ℕ) (p : Pieces) → eqb (byte_at t 0) line_feed ≡ false → returned (pieces q t).field p ≡ onto carriage_return p
unfolding pieces
plain_return q [] p h = refl
plain_return q (b ∷ t) p h = go (pieces q (b ∷ t)).field refl
  where
    go : (f : List ℕ) → (pieces q (b ∷ t)).field ≡ f → returned f p ≡ onto carriage_return p
    go [] e = refl
    go (c ∷ f) e = let same : c ≡ b = first_byte q b t f c e in rw (same, h) refl

-- a byte at which no field ends
stays : (q : Bool) (b : ℕ) (t : List ℕ) → ends_field (b ∷ t) 0 q ≡ false → pieces q (b ∷ t) ≡ onto b (pieces (turned q b) t)
unfolding pieces ends_field
stays true b t h = refl
stays false b t h =
    either_way (eqb b quote) (λ p. rw p refl)
    (λ p.
    either_way (eqb b comma) (λ k. let z : true ≡ false = rw k at h in clash (cc))
    (λ k.
    either_way (eqb b carriage_return)
    (λ r.
    let is : b ≡ carriage_return = eqb-true b carriage_return r in
    let alone : eqb (byte_at t 0) line_feed ≡ false = rw (k, r) at h in
    rw (p, k, r, plain_return false t (pieces false t) alone, is) refl)
    (λ r. rw (p, k, r) refl)))

-- a carriage return that one follows ends a record
fed_return : (t : List ℕ) → eqb (byte_at t 0) line_feed ≡ true → (pieces false (carriage_return ∷ t)).field ≡ []
unfolding pieces
fed_return [] l = clash (cc)
fed_return (c ∷ t) l = let is : c ≡ line_feed = eqb-true c line_feed l in rw is refl

-- a byte at which one ends
stops : (q : Bool) (b : ℕ) (t : List ℕ) → ends_field (b ∷ t) 0 q ≡ true → (q ≡ false) × ((pieces q (b ∷ t)).field ≡ [])
unfolding pieces ends_field
stops true b t h = clash (cc)
stops false b t h =
    either_way (eqb b comma)
    (λ k. let is : b ≡ comma = eqb-true b comma k in (refl, rw is refl))
    (λ k.
    either_way (eqb b carriage_return)
    (λ r.
    let is : b ≡ carriage_return = eqb-true b carriage_return r in
    let fed : eqb (byte_at t 0) line_feed ≡ true = rw (k, r) at h in
    (refl, rw is (fed_return t fed)))
    (λ r. let z : false ≡ true = rw (k, r) at h in clash (cc)))

-- ---- a field

-- the text begins with its first field, and what stands behind it begins with none
pub record Cut (t : List ℕ) (p : Pieces) : Type 0 where
  pub front : take (length p.field) t ≡ p.field
  pub rest : pieces false (drop (length p.field) t) ≡ record { field = []; fields = p.fields; records = p.records }

cut : (q : Bool) (t : List ℕ) → Cut t (pieces q t)
unfolding pieces
cut q [] = record { front = refl; rest = refl }
cut q (b ∷ t) =
    either_way (ends_field (b ∷ t) 0 q)
    (λ e.
    let s = stops q b t e in
    let empty = s.1 in
    record { front = rw empty refl; rest = rw (empty, s.0) (whole (pieces false (b ∷ t)) (rw s.0 at empty)) })
    (λ e.
    let inner = cut (turned q b) t in
    rw (stays q b t e) (record { front = ap (λ (f : List ℕ). b ∷ f) inner.front; rest = inner.rest }))
  where
    whole : (p : Pieces) → p.field ≡ [] → p ≡ record { field = []; fields = p.fields; records = p.records }
    whole p e = ap (λ (f : List ℕ). record { field = f; fields = p.fields; records = p.records }) e

-- ---- at a place of the text

ends_there : (text : List ℕ) (i : ℕ) (q : Bool) → ends_field (drop i text) 0 q ≡ ends_field text i q
unfolding ends_field
ends_there text i q = rw (get_or-drop i text 0 0, get_or-drop i text (0 + 1) 0, add-zero i) refl

module _ (text : List ℕ) (i : ℕ) (q : Bool) (inside : i < length text) where
  begins : drop i text ≡ byte_at text i ∷ drop (i + 1) text
  begins = drop-cons text i 0 inside ∙ rw (add-one i) refl

  at_front : ends_field (byte_at text i ∷ drop (i + 1) text) 0 q ≡ ends_field text i q
  at_front = rw (← begins) (ends_there text i q)

  pub end_here : ends_field text i q ≡ true → length (pieces q (drop i text)).field ≡ 0
  end_here e = rw (begins, (stops q (byte_at text i) (drop (i + 1) text) (at_front ∙ e)).1) refl

  pub goes_on : ends_field text i q ≡ false
      → length (pieces q (drop i text)).field ≡ suc (length (pieces (turned q (byte_at text i)) (drop (i + 1) text)).field)
  goes_on e = rw (begins, stays q (byte_at text i) (drop (i + 1) text) (at_front ∙ e)) refl

pub past_end : (text : List ℕ) (i : ℕ) (q : Bool) → length text ≤ i → length (pieces q (drop i text)).field ≡ 0
unfolding pieces
past_end text i q h = rw (drop_of_length-le text {i = i} h) refl

-- where a field ends
module _ (text : List ℕ) (at : ℕ) where
  pub field_start : field_end text at ≡ at + length (pieces false (drop at text)).field
  unfolding field_end
  field_start = refl

  -- a loop over the places of the text, none of which ends the field, ends behind the text, or where it began
  pub field_last : (i : ℕ) (q : Bool) → field_end text at ≡ i + length (pieces q (drop i text)).field → length text ≤ i
      → (at ≤ length text → i ≤ length text) → max at (length text) ≡ field_end text at
  field_last i q e past within =
      let here = past_end text i q past in
      either_way (leb at (length text))
      (λ w. max-eq_right (leb-true at (length text) w) ∙ (let s : length text ≡ field_end text at = omega (arith, within (leb-true at (length text) w)) in s))
      (λ w.
      let gone : length text ≤ at = omega (arith, leb-false at (length text) w) in
      max-eq_left gone ∙ (let s : at ≡ field_end text at = omega (arith, field_start, past_end text at false gone) in s))

  -- the bytes of the field
  pub field_bytes : part_of text at (field_end text at - at) ≡ (pieces false (drop at text)).field
  field_bytes =
      let size : field_end text at - at ≡ length (pieces false (drop at text)).field = omega (arith, field_start) in
      rw size (cut false (drop at text)).front

  behind_it : pieces false (drop (field_end text at) text)
      ≡ record { field = []; fields = (pieces false (drop at text)).fields; records = (pieces false (drop at text)).records }
  behind_it =
      rw (field_start, ← drop-drop (length (pieces false (drop at text)).field) at text) (cut false (drop at text)).rest

-- ---- what follows a field, case by case

module _ (text : List ℕ) (end : ℕ) where
  pub at_text_end : length text ≤ end → Record end ≡ behind text end
  unfolding behind
  at_text_end h = rw (le-leb (length text) end h)

  pub at_comma : end < length text → byte_at text end ≡ comma → Field (end + 1) ≡ behind text end
  unfolding behind
  at_comma h e = rw (lt-leb (length text) end h, e)

  pub at_line_end : end < length text → (byte_at text end ≡ comma → ⊥) → Record (end + 2) ≡ behind text end
  unfolding behind
  at_line_end h n = rw (lt-leb (length text) end h, ne_eqb (byte_at text end) comma n)

-- what is known of the text from there on: the fields of the same record, or the records that come next
abbrev pub Follows : (text : List ℕ) (p : Pieces) (b : Behind) → Type 0
Follows text p (Field next) =
    (p.fields ≡ record_in (pieces false (drop next text))) × (p.records ≡ (pieces false (drop next text)).records)
Follows text p (Record next) = (p.fields ≡ []) × (following p.records ≡ records_of (drop next text))

-- the first byte behind a field, where there is one, is one at which it ends
stop_there : (b : ℕ) (t : List ℕ) (p : Pieces) → pieces false (b ∷ t) ≡ p → p.field ≡ [] → ends_field (b ∷ t) 0 false ≡ true
stop_there b t p same empty =
    either_way (ends_field (b ∷ t) 0 false) (λ e. e)
    (λ e. let more : b ∷ (pieces (turned false b) t).field ≡ [] = ap (λ (x : Pieces). x.field) (sym (stays false b t e) ∙ same) ∙ empty in clash (cc))

-- the same at a line end: the carriage return, and the line feed behind it
line_end_lem : (b : ℕ) (t : List ℕ) → ends_field (b ∷ t) 0 false ≡ true → (b ≡ comma → ⊥) → (b ≡ carriage_return) × (byte_at t 0 ≡ line_feed)
unfolding ends_field
line_end_lem b t e n =
    let both : (eqb b carriage_return && eqb (byte_at t 0) line_feed) ≡ true = rw (ne_eqb b comma n) at e in
    (eqb-true b carriage_return (and_left (eqb b carriage_return) (eqb (byte_at t 0) line_feed) both), eqb-true (byte_at t 0) line_feed (and_right (eqb b carriage_return) (eqb (byte_at t 0) line_feed) both))

pub after_comma : (t : List ℕ) → pieces false (comma ∷ t) ≡ record { field = []; fields = record_in (pieces false t); records = (pieces false t).records }
unfolding pieces
after_comma t = refl

pub after_line_end : (t : List ℕ)
    → pieces false (carriage_return ∷ line_feed ∷ t) ≡ record { field = []; fields = []; records = record_in (pieces false t) ∷ (pieces false t).records }
unfolding pieces
after_line_end t = refl

no_pieces_lem : pieces false [] ≡ no_pieces
unfolding pieces
no_pieces_lem = refl

-- the records of what stands behind a line end
next : (t : List ℕ) → following (record_in (pieces false t) ∷ (pieces false t).records) ≡ records_of t
unfolding records_of
next t = refl

-- of no text there are no records
pub no_records : records_of [] ≡ []
unfolding records_of pieces ended
no_records = refl

module _ (text : List ℕ) (at : ℕ) where
  abbrev here : Pieces
  here = pieces false (drop at text)

  abbrev end : ℕ
  end = field_end text at

  parts : (p : Pieces) → pieces false (drop end text) ≡ p → (here.fields ≡ p.fields) × (here.records ≡ p.records)
  parts p e =
      let same = sym (behind_it text at) ∙ e in
      (ap (λ (x : Pieces). x.fields) same, ap (λ (x : Pieces). x.records) same)

  -- behind a carriage return that ends the field there is a line feed, and behind that the next record
  line_end_follows : drop end text ≡ byte_at text end ∷ drop (end + 1) text
      → (byte_at text end ≡ carriage_return) × (byte_at (drop (end + 1) text) 0 ≡ line_feed)
      → (here.fields ≡ []) × (following here.records ≡ records_of (drop (end + 2) text))
  line_end_follows front is = go (drop (end + 1) text) refl is.1
    where
      go : (t : List ℕ) → drop (end + 1) text ≡ t → byte_at t 0 ≡ line_feed
          → (here.fields ≡ []) × (following here.records ≡ records_of (drop (end + 2) text))
      go [] e l = absurd (omega (arith, l))
      go (c ∷ t) e l =
          let two : end + 1 + 1 ≡ end + 2 = omega arith in
          let rest : t ≡ drop (end + 2) text = sym (ap (drop 1) e) ∙ drop-drop 1 (end + 1) text ∙ ap (λ (k : ℕ). drop k text) two in
          let whole : drop end text ≡ carriage_return ∷ line_feed ∷ t = front ∙ rw (is.0, e, l) refl in
          let q = parts _ (ap (pieces false) whole ∙ after_line_end t) in
          (q.0, rw (q.1, rest) (next (drop (end + 2) text)))

  pub follows : Follows text here (behind text end)
  follows =
      either_way (leb (length text) end)
      (λ (past : leb (length text) end ≡ true). rw (← at_text_end text end (leb-true (length text) end past)) (nothing (leb-true (length text) end past)))
      (λ (more : leb (length text) end ≡ false). inside (omega (arith, leb-false (length text) end more)))
    where
      nothing : length text ≤ end → (here.fields ≡ []) × (following here.records ≡ records_of (drop end text))
      nothing h =
          let gone : drop end text ≡ [] = drop_of_length-le text {i = end} h in
          let is = parts no_pieces (ap (pieces false) gone ∙ no_pieces_lem) in
          (is.0, rw (is.1, gone) (sym no_records))

      inside : end < length text → Follows text here (behind text end)
      inside h =
          let front = begins text end false h in
          either_way (eqb (byte_at text end) comma)
          (λ k.
          let is : byte_at text end ≡ comma = eqb-true (byte_at text end) comma k in
          rw (← at_comma text end h is) (parts _ (ap (pieces false) (front ∙ rw is refl) ∙ after_comma (drop (end + 1) text))))
          (λ k.
          let other : byte_at text end ≡ comma → ⊥ = eqb-false (byte_at text end) comma k in
          let stop = stop_there (byte_at text end) (drop (end + 1) text) _ (ap (pieces false) (sym front) ∙ behind_it text at) refl in
          rw (← at_line_end text end h other) (line_end_follows front (line_end_lem (byte_at text end) (drop (end + 1) text) stop other)))

-- of a text that is not empty there is a first record, and the others follow it
some_pieces : (b : ℕ) (t : List ℕ) → (pieces false (b ∷ t)).records ≡ [] → is_blank (record_in (pieces false (b ∷ t))) ≡ false
some_pieces b t none =
    either_way (ends_field (b ∷ t) 0 false)
    (λ e. ended_at e)
    (λ e. rw (stays false b t e) refl)
  where
    -- behind a line end there is one more record
    no_last : b ≡ carriage_return → (u : List ℕ) → t ≡ u → byte_at u 0 ≡ line_feed → ⊥
    no_last is [] same l = omega (arith, l)
    no_last is (c ∷ u) same l =
        let one : record_in (pieces false u) ∷ (pieces false u).records ≡ [] =
        sym (ap (λ (p : Pieces). p.records) (ap (pieces false) (rw (is, same, l) refl) ∙ after_line_end u)) ∙ none in
        clash (cc)

    ended_at : ends_field (b ∷ t) 0 false ≡ true → is_blank (record_in (pieces false (b ∷ t))) ≡ false
    ended_at e =
        either_way (eqb b comma)
        (λ k. let is : b ≡ comma = eqb-true b comma k in rw (is, after_comma t) refl)
        (λ k. let ends = line_end_lem b t e (eqb-false b comma k) in absurd (no_last ends.0 t refl ends.1))

pub some_records : (t : List ℕ) → 0 < length t → records_of t ≡ record_in (pieces false t) ∷ following (pieces false t).records
unfolding records_of ended
some_records [] h = absurd (omega (arith, h))
some_records (b ∷ t) h = go (pieces false (b ∷ t)).records refl
  where
    go : (rs : List (List (List ℕ))) → (pieces false (b ∷ t)).records ≡ rs
        → ended (record_in (pieces false (b ∷ t))) rs ≡ record_in (pieces false (b ∷ t)) ∷ following rs
    go [] e = rw (some_pieces b t e) refl
    go (r ∷ rs) e = refl
