-- A record read field by field: the numbers so far stand before those of the rest of the record, and what is left off counts as 0.
use Prim.Native.Nat.{ℕ, zero, suc, ◌+◌, ◌-◌, ◌≤◌, ◌<◌}
use mathlib.Core.Path.{◌≡◌, refl, sym, ap, ◌∙◌}
use mathlib.Core.Bool.{false}
use mathlib.Core.List.{List, [], ◌∷◌, ◌++◌, append_assoc, append-nil}
use Rattle.std.specs.Prelude.{Option, None, Some}
use native.Mathlib.Numerals.{add-one}
use native.Mathlib.Omega.{arith}
use lib.ListN.{length, take, drop, get_or, set, replicate, length-set, length-drop, drop_of_length-le}
use lib.Seq.{drop-cons, take-suc-set, length-take-le}
use borrow.Rule.Slice.PartMut.{put_mid}
use borrow.Author.Tests.{ltb-true, ltb-false}
use lib.Dec.{ltb}
use Rattle.search.proofs.LawTest.{either_way, clash}
use Rattle.records.specs.Records.{Pieces, pieces, record_in, field_end}
use Rattle.records.specs.Follow.{behind}
use Rattle.records.specs.declared.field.Behind.{Behind}
use Rattle.records.specs.declared.field.Behind.TheVariants.{Field, Record}
use Rattle.records.proofs.LawField.{Follows, follows}
use Rattle.text.specs.declared.field.FieldRead.{FieldRead}
use Rattle.text.specs.Typed.{followed, field_number, numbers_in}
use Rattle.text.specs.Inner.{with_number, field_read, Ended, RecordFound}

-- ---- what a field that was read says

number_read : (typed : Option ℕ) (f : Behind) (read : FieldRead) → with_number typed f ≡ Some read → (typed ≡ Some read.number) × (f ≡ read.follows)
number_read None f read e = clash (cc)
number_read (Some n) f read e = (cc, cc)

broken_read : (typed : Option ℕ) (f : Behind) → with_number typed f ≡ None → typed ≡ None
broken_read None f e = refl
broken_read (Some n) f e = clash (cc)

-- ---- what is left off

-- where none of these is needed
pub none_needed : (takes : List ℕ) → numbers_in 0 takes [] ≡ Some (replicate (length takes) 0)
unfolding numbers_in
none_needed [] = refl
none_needed (t ∷ takes) = rw (none_needed takes) refl

-- where one is
one_needed : (needed : ℕ) (takes : List ℕ) → 0 < needed → 0 < length takes → numbers_in needed takes [] ≡ None
unfolding numbers_in
one_needed zero takes l asked = absurd (omega arith)
one_needed (suc needed) [] l asked = absurd (omega arith)
one_needed (suc needed) (t ∷ takes) l asked = refl

-- the places behind so many numbers are cleared
pub cleared_behind : (numbers : List ℕ) (from : ℕ) {zeros : List ℕ} → from ≤ length numbers
    → zeros ≡ replicate (length (take (length numbers - from) (drop from numbers))) 0
    → put_mid from (length numbers - from) numbers zeros ≡ take from numbers ++ replicate (length numbers - from) 0
cleared_behind numbers from {zeros} inside are =
    let behind : length (drop from numbers) ≡ length numbers - from = length-drop from numbers in
    let all : length (take (length numbers - from) (drop from numbers)) ≡ length numbers - from = length-take-le (length numbers - from) (drop from numbers) (omega arith) in
    let past : drop (length numbers - from) (drop from numbers) ≡ [] = drop_of_length-le (drop from numbers) {i = length numbers - from} (omega arith) in
    let zeros-left : List ℕ = replicate (length numbers - from) 0 in
    rw (are, all, past, append-nil zeros-left) refl

-- ---- the numbers so far

abbrev ahead_of : (numbers : List ℕ) (others : Option (List ℕ)) → Option (List ℕ)
ahead_of numbers None = None
ahead_of numbers (Some others) = Some (numbers ++ others)

one_ahead : (numbers : List ℕ) (n : ℕ) (others : Option (List ℕ)) → ahead_of numbers (followed (Some n) others) ≡ ahead_of (numbers ++ (n ∷ [])) others
one_ahead numbers n None = refl
one_ahead numbers n (Some others) = ap Some (sym (append_assoc numbers (n ∷ []) others))

none_ahead : (others : Option (List ℕ)) → ahead_of [] others ≡ others
none_ahead None = refl
none_ahead (Some others) = refl

module _ (text : List ℕ) (at needed : ℕ) (takes : List ℕ) where
  abbrev from : (place : ℕ) → Pieces
  from place = pieces false (drop place text)

  -- so far j numbers, and the record goes on at `next`
  pub record SoFar (numbers : List ℕ) (next j : ℕ) : Type 0 where
    pub size : length numbers ≡ length takes
    pub within : j ≤ length takes
    pub rest : numbers_in needed takes (record_in (from at))
        ≡ ahead_of (take j numbers) (numbers_in (needed - j) (drop j takes) (record_in (from next)))
    pub records : (from at).records ≡ (from next).records

  pub record_start : (numbers : List ℕ) → length numbers ≡ length takes → SoFar numbers at 0
  record_start numbers size =
      let all : needed - 0 ≡ needed = omega arith in
      record { size = size; within = omega arith; rest = rw all (sym (none_ahead _)); records = refl }

  module _ (numbers : List ℕ) (next j : ℕ) (so_far : SoFar numbers next j) where
    -- all numbers were read, and the record goes on
    pub record_long : length takes ≤ j → numbers_in needed takes (record_in (from at)) ≡ None
    unfolding numbers_in
    record_long l = so_far.rest ∙ rw (drop_of_length-le takes {i = j} l) refl

    module _ (more : j < length takes) where
      abbrev takes_j : ℕ
      takes_j = get_or takes j 0

      here : drop j takes ≡ takes_j ∷ drop (j + 1) takes
      here = drop-cons takes j 0 more ∙ rw (add-one j) refl

      opened : numbers_in needed takes (record_in (from at))
          ≡ ahead_of (take j numbers) (followed (field_number takes_j (from next).field) (numbers_in (needed - (j + 1)) (drop (j + 1) takes) (from next).fields))
      unfolding numbers_in
      opened = let less : needed - j - 1 ≡ needed - (j + 1) = omega arith in so_far.rest ∙ rw (here, less) refl

      pub record_broken : field_read text next takes_j ≡ None → numbers_in needed takes (record_in (from at)) ≡ None
      unfolding field_read
      record_broken t = opened ∙ rw (broken_read (field_number takes_j (from next).field) (behind text (field_end text next)) t) refl

      module _ (read : FieldRead) (found : field_read text next takes_j ≡ Some read) (after : ℕ) where
        abbrev n : ℕ
        n = read.number

        is_read : (field_number takes_j (from next).field ≡ Some n) × (behind text (field_end text next) ≡ read.follows)
        unfolding field_read
        is_read = number_read (field_number takes_j (from next).field) (behind text (field_end text next)) read found

        -- one more number stands before the rest
        one_more : numbers_in needed takes (record_in (from at))
            ≡ ahead_of (take (j + 1) (set numbers j n)) (numbers_in (needed - (j + 1)) (drop (j + 1) takes) (from next).fields)
        one_more =
            let taken : take (j + 1) (set numbers j n) ≡ take j numbers ++ (n ∷ []) =
            rw (add-one j) (take-suc-set numbers j n (omega (arith, more, so_far.size))) in
            opened ∙ rw (is_read.0, one_ahead (take j numbers) n (numbers_in (needed - (j + 1)) (drop (j + 1) takes) (from next).fields), taken) refl

        pub record_step : read.follows ≡ Field after → SoFar (set numbers j n) after (j + 1)
        record_step on =
            let g : Follows text (from next) (Field after) = rw (is_read.1 ∙ on) at (follows text next) in
            record {
              size = length-set numbers j n ∙ so_far.size;
              within = omega (arith, more);
              rest = one_more ∙ rw g.0 refl;
              records = so_far.records ∙ g.1;
            }

        -- the record's last field: what is left off counts as 0, unless it is needed
        pub record_ended : needed ≤ length takes → read.follows ≡ Record after → (r : Option ℕ) (numbers' : List ℕ)
            → Ended (j + 1) needed after (set numbers j n) r numbers' → RecordFound text at needed takes r numbers'
        record_ended asked over r numbers' ended =
            let g : Follows text (from next) (Record after) = rw (is_read.1 ∙ over) at (follows text next) in
            let rest : numbers_in needed takes (record_in (from at))
            ≡ ahead_of (take (j + 1) (set numbers j n)) (numbers_in (needed - (j + 1)) (drop (j + 1) takes) []) = one_more ∙ rw g.0 refl in
            either_way (ltb (j + 1) needed)
            (λ t.
            let few = ltb-true (j + 1) needed t in
            let left = one_needed (needed - (j + 1)) (drop (j + 1) takes) (omega arith) (omega (arith, length-drop (j + 1) takes)) in
            let broken : r ≡ None = ended.answer ∙ rw t refl in
            rw broken (rest ∙ rw left refl))
            (λ t.
            let enough = ltb-false (j + 1) needed t in
            let none_left : needed - (j + 1) ≡ 0 = omega arith in
            let size : length (set numbers j n) - (j + 1) ≡ length (drop (j + 1) takes) = omega (arith, length-set numbers j n, so_far.size, length-drop (j + 1) takes) in
            let holds : numbers' ≡ take (j + 1) (set numbers j n) ++ replicate (length (drop (j + 1) takes)) 0 = rw size at (ended.holds enough) in
            let found : r ≡ Some after = ended.answer ∙ rw t refl in
            rw found (rest ∙ rw (none_left, none_needed (drop (j + 1) takes), holds) refl, rw so_far.records g.1))
