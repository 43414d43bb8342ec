-- A line's record: the used readings with places, and then what is left of the three as 0.
use Rattle.std.specs.Prelude.{Result}
use Prim.Native.Nat.{ℕ, ◌+◌, ◌≤◌}
use mathlib.Core.Path.{◌≡◌, refl, sym, ap}
use mathlib.Core.List.{List, [], ◌∷◌, ◌++◌}
use Rattle.std.specs.Prelude.{Option, None, Some}
use native.Mathlib.Omega.{arith}
use lib.Dec.{eqb}
use lib.ListN.{length, get_or}
use Rattle.search.proofs.LawTest.{either_way, clash}
use Rattle.amounts.specs.declared.reading.ReadingFault.{ReadingFault}
use Rattle.shares.specs.declared.share.Reading.{Reading}
use Rattle.shares.specs.declared.share.Reading.TheVariants.{None as NoReading, Hours, Energy, Throughout}
use Rattle.desk.specs.declared.line.Line.{Line}
use Rattle.text.specs.Typed.{line_width, first_reading}
use Rattle.text.specs.declared.line.Readings.{Readings}
use Rattle.text.specs.Written.{record_text, most_record, readings_of, used_of, all_taken, reading_texts, line_texts}
use Rattle.text.specs.Inner.{readings_made, texts_from, whole_numbers, grade_numbers, LinePut}
use Rattle.numerals.specs.Laid.{Puts}
use Rattle.text.proofs.LawUsed.{taken_first}

pub used_bad : (o : Option (List ℕ)) → readings_made o ≡ None → o ≡ None
used_bad None e = refl
used_bad (Some ts) e = clash (cc)

-- ---- how many there are

taken_count : (readings : List (Result ℕ ReadingFault)) (ts : List ℕ) → all_taken readings ≡ Some ts → length ts ≡ length readings
unfolding all_taken
taken_count [] ts e = let none_left : [] ≡ ts = cc in ap length (sym none_left)
taken_count (first ∷ readings) ts e =
    taken_first first readings ts e (λ t us is rest all. omega (arith, ap length all, taken_count readings us rest))

kind_few : (reading : Reading) → length (readings_of reading) ≤ 3
kind_few NoReading = omega arith
kind_few (Hours run production) = omega arith
kind_few (Energy e) = omega arith
kind_few Throughout = omega arith

used_few : (line : Line) → length (used_of line) ≤ 3
used_few line = either_way (eqb line.technique 0) (λ e. rw e (omega arith)) (λ e. rw e (kind_few line.reading))

-- as many as are taken
made_few : (line : Line) (ts : List ℕ) → all_taken (used_of line) ≡ Some ts → length ts ≤ 3
made_few line ts same = omega (arith, taken_count (used_of line) ts same, used_few line)

pub used_most : (line : Line) (readings : Readings) → readings_made (all_taken (used_of line)) ≡ Some readings → readings.used ≤ 3
used_most line readings made = go (all_taken (used_of line)) refl
  where
    go : (o : Option (List ℕ)) → all_taken (used_of line) ≡ o → readings.used ≤ 3
    go None same = let z : None ≡ Some readings = rw same at made in clash (cc)
    go (Some ts) same =
        let is : readings_made (Some ts) ≡ Some readings = rw same at made in
        let count : length ts ≡ readings.used = cc in
        omega (arith, count, made_few line ts same)

-- ---- the fields

module _ (line : Line) where
  -- the numbers of its record, with these as a, b, c
  abbrev pub numbers : (a b c : ℕ) → List ℕ
  numbers a b c = whole_numbers line ++ (a ∷ b ∷ c ∷ grade_numbers line.grades)

  fields_are : (ts : List ℕ) → length ts ≤ 3
      → texts_from first_reading (first_reading + length ts) 0 (numbers (get_or ts 0 0) (get_or ts 1 0) (get_or ts 2 0)) ≡ line_texts line ts
  unfolding texts_from line_texts reading_texts
  fields_are [] h = refl
  fields_are (a ∷ []) h = refl
  fields_are (a ∷ b ∷ []) h = refl
  fields_are (a ∷ b ∷ c ∷ []) h = refl
  fields_are (a ∷ b ∷ c ∷ d ∷ ts) h = absurd (omega (arith, h))

  pub line_put : (readings : Readings) (at : ℕ) (text : List ℕ) (r : ℕ) (text' : List ℕ) → readings_made (all_taken (used_of line)) ≡ Some readings
      → Puts (record_text (texts_from first_reading (first_reading + readings.used) 0 (numbers readings.a readings.b readings.c))) (most_record line_width)
      at text r text' → LinePut line at text r text'
  line_put readings at text r text' made puts = go (all_taken (used_of line)) refl
    where
      go : (o : Option (List ℕ)) → all_taken (used_of line) ≡ o → LinePut line at text r text'
      go None same = let z : None ≡ Some readings = rw same at made in clash (cc)
      go (Some ts) same =
          let is : readings_made (Some ts) ≡ Some readings = rw same at made in
          let count : length ts ≡ readings.used = cc in
          let first : get_or ts 0 0 ≡ readings.a = cc in
          let second : get_or ts 1 0 ≡ readings.b = cc in
          let third : get_or ts 2 0 ≡ readings.c = cc in
          record { thousandths = ts; taken = same; puts = rw (← count, ← first, ← second, ← third, fields_are ts (made_few line ts same)) at puts }
