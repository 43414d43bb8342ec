-- The records of a sheet's lines laid one after the other: what is laid stands before those of the lines that are left.
use Prim.Native.Nat.{ℕ, suc, ◌+◌, ◌-◌, ◌*◌, ◌≤◌, ◌<◌}
use mathlib.Core.Path.{◌≡◌, refl, sym, ap, ◌∙◌}
use mathlib.Core.Bool.{true}
use mathlib.Core.List.{List, [], ◌∷◌, ◌++◌, append_assoc, append-nil}
use Rattle.std.specs.Prelude.{Option, None, Some, Ok, Err, ok_or}
use native.Mathlib.Numerals.{add-one}
use native.Mathlib.Omega.{arith}
use lib.ListN.{length, length-append}
use Rattle.headers.specs.Sheet.{line_count, most_lines}
use Rattle.answers.specs.declared.answer.LineFault.TheVariants.{BadReading}
use Rattle.answers.specs.declared.answer.Refusal.TheVariants.{Line as OnLine}
use Rattle.numerals.specs.Laid.{laid}
use Rattle.numerals.proofs.LawLaid.{laid_more, laid_none, length_laid}
use Rattle.search.proofs.LawTest.{clash}
use Rattle.desk.specs.Sheet.{sheet_ok}
use Rattle.desk.specs.Line.{line_of}
use Rattle.desk.specs.Found.{sheet_line}
use Rattle.desk.specs.declared.line.Line.{Line}
use Rattle.desk.proofs.LawFound.{right_line}
use Rattle.text.specs.Typed.{line_width}
use Rattle.text.specs.Convert.{Made, Gives, Refuses}
use Rattle.text.specs.Written.{most_record, record_text, used_of, all_taken, line_texts, lines_from, in_front, lines_text}
use Rattle.text.specs.Inner.{LinePut, LinesPut}

-- ---- bytes in front

no_front : (made : Made) → in_front [] made ≡ made
no_front (Gives bytes) = refl
no_front (Refuses refusal) = refl

two_fronts : (a b : List ℕ) (made : Made) → in_front a (in_front b made) ≡ in_front (a ++ b) made
two_fronts a b (Gives bytes) = ap Gives (sym (append_assoc a b bytes))
two_fronts a b (Refuses refusal) = refl

-- ---- a line's answer, or else the refusal

pub some_or : {T E : Type 0} (o : Option T) (refusal : E) (x : T) → Ok x ≡ ok_or o refusal → o ≡ Some x
some_or None refusal x h = clash (cc)
some_or (Some y) refusal x h = cc

pub none_or : {T E : Type 0} (o : Option T) (refusal said : E) → Err said ≡ ok_or o refusal → (o ≡ None) × (refusal ≡ said)
none_or None refusal said h = (refl, cc)
none_or (Some y) refusal said h = clash (cc)

module _ (s : List ℕ) (at : ℕ) (text : List ℕ) where
  abbrev all : Made
  all = lines_text 0 (lines_from s 0 (line_count s))

  -- line i and those after it
  abbrev left : (i : ℕ) → Made
  left i = lines_text i (lines_from s i (line_count s - i))

  pub record WrittenSoFar (text' : List ℕ) (next i : ℕ) : Type 0 where
    pub done : List ℕ
    pub within : i ≤ line_count s
    pub few : length done ≤ most_record line_width * i
    pub ends : next ≡ at + length done
    pub holds : text' ≡ laid at done text
    pub whole : all ≡ in_front done (left i)

  pub written_start : WrittenSoFar text at 0
  written_start =
      let none-gone : line_count s - 0 ≡ line_count s = omega arith in
      record {
        done = [];
        within = omega arith;
        few = omega arith;
        ends = omega arith;
        holds = laid_none at text;
        whole = rw none-gone (sym (no_front all));
      }

  module _ (text' : List ℕ) (next i : ℕ) (so_far : WrittenSoFar text' next i) where
    pub written_length : length text' ≡ length text
    written_length = ap length so_far.holds ∙ length_laid at _ text

    pub written_done : line_count s ≤ most_lines → line_count s ≤ i → LinesPut s at text next text'
    unfolding lines_from lines_text
    written_done few past =
        let none_left : line_count s - i ≡ 0 = omega (arith, past) in
        let given : all ≡ Gives so_far.done = so_far.whole ∙ rw (none_left, append-nil so_far.done) refl in
        record {
          bytes = so_far.done;
          gives = given;
          puts = record { ends = so_far.ends; few = omega (arith, so_far.few, so_far.within, few); holds = so_far.holds };
        }

    module _ (more : i < line_count s) where
      opened : lines_from s i (line_count s - i) ≡ line_of s i ∷ lines_from s (i + 1) (line_count s - (i + 1))
      unfolding lines_from
      opened =
          let one : line_count s - i ≡ suc (line_count s - (i + 1)) = omega (arith, more) in
          rw (one, add-one i) refl

      pub written_bad : all_taken (used_of (line_of s i)) ≡ None → all ≡ Refuses (OnLine BadReading (i + 1))
      unfolding lines_text
      written_bad bad = so_far.whole ∙ rw (opened, bad) refl

      pub written_step : (end : ℕ) (text'' : List ℕ) → LinePut (line_of s i) next text' end text'' → WrittenSoFar text'' end (i + 1)
      unfolding lines_text
      written_step end text'' put =
          let bytes = record_text (line_texts (line_of s i) put.thousandths) in
          let size : length (so_far.done ++ bytes) ≡ length so_far.done + length bytes = length-append so_far.done bytes in
          record {
            done = so_far.done ++ bytes;
            within = omega (arith, more);
            few = omega (arith, size, so_far.few, put.puts.few);
            ends = omega (arith, size, so_far.ends, put.puts.ends);
            holds = put.puts.holds ∙ rw (so_far.ends, so_far.holds) (laid_more at so_far.done bytes text);
            whole = so_far.whole ∙ rw (opened, put.taken) (two_fronts so_far.done bytes (left (i + 1)));
          }

-- ---- the line that is read is the one that is meant

module _ (s : List ℕ) (i : ℕ) (ok : sheet_ok s ≡ true) (inside : i < line_count s) where
  -- a right sheet has every line that it counts
  pub never : {A : Type 0} → sheet_line s i ≡ None → A
  never gone = let z : Some (line_of s i) ≡ None = sym (right_line s i inside ok) ∙ gone in clash (cc)

  pub line_is : (line : Line) → sheet_line s i ≡ Some line → line ≡ line_of s i
  line_is line there = let z : Some line ≡ Some (line_of s i) = sym there ∙ right_line s i inside ok in cc
