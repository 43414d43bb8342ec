-- What a conversion's one number tells: below 65,536 it counts the bytes that were given. So no refusal looks like a count.
use Rattle.std.specs.Prelude.{Err}
use Prim.Native.Nat.{ℕ, zero, suc, ◌+◌, ◌≤◌, ◌<◌}
use mathlib.Core.Path.{◌≡◌, refl, ap}
use mathlib.Core.List.{List, [], ◌∷◌}
use Rattle.std.specs.Prelude.{Option, None, Some}
use native.Mathlib.Omega.{arith}
use lib.Dec.{leb}
use lib.ListN.{length}
use borrow.Author.Tests.{leb-true}
use Rattle.search.proofs.LawTest.{either_way, clash}
use Rattle.headers.specs.Sheet.{line_count, most_lines}
use Rattle.answers.specs.Answer.{answer_line, number_unit, code_of}
use Rattle.answers.specs.declared.answer.FileFault.TheVariants.{SheetMalformed, TextMalformed, ResultTooShort}
use Rattle.answers.specs.declared.answer.LineFault.TheVariants.{BadReading}
use Rattle.answers.specs.declared.answer.Refusal.{Refusal}
use Rattle.answers.specs.declared.answer.Refusal.TheVariants.{File, Line as OnLine}
use Rattle.answers.proofs.LawCode.{file_some, line_some}
use Rattle.desk.specs.Sheet.{sheet_ok}
use Rattle.desk.proofs.LawTable.{lines_few}
use Rattle.desk.specs.declared.line.Line.{Line}
use Rattle.text.specs.Typed.{TypedSheet, typed_sheet}
use Rattle.text.specs.Convert.{Made, Gives, Refuses, by_room, converted_code}
use Rattle.text.specs.Read.{binary_of, sheet_of_text}
use Rattle.text.specs.Written.{record_text, used_of, all_taken, line_texts, lines_from, header_texts, in_front, with_line, lines_text, text_of_sheet}

refusal_code : (o : Refusal) → number_unit ≤ code_of (Err o)
refusal_code (File k) = omega (arith, file_some k)
refusal_code (OnLine k n) = omega (arith, line_some k)

-- n counts the bytes that were given, which had room
pub record Counts (made : Made) (room n : ℕ) : Type 0 where
  pub bytes : List ℕ
  pub gives : made ≡ Gives bytes
  pub fits : length bytes ≤ room
  pub count : n ≡ length bytes

module _ (made : Made) (room : ℕ) where
  below_counts : converted_code (by_room made room) < number_unit → Counts made room (converted_code (by_room made room))
  below_counts h = go made refl h
    where
      go : (m : Made) → made ≡ m → converted_code (by_room m room) < number_unit → Counts made room (converted_code (by_room m room))
      go (Refuses o) is h =
          let large : number_unit ≤ code_of (Err o) = refusal_code o in
          absurd (omega (arith, h, large))
      go (Gives bytes) is h =
          either_way (leb (length bytes) room)
          (λ l. record { bytes = bytes; gives = is; fits = leb-true (length bytes) room l; count = rw l refl })
          (λ l. let low : code_of (Err (File ResultTooShort)) < number_unit = rw l at h in absurd (omega (arith, low)))

-- ---- the two conversions

pub made_refused : (text : List ℕ) (refusal : Refusal) → sheet_of_text text ≡ Refuses refusal → refusal ≡ File TextMalformed
unfolding sheet_of_text
made_refused text refusal e = go (typed_sheet text) e
  where
    go : (typed : Option TypedSheet) → binary_of typed ≡ Refuses refusal → refusal ≡ File TextMalformed
    go None h = cc
    go (Some sheet) h = clash (cc)

front_refused : (bytes : List ℕ) (made : Made) (o : Refusal) → in_front bytes made ≡ Refuses o → made ≡ Refuses o
front_refused bytes (Gives others) o e = clash (cc)
front_refused bytes (Refuses r) o e = e

pub read_counts : (text : List ℕ) (room : ℕ) → converted_code (by_room (sheet_of_text text) room) < number_unit
    → Counts (sheet_of_text text) room (converted_code (by_room (sheet_of_text text) room))
read_counts text room h = below_counts (sheet_of_text text) room h

pub written_counts : (s : List ℕ) (room : ℕ) → converted_code (by_room (text_of_sheet s) room) < number_unit
    → Counts (text_of_sheet s) room (converted_code (by_room (text_of_sheet s) room))
written_counts s room h = below_counts (text_of_sheet s) room h

-- ---- the line of a refusal is small

lines_count : (s : List ℕ) (i n : ℕ) → length (lines_from s i n) ≡ n
unfolding lines_from
lines_count s i zero = refl
lines_count s i (suc n) = ap suc (lines_count s (suc i) n)

lines_line : (k : ℕ) (lines : List Line) (o : Refusal) → lines_text k lines ≡ Refuses o → answer_line (Err o) ≤ k + length lines
unfolding lines_text
lines_line k [] o e = clash (cc)
lines_line k (line ∷ lines) o e = go (all_taken (used_of line)) (lines_line (k + 1) lines o) e
  where
    go : (readings : Option (List ℕ)) → (lines_text (k + 1) lines ≡ Refuses o → answer_line (Err o) ≤ k + 1 + length lines)
        → with_line k line readings (lines_text (k + 1) lines) ≡ Refuses o → answer_line (Err o) ≤ k + length (line ∷ lines)
    go None others h =
        let is : OnLine BadReading (k + 1) ≡ o = cc in
        omega (arith, ap (λ (r : Refusal). answer_line (Err r)) is)
    go (Some ts) others h = omega (arith, others (front_refused (record_text (line_texts line ts)) (lines_text (k + 1) lines) o h))

pub written_line_small : (s : List ℕ) (o : Refusal) → text_of_sheet s ≡ Refuses o → answer_line (Err o) ≤ most_lines
unfolding text_of_sheet
written_line_small s o e =
    let lines = lines_text 0 (lines_from s 0 (line_count s)) in
    either_way (sheet_ok s)
    (λ p.
    let most = lines_line 0 (lines_from s 0 (line_count s)) o (front_refused (record_text (header_texts s)) lines o (rw p at e)) in
    omega (arith, most, lines_count s 0 (line_count s), lines_few s p))
    (λ p.
    let is : File SheetMalformed ≡ o = (let z : Refuses (File SheetMalformed) ≡ Refuses o = rw p at e in cc) in
    omega (arith, ap (λ (r : Refusal). answer_line (Err r)) is))
