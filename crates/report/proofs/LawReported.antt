-- What the promise says: two outcomes that it allows are equal, a text with room for every report is never short, and the bytes that are
-- counted are the report.
use Prim.Native.Nat.{ℕ, ◌≤◌, ◌<◌}
use mathlib.Core.Path.{◌≡◌, sym, ap, ◌∙◌}
use mathlib.Core.Bool.{true, false}
use mathlib.Core.List.{List}
use native.Mathlib.Omega.{arith}
use lib.Dec.{leb}
use lib.ListN.{length, take, drop}
use lib.Seq.{take_at}
use borrow.Author.Tests.{le-leb, lt-leb, leb-true, leb-false}
use Rattle.numerals.proofs.LawLaid.{length_laid, laid_is}
use Rattle.search.proofs.LawTest.{clash, either_way}
use Rattle.std.specs.Prelude.{Result, Ok, Err}
use Rattle.report.specs.declared.NoRoom.{NoRoom}
use Rattle.report.specs.declared.writer.Writer.{Writer}
use Rattle.report.specs.Report.{no_room, written_of, text_after, Wrote}
use Rattle.report.specs.Inner.{Finished, Adds}
use Rattle.numerals.specs.Laid.{Puts}

pub wrote_once : (report : List ℕ) (most : ℕ) (text : List ℕ) (r q : Result ℕ NoRoom) (x y : List ℕ) → Wrote report most text r x
    → Wrote report most text q y → (r ≡ q) × (x ≡ y)
wrote_once report most text r q x y p h =
    let e : r ≡ q = p.answer ∙ sym h.answer in
    (e, p.holds ∙ ap (λ (w : Result ℕ NoRoom). text_after w report text) e ∙ sym h.holds)

-- what is written where there is room, and where there is none
pub written_all : (size room : ℕ) → size ≤ room → written_of size room ≡ Ok size
unfolding written_of
written_all size room h = rw (le-leb _ _ h)

pub written_none : (size room : ℕ) → room < size → written_of size room ≡ Err no_room
unfolding written_of
written_none size room h = rw (lt-leb _ _ h)

pub written_bytes : (size room n : ℕ) → Ok n ≡ written_of size room → n ≡ size
unfolding written_of
written_bytes size room n h =
    either_way (leb size room) (λ (p : leb size room ≡ true). let e : Ok n ≡ Ok size = rw p at h in cc)
    (λ (p : leb size room ≡ false). let e : Ok n ≡ Err no_room = rw p at h in clash (cc))

module _ (report : List ℕ) (most : ℕ) (text text' : List ℕ) where
  pub always_room : (r : Result ℕ NoRoom) → Wrote report most text r text' → most ≤ length text → r ≡ Ok (length report)
  always_room r p h = p.answer ∙ written_all (length report) (length text) (omega (arith, p.fits))

  pub bytes_are : (n : ℕ) → Wrote report most text (Ok n) text' → take n text' ≡ report
  unfolding text_after
  bytes_are n p =
      ap (take n) p.holds ∙ take_at report (drop n text) n (sym (written_bytes (length report) (length text) n p.answer))

-- ---- all that was put stands, or nothing does

module _ {report : List ℕ} {most end : ℕ} {text put left : List ℕ} {r : Result ℕ NoRoom} (puts : Puts report most 0 text end put)
    (ended : Finished end put r left) where
  same_size : length put ≡ length text
  same_size = ap length puts.holds ∙ length_laid 0 report text

  ends_there : end ≡ length report
  ends_there = omega (arith, puts.ends)

  answers : r ≡ written_of (length report) (length text)
  answers = rw (ends_there, same_size) at ended.answer

  all_stands : length report ≤ length text → left ≡ text_after r report text
  unfolding text_after
  all_stands room =
      rw (answers ∙ written_all (length report) (length text) room)
      (ended.all (omega (arith, ends_there, same_size)) ∙ puts.holds ∙ laid_is report text room)

  none_stands : length text < length report → left ≡ text_after r report text
  unfolding text_after
  none_stands short =
      rw (answers ∙ written_none (length report) (length text) short, ← same_size) (ended.none (omega (arith, ends_there, same_size)))

  pub wrote : Wrote report most text r left
  wrote =
      record {
        fits = puts.few;
        answer = answers;
        holds = either_way (leb (length report) (length text)) (λ p. all_stands (leb-true _ _ p)) (λ p. none_stands (leb-false _ _ p));
      }

-- a writer that began with the text, when it is finished
pub finished : {report : List ℕ} {most : ℕ} {text left : List ℕ} {start end : Writer} {r : Result ℕ NoRoom}
    → (start.at ≡ 0) × (start.text.now ≡ text) → Adds report most start end → Finished end.at end.text.now r left → Wrote report most text r left
finished begins adds ended = wrote (rw (begins.0, begins.1) at adds.puts) ended
