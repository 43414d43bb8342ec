-- What the answer for the text tells: below 65,536 it is the report's length, which has room; else there is no room and it is rule 3's. And
-- two outcomes that the promise allows are equal.
use Prim.Native.Nat.{ℕ, ◌*◌, ◌≤◌, ◌<◌}
use mathlib.Core.Path.{◌≡◌, sym, ap, ◌∙◌}
use mathlib.Core.List.{List}
use native.Mathlib.Omega.{arith}
use lib.ListN.{length}
use borrow.Author.Tests.{lt-leb}
use Rattle.desk.specs.Lent.{Lent}
use Rattle.report.specs.Report.{report_of, most_text, written_of}
use Rattle.report.proofs.LawReported.{wrote_once, written_all}
use Rattle.answers.specs.Answer.{number_unit}
use Rattle.checkraven_c.specs.TextCode.{written_code, written, Reports}

module _ (f : Lent) (text : List ℕ) (r : ℕ) (text' : List ℕ) (p : Reports f text r text') where
  -- with room
  pub bytes_written : length (report_of f) ≤ length text → (r ≡ length (report_of f)) × (r < number_unit)
  unfolding written_code
  bytes_written h =
      let e : r ≡ length (report_of f) = p.answer ∙ ap written_code (written_all (length (report_of f)) (length text) h) in
      (e, omega (arith, p.reported.fits))

  -- without
  pub none_written : length text < length (report_of f) → r ≡ 3 * number_unit
  unfolding written_code written_of
  none_written h = p.answer ∙ rw (lt-leb _ _ h)

  -- and a text with room for every report has it
  pub most_text_lem : most_text ≤ length text → r ≡ length (report_of f)
  most_text_lem h = (bytes_written (omega (arith, p.reported.fits))).0

pub reports_once : (f : Lent) (text : List ℕ) (r q : ℕ) (x y : List ℕ) → Reports f text r x → Reports f text q y → (r ≡ q) × (x ≡ y)
reports_once f text r q x y p h =
    (p.answer ∙ sym h.answer, (wrote_once (report_of f) most_text text (written f text) (written f text) x y p.reported h.reported).1)
