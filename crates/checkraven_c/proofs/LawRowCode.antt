-- What the answers for the inspector's screen tell: 24 bytes of a row, 0 where no book has one, or rule 3; which book has it; and two outcomes
-- that the promise allows are equal.
use Prim.Native.Nat.{ℕ, ◌*◌, ◌≤◌, ◌<◌}
use mathlib.Core.Path.{◌≡◌, sym, ap, ◌∙◌}
use mathlib.Core.List.{List, [], ◌++◌}
use mathlib.Core.Logic.{◌⊎◌, inl, inr, ⊎_elim}
use native.Mathlib.Omega.{arith}
use lib.Dec.{leb}
use lib.ListN.{length, drop}
use borrow.Author.Tests.{leb-true, leb-false}
use Rattle.search.proofs.LawTest.{either_way}
use Rattle.answers.specs.Answer.{number_unit}
use Rattle.desk.specs.Books.{row_bytes, row_number}
use Rattle.desk.specs.declared.key.Key.{Key}
use Rattle.desk.proofs.LawBooks.{whole_or_none, number_few}
use Rattle.report.specs.Report.{text_after}
use Rattle.report.specs.Row.{most_row_bytes}
use Rattle.report.proofs.LawReported.{wrote_once, written_all, written_none}
use Rattle.checkraven_c.specs.TextCode.{written_code}
use Rattle.checkraven_c.specs.RowCode.{row_written, ShowsRow}

module _ (own book : List ℕ) (k : Key) (row : List ℕ) (r : ℕ) (row' : List ℕ) (p : ShowsRow own book k row r row') where
  -- with room: how many bytes, and the row's bytes with what was there past them
  pub row_copied : length (row_bytes own book k) ≤ length row
      → (r ≡ length (row_bytes own book k)) × (row' ≡ row_bytes own book k ++ drop (length (row_bytes own book k)) row)
  unfolding written_code text_after
  row_copied room =
      let all = written_all (length (row_bytes own book k)) (length row) room in
      (p.answer ∙ ap written_code all, rw all at p.shown.holds)

  -- without
  pub row_short : length row < length (row_bytes own book k) → r ≡ 3 * number_unit
  unfolding written_code
  row_short short = p.answer ∙ ap written_code (written_none (length (row_bytes own book k)) (length row) short)

  -- no row: nothing is copied, and every lent byte keeps its value
  pub row_none : row_bytes own book k ≡ [] → (r ≡ 0) × (row' ≡ row)
  row_none none =
      let copied = row_copied (rw none (omega arith)) in
      (copied.0 ∙ ap length none, copied.1 ∙ rw none)

  -- 24 bytes, none, or no room
  pub row_answer : (r ≡ most_row_bytes) ⊎ ((r ≡ 0) ⊎ (r ≡ 3 * number_unit))
  row_answer =
      ⊎_elim
      (λ (whole : length (row_bytes own book k) ≡ most_row_bytes).
      either_way (leb most_row_bytes (length row))
      (λ room. inl ((row_copied (omega (arith, whole, leb-true most_row_bytes (length row) room))).0 ∙ whole))
      (λ short. inr (inr (row_short (omega (arith, whole, leb-false most_row_bytes (length row) short))))))
      (λ (none : row_bytes own book k ≡ []). inr (inl (row_none none).0))
      (whole_or_none own book k)

pub shows_once : (own book : List ℕ) (k : Key) (row : List ℕ) (r q : ℕ) (x y : List ℕ) → ShowsRow own book k row r x → ShowsRow own book k row q y
    → (r ≡ q) × (x ≡ y)
shows_once own book k row r q x y p h =
    let written = row_written own book k row in
    (p.answer ∙ sym h.answer, (wrote_once (row_bytes own book k) most_row_bytes row written written x y p.shown h.shown).1)

-- a number of a row is below 65,536
pub number_small : (own book : List ℕ) (k : Key) → row_number own book k < number_unit
number_small own book k = omega (arith, number_few own book k)
