-- What is handed back of a text: all of the report, or nothing. Assumes nothing.
use Rattle.std.proofs.Common.{◌≡◌, ℕ, ◌≤◌, List, [], length, take, Ok, Err, true, false, refl, arith}
use Rattle.std.specs.Prelude.{leb}
use Rattle.search.proofs.LawTest.{clash, either_way}
use Rattle.report.specs.declared.NoRoom.{NoRoom}
use Rattle.report.specs.Report.{written_of, no_room, Wrote}
use Rattle.report.proofs.LawReported.{bytes_are, written_bytes}
use borrow.Author.Tests.{le-leb}
use Rattle.folder.specs.Given.{whole_in}

-- in a text that has room for any report all of it stands
pub always_whole : (report : List ℕ) (most room : ℕ) → length report ≤ most → most ≤ room → whole_in report room ≡ report
always_whole report most room fits roomy = rw (le-leb (length report) room (omega (arith, fits, roomy)))

module _ (report : List ℕ) (most : ℕ) (text text' : List ℕ) where
  pub all_told : (n : ℕ) → Wrote report most text (Ok n) text' → take n text' ≡ whole_in report (length text)
  unfolding written_of
  all_told n wrote =
      either_way (leb (length report) (length text))
      (λ (p : leb (length report) (length text) ≡ true). rw p (bytes_are report most text text' n wrote))
      (λ (p : leb (length report) (length text) ≡ false). let e : Ok n ≡ Err no_room = rw p at wrote.answer in clash (cc))

  pub size_told : (n : ℕ) → Wrote report most text (Ok n) text' → n ≡ length (take n text')
  size_told n wrote =
      rw (bytes_are report most text text' n wrote) (written_bytes (length report) (length text) n wrote.answer)

  pub none_told : (e : NoRoom) → Wrote report most text (Err e) text' → [] ≡ whole_in report (length text)
  unfolding written_of
  none_told e wrote =
      either_way (leb (length report) (length text))
      (λ (p : leb (length report) (length text) ≡ true). let h : Err e ≡ Ok (length report) = rw p at wrote.answer in clash (cc))
      (λ (p : leb (length report) (length text) ≡ false). rw p refl)
