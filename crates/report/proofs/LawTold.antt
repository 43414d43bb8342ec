-- What is told of the desk's answer by its code is the report: figures by the two tables, which are the first cells of the results, and a
-- refusal by its number and line.
use Prim.Native.Nat.{ℕ, ◌≤◌, ◌<◌, min}
use mathlib.Core.Path.{◌≡◌, refl, sym, ap, ◌∙◌}
use mathlib.Core.Bool.{false}
use mathlib.Core.List.{List}
use native.Mathlib.Omega.{arith}
use lib.Dec.{eqb}
use lib.ListN.{length, take, drop}
use lib.Seq.{take_at}
use borrow.Author.Tests.{ne_eqb}
use Rattle.search.proofs.LawTest.{clash}
use Rattle.little.specs.Read.{AreBytes}
use Rattle.settle.proofs.LawShown.{shown_length}
use Rattle.answers.proofs.LawCode.{code_zero, code_number, code_line}
use Rattle.answers.specs.Answer.{number_unit, code_of}
use Rattle.answers.specs.declared.answer.FileFault.TheVariants.{OwnBookMalformed, BookMalformed, FugitiveMalformed, SheetMalformed, TextMalformed, ResultTooShort}
use Rattle.answers.specs.declared.answer.LineFault.{LineFault}
use Rattle.std.specs.Prelude.{⊤, Result, Ok, Err}
use Rattle.answers.specs.declared.answer.Refusal.{Refusal}
use Rattle.answers.specs.declared.answer.Refusal.TheVariants.{File, Line}
use Rattle.headers.specs.Sheet.{line_count, most_lines}
use Rattle.desk.specs.Lent.{Lent}
use Rattle.desk.specs.Account.{line_outcome}
use Rattle.desk.specs.Cells.{table_size}
use Rattle.desk.specs.Declare.{shown_after, Declared}
use Rattle.desk.specs.Inner.{Ready}
use Rattle.desk.proofs.LawTable.{ready, lines_few}
use Rattle.desk.proofs.LawDemands.{accepted, answer_line_small}
use Rattle.desk.proofs.LawDeclare.{first_cells, settles}
use Rattle.report.specs.Report.{exact_of, shown_of, report_for}
use Rattle.report.specs.Inner.{answer_text}

module _ (f : Lent) (exact shown : List ℕ) (answer : Result ⊤ Refusal) (exact' shown' : List ℕ) (d : Declared f exact shown answer exact' shown') where
  is_ready : answer ≡ Ok tt → Ready f (min (length exact) (length shown))
  is_ready e = ready f _ (accepted f _ (sym d.demand1.answer ∙ e)).0

  -- a sheet that has figures has few lines
  pub told_few : code_of answer ≡ 0 → line_count f.sheet ≤ most_lines
  told_few z = lines_few f.sheet (is_ready (code_zero answer z)).sheet

  -- the first cells of both results are the tables
  module _ (ok : answer ≡ Ok tt) where
    first_exact_lem : take (table_size (line_count f.sheet)) exact' ≡ exact_of f
    first_exact_lem = first_cells (line_count f.sheet) (line_outcome f) exact exact' (rw ok at d.tables.table)

    first_shown_lem : AreBytes f.sources.fugitive → take (table_size (line_count f.sheet)) shown' ≡ shown_of f
    unfolding shown_after
    first_shown_lem bytes =
        let n = line_count f.sheet in
        let size = shown_length (settles f (is_ready ok).sources bytes (is_ready ok).sheet) in
        let shows = rw ok at d.tables.shows in
        ap (take (table_size n)) shows ∙ take_at (shown_of f) (drop (table_size n) shown) (table_size n) (omega (arith, size))

  -- a refused line's code is not 0, and its line is small
  module _ (k : LineFault) (line : ℕ) (e : answer ≡ Err (Line k line)) where
    small : line < number_unit
    small = omega (arith, rw (← d.demand1.answer, e) at (answer_line_small f (min (length exact) (length shown))))

    not_zero : eqb (code_of (Err (Line k line))) 0 ≡ false
    not_zero =
        ne_eqb (code_of (Err (Line k line))) 0
        (λ (z : code_of (Err (Line k line)) ≡ 0). let same = code_zero (Err (Line k line)) z in clash (cc))

  pub told_is : AreBytes f.sources.fugitive → answer_text (code_of answer) f.sheet exact' shown' ≡ report_for answer f
  unfolding answer_text report_for
  told_is bytes = go answer refl
    where
      go : (o : Result ⊤ Refusal) → answer ≡ o → answer_text (code_of o) f.sheet exact' shown' ≡ report_for o f
      go (Ok _) e = rw (first_exact_lem e, first_shown_lem e bytes) refl
      go (Err (File OwnBookMalformed)) e = refl
      go (Err (File BookMalformed)) e = refl
      go (Err (File FugitiveMalformed)) e = refl
      go (Err (File SheetMalformed)) e = refl
      go (Err (File TextMalformed)) e = refl
      go (Err (File ResultTooShort)) e = refl
      go (Err (Line k line)) e =
          let r = Err (Line k line) in
          rw (not_zero k line e, code_number r (small k line e), code_line r (small k line e)) refl
