-- By the test itself; a text that is cleared has its size.
use mathlib.Core.Path.{refl}
use borrow.Author.Tests.{le-leb, lt-leb}
use native.Mathlib.Omega.{arith}
use Rattle.report.specs.Report.{written_of}
use Rattle.report.proofs.writer.Writer.finish.Goals as goal
use Rattle.report.proofs.writer.Writer.finish.Goals.{then-at-text, else-at-text}

pub returns : goal.returns
unfolding written_of
returns c =
    elim c.if-at-text.branch [
      | then-at-text w ↦
          rw (w.result-is, w.text-is)
          (record { answer = rw (le-leb _ _ w.if-at-text.true); all = λ _. refl; none = λ l. absurd (omega (arith, l, w.if-at-text.true)) })
      | else-at-text w ↦
          rw (w.result-is, w.text-is)
          (record {
            answer = rw (lt-leb _ _ w.if-at-text.false);
            all = λ l. absurd (omega (arith, l, w.if-at-text.false));
            none = λ _. w.clear.ensures 0 (λ x e. e);
          })
    ]
