-- Each record that is refused leaves no sheet; otherwise the header is laid in front of the lines.
use mathlib.Core.Path.{refl, sym, ◌∙◌}
use native.Mathlib.Omega.{arith}
use Rattle.text.proofs.LawLines.{too_long, no_header, zero_header, bad_lines, header_laid}
use Rattle.text.proofs.read.lay_sheet.Goals as goal

pub returns-then-text-gt-MOST_BYTES : goal.returns-then-text-gt-MOST_BYTES
returns-then-text-gt-MOST_BYTES c = too_long c.args.text.now c.if-text-gt-MOST_BYTES.true

pub read_record-requires : goal.read_record-requires
read_record-requires c = record { same = refl; asked = omega arith }

pub returns-in_err-at : goal.returns-in_err-at
returns-in_err-at c = rw c.from_residual.ensures (no_header c.args.text.now c.in_err-at.ensures)

pub returns-then-contains : goal.returns-then-contains
returns-then-contains c =
    zero_header c.args.text.now (omega (arith, c.if-text-gt-MOST_BYTES.false)) _ c.in_ok-at.ensures.0 (sym c.contains.ensures.value ∙ c.if-contains.true)

pub returns-in_err-lines : goal.returns-in_err-lines
returns-in_err-lines c =
    rw c.from_residual-in_err-lines.ensures
    (bad_lines c.args.text.now (omega (arith, c.if-text-gt-MOST_BYTES.false)) _ c.in_ok-at.ensures.0 c.in_ok-at.at c.in_ok-at.ensures.1
    c.in_err-lines.ensures)

pub returns : goal.returns
returns c =
    header_laid c.args.text.now (omega (arith, c.if-text-gt-MOST_BYTES.false)) _ c.in_ok-at.ensures.0 c.in_ok-at.at c.in_ok-at.ensures.1 (sym c.contains.ensures.value ∙ c.if-contains.false) _ _ _ _
    c.in_ok-lines.ensures c.lay_header.ensures
