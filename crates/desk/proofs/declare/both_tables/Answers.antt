-- The lines are filled in, and where none is refused the exact table, which can be settled, is shown.
use mathlib.Core.Path.{sym, ◌∙◌}
use native.Mathlib.Omega.{arith}
use Rattle.desk.proofs.LawTable.{refused, sources_are_right}
use Rattle.desk.proofs.LawDeclare.{showable, tables_shown, past_kept_lem, allows, both_refused}
use Rattle.desk.proofs.declare.both_tables.Goals as goal

pub show-requires : goal.show-requires
show-requires c =
    let files = c.args.files in
    let lines = c.lines.ensures.eq in
    let accepted = rw c.in_default.is at c.fill.ensures.table in
    showable _ (sources_are_right files.sources) files.sources.fugitive.small files.sheet.right _ _ _ _ lines c.unit_of.ensures accepted _ (omega (arith, c.requires))

pub returns-in-Err : goal.returns-in-Err
returns-in-Err c =
    let filled = c.fill.ensures in
    let told = c.in-Err.is in
    record {
      answer = sym told ∙ filled.answer;
      tables = both_refused _ _ _ _ _ _ refused (rw told at filled.table) (c.clear.ensures 0 (λ x h. h));
      allowed = λ accepted. absurd (refused accepted);
      past = λ accepted. absurd (refused accepted);
    }

pub returns : goal.returns
returns c =
    let files = c.args.files in
    let right = sources_are_right files.sources in
    let bytes = files.sources.fugitive.small in
    let lines = c.lines.ensures.eq in
    let told = c.in_default.is in
    let accepted = rw told at c.fill.ensures.table in
    let unit = c.unit_of.ensures in
    let shown = c.show.ensures in
    record {
      answer = sym told ∙ c.fill.ensures.answer;
      tables = tables_shown _ right bytes files.sheet.right _ _ _ _ lines unit accepted _ _ shown;
      past = λ _. past_kept_lem _ right bytes files.sheet.right _ _ _ _ lines unit accepted _ _ shown;
      allowed = λ _. allows _ right bytes files.sheet.right _ _ _ _ lines unit accepted _ _ shown;
    }
