use Prim.Native.Nat.{ℕ}
use mathlib.Core.Path.{◌≡◌, sym, ap, ◌∙◌}
use native.Mathlib.Omega.{arith}
use lib.ListN.{replicate}
use borrow.Author.Rules.{rules}
use Rattle.headers.specs.Sheet.{line_count}
use Rattle.desk.specs.Table.{rows, total, by_lines}
use Rattle.desk.specs.Inner.{right_lent}
use Rattle.desk.proofs.LawAccount.{line_balances}
use Rattle.desk.proofs.LawTable.{rows_step, total_step, answer_step, answer_refused, refused, refused_cells}
use Rattle.desk.proofs.LawTable.{accepted_cells, tally_fits, sources_are_right}
use Rattle.desk.proofs.table.fill.Goals as goal

pub loop-i-init : goal.loop-i-init
unfolding rows total by_lines
loop-i-init c = search rules

pub returns-in-Err : goal.returns-in-Err
returns-in-Err c =
    let before = c.loop-i.invariant in
    let told = sym c.line_outcome.ensures ∙ c.in-Err.is in
    record {
      answer = answer_refused _ _ _ told before.3 (omega (arith, c.loop-i-test.true, c.lines-lines.ensures.eq));
      table = refused_cells _ _ _ _ _ refused (c.clear.ensures 0 (λ x h. h) ∙ ap (λ (m : ℕ). replicate m 0) before.0);
    }

pub add-tally-requires : goal.add-tally-requires
add-tally-requires c =
    let files = c.args.files in
    let balances = line_balances (right_lent files) (sources_are_right files.sources) files.sources.fugitive.small in
    tally_fits _ balances _ (omega (arith, c.loop-i-test.true, c.lines-lines.ensures.small)) c.loop-i.invariant.2 (sym c.line_outcome.ensures ∙ c.in-Ok.is)

pub loop-i-preserved : goal.loop-i-preserved
loop-i-preserved c =
    let before = c.loop-i.invariant in
    let given = sym c.line_outcome.ensures ∙ c.in-Ok.is in (
      search rules,
      rows_step _ _ given _ before.1 c.put_row.ensures,
      total_step _ _ given before.2 c.add-tally.ensures,
      answer_step _ _ given before.3,
    )

pub returns : goal.returns
returns c =
    let before = c.loop-i.invariant in
    let e : c.loop-i.i ≡ line_count c.args.files.sheet.bytes.now = omega (arith, c.loop-i-test.false, c.lines-lines.ensures.eq) in
    record {
      answer = sym (rw e at before.3);
      table = accepted_cells _ _ _ (rw e at before.1) (rw e at before.2) (rw c.lines-lines.ensures.eq at c.put_row-2.ensures);
    }
