-- A row of a right book lies in it, and its fields are right.
use native.Mathlib.Omega.{arith}
use Rattle.desk.proofs.LawBook.{good_row_in, rows_few_lem, row_fields}
use Rattle.desk.proofs.row.row_at.Goals as goal

pub row_start-at-requires : goal.row_start-at-requires
row_start-at-requires c = omega (arith, c.requires, rows_few_lem _ c.args.book.right)

pub of-row-requires : goal.of-row-requires
of-row-requires c = rw c.row_start-at.ensures.eq (good_row_in _ c.args.book.right _ c.requires)

pub coefficient-requires : goal.coefficient-requires
coefficient-requires c = rw (c.of-row.ensures.0, c.of-row.ensures.1, c.row_start-at.ensures.eq) (row_fields _ c.args.book.right _ c.requires)
