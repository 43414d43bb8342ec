-- The row's unit and places give a power of ten from the table, and 32 bits times 10^8 fit 64.
use native.Mathlib.Omega.{arith}
use Rattle.desk.proofs.LawBook.{fields_power}
use Rattle.desk.proofs.row_bytes.RowBytes.coefficient.Goals as goal

pub overflow_sub-unit : goal.overflow_sub-unit
overflow_sub-unit c =
    omega (arith, fields_power _ _ c.requires)

pub overflow_sub-unit-2 : goal.overflow_sub-unit-2
overflow_sub-unit-2 c =
    omega (arith, fields_power _ _ c.requires)

pub ten_to-requires : goal.ten_to-requires
ten_to-requires c =
    omega (arith, fields_power _ _ c.requires)
