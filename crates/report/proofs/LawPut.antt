-- Rows put one after the other: the rows of so many lines, and one line more; and so a row's cells.
use Prim.Native.Nat.{ℕ, ◌+◌, ◌*◌}
use mathlib.Core.Path.{◌≡◌, refl}
use mathlib.Core.List.{List, ◌++◌}
use native.Mathlib.Nat.{mul-suc}
use native.Mathlib.Numerals.{add-one}
use Rattle.desk.specs.Cells.{width}
use Rattle.desk.specs.Demands.{cell_at}
use Rattle.report.specs.declared.writer.Writer.{Writer}
use Rattle.report.specs.Report.{most_row, most_number, line_end, number_text, amounts_text, row_text, lines_text}
use Rattle.report.specs.Inner.{cells_text, Adds}
use Rattle.report.proofs.LawAdds.{nothing, then}

module _ (name cells : List ℕ) (w : Writer) where
  pub lines_start : Adds (lines_text name cells 0) (most_row * 0) w w
  unfolding lines_text
  lines_start = nothing w

  -- one line more
  pub lines_step : (i : ℕ) {v u : Writer} → Adds (lines_text name cells i) (most_row * i) w v
      → Adds (row_text name (number_text (i + 1)) cells i) most_row v u → Adds (lines_text name cells (i + 1)) (most_row * (i + 1)) w u
  unfolding lines_text
  lines_step i p q = rw (add-one i, mul-suc) (then p q)

  pub lines_done : (i n : ℕ) {v : Writer} → i ≡ n → Adds (lines_text name cells i) (most_row * i) w v → Adds (lines_text name cells n) (most_row * n) w v
  lines_done i n e p = rw e at p

module _ (cells : List ℕ) (i : ℕ) (w : Writer) where
  pub cells_start : Adds (cells_text cells i 0) (most_number * 0) w w
  unfolding cells_text
  cells_start = nothing w

  -- one cell more
  pub cells_step : (j : ℕ) {v u : Writer} → Adds (cells_text cells i j) (most_number * j) w v → Adds (number_text (cell_at cells i j)) most_number v u
      → Adds (cells_text cells i (j + 1)) (most_number * (j + 1)) w u
  unfolding cells_text
  cells_step j p q = rw (add-one j, mul-suc most_number j) (then p q)

  -- all of them, and the line end
  whole_row : cells_text cells i width ++ line_end ≡ amounts_text cells i
  unfolding cells_text amounts_text
  whole_row = refl

  pub cells_done : (j : ℕ) {v u : Writer} → j ≡ width → Adds (cells_text cells i j) (most_number * j) w v → Adds line_end 1 v u
      → Adds (amounts_text cells i) (most_number * width + 1) w u
  cells_done j e p q = rw whole_row at (then (rw e at p) q)
