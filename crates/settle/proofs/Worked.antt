-- Worked examples, computed from the definitions.
use mathlib.Core.Path.{◌≡◌, refl}
use mathlib.Core.List.{List, [], ◌∷◌}
use Prim.Native.Nat.{ℕ}
use native.Mathlib.Decide.{ℕ_discrete, dec_lt, dec_le}
use Rattle.settle.specs.Grid.{grid}
use Rattle.settle.specs.Step.{seek, closes, walk, end_column, move_by, least, rises, move_round, step_mirrored, marked_cell, mirror_cell}
use Rattle.settle.specs.Step.{mirrors, step, after, units, shown_table}

-- two lines of 150,000 units in grams: 1 and 2, under a total of 3
two_lines : shown_table (grid 100000 4 3 3) (150000 ∷ 0 ∷ 0 ∷ 150000 ∷ 150000 ∷ 0 ∷ 0 ∷ 150000 ∷ 300000 ∷ 0 ∷ 0 ∷ 300000 ∷ [])
    ≡ 1 ∷ 0 ∷ 0 ∷ 1 ∷ 2 ∷ 0 ∷ 0 ∷ 2 ∷ 3 ∷ 0 ∷ 0 ∷ 3 ∷ []
unfolding shown_table step step_mirrored marked_cell move_round move_by least rises walk closes seek end_column mirrors mirror_cell after units ℕ_discrete dec_lt dec_le
two_lines = refl

-- a table in tens with totals 46, 17, 15, 14, by the marked column: the total of column 3 is shown as 2, that of column 0 as 5; column 4 is none
abbrev tens : List ℕ
tens = 25 ∷ 13 ∷ 7 ∷ 5 ∷ 21 ∷ 4 ∷ 8 ∷ 9 ∷ 46 ∷ 17 ∷ 15 ∷ 14 ∷ []

by_mark : (shown_table (grid 10 4 3 3) tens ≡ 2 ∷ 1 ∷ 0 ∷ 1 ∷ 2 ∷ 0 ∷ 1 ∷ 1 ∷ 4 ∷ 1 ∷ 1 ∷ 2 ∷ [])
    × (shown_table (grid 10 4 3 0) tens ≡ 3 ∷ 2 ∷ 0 ∷ 1 ∷ 2 ∷ 0 ∷ 1 ∷ 1 ∷ 5 ∷ 2 ∷ 1 ∷ 2 ∷ [])
    × (shown_table (grid 10 4 3 4) tens ≡ 2 ∷ 1 ∷ 1 ∷ 0 ∷ 2 ∷ 0 ∷ 1 ∷ 1 ∷ 4 ∷ 1 ∷ 2 ∷ 1 ∷ [])
unfolding shown_table step step_mirrored marked_cell move_round move_by least rises walk closes seek end_column mirrors mirror_cell after units ℕ_discrete dec_lt dec_le
by_mark = (refl, refl, refl)
