-- The picture of docs/SETTLING.md, computed from the definitions: a unit of ten, two lines and the row of sums, D marked.
use mathlib.Core.Path.{◌≡◌, refl}
use mathlib.Core.List.{List, [], ◌∷◌}
use Prim.Native.Nat.{ℕ}
use native.Mathlib.Decide.{ℕ_discrete, dec_lt, dec_le}
use Rattle.settle.specs.Grid.{grid}
use Rattle.settle.specs.declared.Grid.{Grid}
use Rattle.settle.specs.Step.{seek, closes, walk, end_column, move_by, least, rises, move_round, step_mirrored, marked_cell, mirror_cell, mirrors, step}
use Rattle.settle.specs.Step.{loose, changes}

abbrev tens : Grid
tens = grid 10 5 3 3

abbrev start : List ℕ
start = 34 ∷ 13 ∷ 7 ∷ 5 ∷ 9 ∷ 32 ∷ 4 ∷ 8 ∷ 9 ∷ 11 ∷ 66 ∷ 17 ∷ 15 ∷ 14 ∷ 20 ∷ []

abbrev after_1 : List ℕ
after_1 = 31 ∷ 10 ∷ 7 ∷ 5 ∷ 9 ∷ 35 ∷ 7 ∷ 8 ∷ 9 ∷ 11 ∷ 66 ∷ 17 ∷ 15 ∷ 14 ∷ 20 ∷ []

abbrev after_2 : List ℕ
after_2 = 30 ∷ 10 ∷ 6 ∷ 5 ∷ 9 ∷ 36 ∷ 7 ∷ 9 ∷ 9 ∷ 11 ∷ 66 ∷ 17 ∷ 15 ∷ 14 ∷ 20 ∷ []

abbrev after_3 : List ℕ
after_3 = 30 ∷ 10 ∷ 7 ∷ 4 ∷ 9 ∷ 36 ∷ 7 ∷ 8 ∷ 10 ∷ 11 ∷ 66 ∷ 17 ∷ 15 ∷ 14 ∷ 20 ∷ []

abbrev after_4 : List ℕ
after_4 = 30 ∷ 10 ∷ 2 ∷ 9 ∷ 9 ∷ 36 ∷ 7 ∷ 8 ∷ 10 ∷ 11 ∷ 66 ∷ 17 ∷ 10 ∷ 19 ∷ 20 ∷ []

abbrev after_5 : List ℕ
after_5 = 30 ∷ 10 ∷ 1 ∷ 10 ∷ 9 ∷ 37 ∷ 7 ∷ 9 ∷ 10 ∷ 11 ∷ 67 ∷ 17 ∷ 10 ∷ 20 ∷ 20 ∷ []

abbrev after_6 : List ℕ
after_6 = 30 ∷ 10 ∷ 10 ∷ 10 ∷ 0 ∷ 37 ∷ 7 ∷ 0 ∷ 10 ∷ 20 ∷ 67 ∷ 17 ∷ 10 ∷ 20 ∷ 20 ∷ []

abbrev end : List ℕ
end = 30 ∷ 10 ∷ 10 ∷ 10 ∷ 0 ∷ 30 ∷ 0 ∷ 0 ∷ 10 ∷ 20 ∷ 60 ∷ 10 ∷ 10 ∷ 20 ∷ 20 ∷ []

-- the seven steps
pub picture : (step tens start ≡ after_1)
    × (step tens after_1 ≡ after_2)
    × (step tens after_2 ≡ after_3)
    × (step tens after_3 ≡ after_4)
    × (step tens after_4 ≡ after_5)
    × (step tens after_5 ≡ after_6)
    × (step tens after_6 ≡ end)
unfolding step step_mirrored marked_cell move_round move_by least rises walk closes seek end_column mirrors mirror_cell ℕ_discrete dec_lt dec_le
picture = (refl, refl, refl, refl, refl, refl, refl)

-- and no more
pub seven : changes (step tens) 10 15 start ≡ 7
unfolding changes loose step step_mirrored marked_cell move_round move_by least rises walk closes seek end_column mirrors mirror_cell ℕ_discrete dec_lt dec_le
seven = refl
