-- An entry of the fugitive table, 28 bytes: industry, product, material, process, scale (u16 each), then nine factors u16 in thousandths
-- of kg/t: crushing and feeding good, middle, poor; tapping good, middle, poor; furnace spill good, middle, poor.
use Rattle.std.specs.Prelude.{ℕ, ◌+◌, cond, List, eqb}
use Rattle.little.specs.Read.{u16_at}
use Rattle.fugitive.specs.declared.grades.Grades.{Grades}

abbrev pub entry_size : ℕ
entry_size = 28

-- where the factors of each place begin
abbrev pub crushing : ℕ
crushing = 10

abbrev pub tapping : ℕ
tapping = 16

abbrev pub spill : ℕ
spill = 22

-- of the three factors that begin there the one of this grade: 1 good, 2 middle, 3 poor; an absent grade chooses none
unfoldable pub chosen : (entry : List ℕ) (place grade : ℕ) → ℕ
chosen entry place grade =
    cond (eqb grade 1) (u16_at entry place) (cond (eqb grade 2) (u16_at entry (place + 2)) (cond (eqb grade 3) (u16_at entry (place + 4)) 0))

-- three factors u16 are together below this
abbrev pub factors_range : ℕ
factors_range = 196_606

-- the sum of the chosen factors
unfoldable pub factors_of : (entry : List ℕ) (g : Grades) → ℕ
factors_of entry g = chosen entry crushing g.crushing + chosen entry tapping g.tapping + chosen entry spill g.spill
