-- "A line's grades": 0 absent, 1 good, 2 middle, 3 poor, one for each of the three places.
use Rattle.std.specs.Prelude.{ℕ, Bool, ◌&&◌, ◌||◌, not, ltb, eqb}
use Rattle.fugitive.specs.declared.grades.Grades.{Grades}

abbrev pub most_grade : ℕ
most_grade = 3

-- the medium and the pollutant of fugitive dust
abbrev pub gas : ℕ
gas = 2

abbrev pub particulates : ℕ
particulates = 3

-- a grade is given at some place
unfoldable pub is_given : Grades → Bool
is_given g = not (eqb g.crushing 0) || not (eqb g.tapping 0) || not (eqb g.spill 0)

-- a grade above 3
abbrev pub above_most : Grades → Bool
above_most g = ltb most_grade g.crushing || ltb most_grade g.tapping || ltb most_grade g.spill

-- rule 15: a grade above 3, or any grade given where the sheet is not particulates in gas
unfoldable pub grades_bad : (g : Grades) (medium pollutant : ℕ) → Bool
grades_bad g medium pollutant = above_most g || is_given g && (not (eqb medium gas) || not (eqb pollutant particulates))
