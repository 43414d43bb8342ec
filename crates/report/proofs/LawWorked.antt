-- The paper's worked figures, line by line: the definition of the report computes to them.
use Prim.Native.Nat.{ℕ}
use mathlib.Core.Path.{◌≡◌, refl}
use mathlib.Core.List.{List, [], ◌∷◌, ◌++◌}
use Rattle.numerals.specs.Numeral.{significant, numeral}
use Rattle.report.specs.Report.{exact_word, number_text, amounts_text, row_text, lines_text, table_text, unit_text, figures_text, refusal_text}

-- exact 1 330720000000 231504000000 94255200000 4960800000 0
abbrev first_exact : List ℕ
first_exact =
    101 ∷ 120 ∷ 97 ∷ 99 ∷ 116 ∷ 32 ∷ 49 ∷ 32 ∷ 51 ∷ 51 ∷ 48 ∷ 55 ∷ 50 ∷ 48 ∷ 48 ∷ 48 ∷ 48 ∷ 48 ∷ 48 ∷ 48 ∷ 32 ∷ 50 ∷ 51 ∷ 49 ∷ 53 ∷ 48 ∷
    52 ∷ 48 ∷ 48 ∷ 48 ∷ 48 ∷ 48 ∷ 48 ∷ 32 ∷ 57 ∷ 52 ∷ 50 ∷ 53 ∷ 53 ∷ 50 ∷ 48 ∷ 48 ∷ 48 ∷ 48 ∷ 48 ∷ 32 ∷ 52 ∷ 57 ∷ 54 ∷ 48 ∷ 56 ∷ 48 ∷
    48 ∷ 48 ∷ 48 ∷ 48 ∷ 32 ∷ 48 ∷ 10 ∷ []

-- exact total 330720000000 231504000000 94255200000 4960800000 0
abbrev total_exact : List ℕ
total_exact =
    101 ∷ 120 ∷ 97 ∷ 99 ∷ 116 ∷ 32 ∷ 116 ∷ 111 ∷ 116 ∷ 97 ∷ 108 ∷ 32 ∷ 51 ∷ 51 ∷ 48 ∷ 55 ∷ 50 ∷ 48 ∷ 48 ∷ 48 ∷ 48 ∷ 48 ∷ 48 ∷ 48 ∷ 32 ∷
    50 ∷ 51 ∷ 49 ∷ 53 ∷ 48 ∷ 52 ∷ 48 ∷ 48 ∷ 48 ∷ 48 ∷ 48 ∷ 48 ∷ 32 ∷ 57 ∷ 52 ∷ 50 ∷ 53 ∷ 53 ∷ 50 ∷ 48 ∷ 48 ∷ 48 ∷ 48 ∷ 48 ∷ 32 ∷ 52 ∷
    57 ∷ 54 ∷ 48 ∷ 56 ∷ 48 ∷ 48 ∷ 48 ∷ 48 ∷ 48 ∷ 32 ∷ 48 ∷ 10 ∷ []

-- unit 100000
abbrev unit_line : List ℕ
unit_line =
    117 ∷ 110 ∷ 105 ∷ 116 ∷ 32 ∷ 49 ∷ 48 ∷ 48 ∷ 48 ∷ 48 ∷ 48 ∷ 10 ∷ []

-- shown 1 3307200 2315040 942552 49608 0
abbrev first_shown : List ℕ
first_shown =
    115 ∷ 104 ∷ 111 ∷ 119 ∷ 110 ∷ 32 ∷ 49 ∷ 32 ∷ 51 ∷ 51 ∷ 48 ∷ 55 ∷ 50 ∷ 48 ∷ 48 ∷ 32 ∷ 50 ∷ 51 ∷ 49 ∷ 53 ∷ 48 ∷ 52 ∷ 48 ∷ 32 ∷ 57 ∷
    52 ∷ 50 ∷ 53 ∷ 53 ∷ 50 ∷ 32 ∷ 52 ∷ 57 ∷ 54 ∷ 48 ∷ 56 ∷ 32 ∷ 48 ∷ 10 ∷ []

-- shown total 3307200 2315040 942552 49608 0
abbrev total_shown : List ℕ
total_shown =
    115 ∷ 104 ∷ 111 ∷ 119 ∷ 110 ∷ 32 ∷ 116 ∷ 111 ∷ 116 ∷ 97 ∷ 108 ∷ 32 ∷ 51 ∷ 51 ∷ 48 ∷ 55 ∷ 50 ∷ 48 ∷ 48 ∷ 32 ∷ 50 ∷ 51 ∷ 49 ∷ 53 ∷
    48 ∷ 52 ∷ 48 ∷ 32 ∷ 57 ∷ 52 ∷ 50 ∷ 53 ∷ 53 ∷ 50 ∷ 32 ∷ 52 ∷ 57 ∷ 54 ∷ 48 ∷ 56 ∷ 32 ∷ 48 ∷ 10 ∷ []

-- document 000: one line, in grams
pub document_000 :
    figures_text 1 100000
    (330720000000 ∷ 231504000000 ∷ 94255200000 ∷ 4960800000 ∷ 0 ∷ 330720000000 ∷ 231504000000 ∷ 94255200000 ∷ 4960800000 ∷ 0 ∷ [])
    (3307200 ∷ 2315040 ∷ 942552 ∷ 49608 ∷ 0 ∷ 3307200 ∷ 2315040 ∷ 942552 ∷ 49608 ∷ 0 ∷ [])
    ≡ first_exact ++ total_exact ++ unit_line ++ first_shown ++ total_shown
unfolding figures_text unit_text table_text lines_text row_text amounts_text number_text numeral significant
document_000 = refl

-- exact 1 3035234586400000 2943923400000000 0 29736600000000 61574586400000
abbrev dust_exact : List ℕ
dust_exact =
    101 ∷ 120 ∷ 97 ∷ 99 ∷ 116 ∷ 32 ∷ 49 ∷ 32 ∷ 51 ∷ 48 ∷ 51 ∷ 53 ∷ 50 ∷ 51 ∷ 52 ∷ 53 ∷ 56 ∷ 54 ∷ 52 ∷ 48 ∷ 48 ∷ 48 ∷ 48 ∷ 48 ∷ 32 ∷ 50 ∷
    57 ∷ 52 ∷ 51 ∷ 57 ∷ 50 ∷ 51 ∷ 52 ∷ 48 ∷ 48 ∷ 48 ∷ 48 ∷ 48 ∷ 48 ∷ 48 ∷ 48 ∷ 32 ∷ 48 ∷ 32 ∷ 50 ∷ 57 ∷ 55 ∷ 51 ∷ 54 ∷ 54 ∷ 48 ∷ 48 ∷ 48 ∷
    48 ∷ 48 ∷ 48 ∷ 48 ∷ 48 ∷ 32 ∷ 54 ∷ 49 ∷ 53 ∷ 55 ∷ 52 ∷ 53 ∷ 56 ∷ 54 ∷ 52 ∷ 48 ∷ 48 ∷ 48 ∷ 48 ∷ 48 ∷ 10 ∷ []

-- document 002: F comes last
pub document_002 :
    row_text exact_word (number_text 1) (3035234586400000 ∷ 2943923400000000 ∷ 0 ∷ 29736600000000 ∷ 61574586400000 ∷ []) 0 ≡ dust_exact
unfolding row_text amounts_text number_text numeral significant
document_002 = refl

-- refused 11 line 128
abbrev last_refusal : List ℕ
last_refusal =
    114 ∷ 101 ∷ 102 ∷ 117 ∷ 115 ∷ 101 ∷ 100 ∷ 32 ∷ 49 ∷ 49 ∷ 32 ∷ 108 ∷ 105 ∷ 110 ∷ 101 ∷ 32 ∷ 49 ∷ 50 ∷ 56 ∷ 10 ∷ []

pub last_refusal_lem : refusal_text 11 128 ≡ last_refusal
unfolding refusal_text number_text numeral significant
last_refusal_lem = refl
