-- The shown unit: W, in units of 10 micrograms.
use Rattle.std.specs.Prelude.{ℕ, Bool, cond, ◌&&◌, List, eqb, leb}
use Rattle.headers.specs.Sheet.{sheet_header}

-- one unit is 10 micrograms
abbrev pub gram : ℕ
gram = 100_000

abbrev pub kilogram : ℕ
kilogram = 100_000_000

abbrev pub tonne : ℕ
tonne = 100_000_000_000

-- the codes of shown units
abbrev pub is_unit : (code : ℕ) → Bool
is_unit code = leb 1 code && leb code 3

-- W for a shown unit: 1 gram, 2 kilogram, else tonne
unfoldable pub unit_of : (code : ℕ) → ℕ
unit_of code = cond (eqb code 1) gram (cond (eqb code 2) kilogram tonne)

-- W of a sheet
abbrev pub unit_of_sheet : (s : List ℕ) → ℕ
unit_of_sheet s = unit_of (sheet_header s).shown_unit
