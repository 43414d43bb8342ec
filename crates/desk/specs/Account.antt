-- "From a line to its amounts": what is answered for one line, with what may be wrong in its order: 4, 5, 15, 6, 14, 7 to 11.
use Rattle.std.specs.Prelude.{ℕ, ◌+◌, ◌*◌, Bool, ◌||◌, cond, List, ltb, eqb, Option, Some, None, Result, Ok, Err}
use Rattle.amounts.specs.Line.{whole_share, amounts_of}
use Rattle.headers.specs.Book.{technique_block}
use Rattle.desk.specs.Book.{technique_efficiency}
use Rattle.desk.specs.Row.{RowSearch, Hit, Miss, row_of}
use Rattle.desk.specs.Books.{book_for}
use Rattle.desk.specs.Technique.{technique_index}
use Rattle.shares.specs.Share.{share_by}
use Rattle.desk.specs.Line.{most_kilograms, line_of}
use Rattle.fugitive.specs.Grades.{grades_bad}
use Rattle.desk.specs.Dust.{dust_of}
use Rattle.desk.specs.Lent.{Sources, Lent}
use Rattle.desk.specs.Cells.{row_from}
use Rattle.answers.specs.declared.answer.LineFault.TheVariants.{ActivityTooLarge, ReuseTooLarge, BadGrade}
use Rattle.answers.specs.declared.answer.LineFault.TheVariants.{NoRow, NoFugitiveEntry, NoTechnique}
use Rattle.desk.specs.declared.line.Line.{Line}
use Rattle.desk.specs.declared.row.Basis.{Basis}
use Rattle.desk.specs.declared.row.Basis.TheVariants.{Product, Material}
use Rattle.desk.specs.declared.row.Row.{Row}
use Rattle.shares.specs.declared.share.Reading.{Reading}
use Rattle.shares.specs.declared.share.Fraction.{Fraction}
use Rattle.desk.specs.declared.account.Treatment.{Treatment}
use Rattle.desk.specs.declared.cells.TableRow.{TableRow}
use Rattle.answers.specs.declared.answer.LineFault.{LineFault}

-- the efficiency, with k as n over d
abbrev pub treats : (e n d : ℕ) → Result Treatment LineFault
treats e n d = Ok (record { efficiency = e; ran = record { n = n; d = d } })

-- the efficiency with k
abbrev pub treated : (e : ℕ) (k : Result Fraction LineFault) → Result Treatment LineFault
treated e (Ok k) = Ok (record { efficiency = e; ran = k })
treated e (Err fault) = Err fault

-- the technique at place j of the row's list, with k by the row's k rule
abbrev pub by_technique : (t : List ℕ) (row : Row) (reading : Reading) (place : Option ℕ) → Result Treatment LineFault
by_technique t row reading None = Err NoTechnique
by_technique t row reading (Some j) = treated (technique_efficiency t (row.first + j)) (share_by reading row.rule)

-- technique 0 is direct discharge: efficiency and k are 0, and the reading is not looked at
unfoldable pub treatment_of : (t : List ℕ) (row : Row) (technique : ℕ) (reading : Reading) → Result Treatment LineFault
treatment_of t row technique reading =
    cond (eqb technique 0) (treats 0 0 1) (by_technique t row reading (technique_index t row.first row.techniques technique))

-- the activity on a basis
abbrev pub activity_on : Basis → (product material : ℕ) → ℕ
activity_on Product product material = product
activity_on Material product material = material

-- G without F = coefficient × activity on the row's basis
unfoldable pub generated_of : Row → Line → ℕ
generated_of row line = row.coefficient * activity_on row.basis line.product line.material

-- medium 1
abbrev pub in_water : Line → Bool
in_water line = eqb line.key.medium 1

-- R, U and D are worked from G without F, so that no treatment touches F
abbrev pub by_treatment : (row : Row) (line : Line) (F : ℕ) (treatment : Result Treatment LineFault) → Result TableRow LineFault
by_treatment row line F (Err fault) = Err fault
by_treatment row line F (Ok k) =
    Ok (row_from (amounts_of (generated_of row line) k.efficiency k.ran.n k.ran.d line.reuse (in_water line)) F)

abbrev pub by_dust : (t : List ℕ) (row : Row) (line : Line) (dust : Option ℕ) → Result TableRow LineFault
by_dust t row line None = Err NoFugitiveEntry
by_dust t row line (Some F) = by_treatment row line F (treatment_of t row line.technique line.reading)

abbrev pub by_row : (t f : List ℕ) (line : Line) (row : RowSearch) → Result TableRow LineFault
by_row t f line Miss = Err NoRow
by_row t f line (Hit row) = by_dust t row line (dust_of f line)

-- the row with its techniques, both from this book
abbrev pub by_book : (b f : List ℕ) (line : Line) → Result TableRow LineFault
by_book b f line = by_row (technique_block b) f line (row_of b line.key)

-- product or material above 10^9 kg
abbrev pub excessive : Line → Bool
excessive line = ltb most_kilograms line.product || ltb most_kilograms line.material

-- a grade that the sheet does not take
abbrev pub misgraded : Line → Bool
misgraded line = grades_bad line.grades line.key.medium line.key.pollutant

-- by one book and the fugitive table
unfoldable pub account_in : (b f : List ℕ) (line : Line) → Result TableRow LineFault
account_in b f line =
    cond (excessive line) (Err ActivityTooLarge)
    (cond (ltb whole_share line.reuse) (Err ReuseTooLarge)
    (cond (misgraded line) (Err BadGrade)
    (by_book b f line)))

-- by the book that answers, for the row and its techniques alike
unfoldable pub account_of : (from : Sources) (line : Line) → Result TableRow LineFault
account_of from line = account_in (book_for from line.key) from.fugitive line

-- line i of the sheet by its sources, counted from 0
unfoldable pub line_outcome : (f : Lent) (i : ℕ) → Result TableRow LineFault
line_outcome f i = account_of f.sources (line_of f.sheet i)
