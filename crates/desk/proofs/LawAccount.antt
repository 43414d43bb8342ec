-- What a line of a good book answers: numbers that the amounts are worked from, and a row that adds up and is small.
use Prim.Native.Nat.{ℕ, ◌+◌, ◌*◌, ◌≤◌, ◌<◌}
use mathlib.Core.Bool.{true, false}
use mathlib.Core.Path.{◌≡◌, refl, ap}
use mathlib.Core.List.{List}
use native.Mathlib.Nat.{mul-le-mul, mul-le-mul_right}
use native.Mathlib.Omega.{arith}
use lib.Dec.{ltb, eqb}
use borrow.Author.Tests.{ltb-false}
use Rattle.std.specs.Prelude.{Option, Some, None, Result, Ok, Err}
use Rattle.search.proofs.LawTest.{clash, either_way, or_left, or_right}
use Rattle.search.proofs.LawFirst.{first_below}
use Rattle.little.specs.Read.{AreBytes}
use Rattle.little.proofs.LawRead.{part_bytes}
use Rattle.fugitive.specs.Grades.{is_given}
use Rattle.fugitive.specs.Entry.{entry_size, factors_of}
use Rattle.fugitive.specs.Table.{entry_start, entry_of}
use Rattle.fugitive.proofs.LawFugitive.{graded_gas, factors_most}
use Rattle.amounts.specs.Line.{whole_share, Admissible, amounts_of, ◌over◌, whole, manual_value, Sound}
use Rattle.amounts.specs.declared.line.Amounts.{Amounts}
use Rattle.amounts.proofs.LawLine.{sound}
use Rattle.settle.specs.Shown.{sum}
use Rattle.headers.specs.Book.{technique_block}
use Rattle.desk.specs.Book.{book_ok, most_coefficient}
use Rattle.desk.specs.Row.{RowSearch, Hit, Miss, row_of}
use Rattle.desk.specs.Books.{book_for}
use Rattle.desk.specs.Technique.{technique_has, technique_index}
use Rattle.shares.specs.Share.{part, share_by}
use Rattle.desk.specs.Line.{most_kilograms, line_of}
use Rattle.desk.specs.Dust.{units_per_factor, dust_by, dust_of, entry_index}
use Rattle.desk.specs.Lent.{Lent}
use Rattle.desk.specs.Cells.{width, cells_of, row_from}
use Rattle.desk.specs.Account.{treats, treated, by_technique, treatment_of, activity_on, generated_of, in_water, by_treatment, by_dust, by_row}
use Rattle.desk.specs.Account.{excessive, misgraded, account_in, account_of, line_outcome}
use Rattle.desk.specs.Inner.{Moderate, GoodRow, most_dust, SmallDust, OfDust, Right}
use Rattle.desk.specs.declared.cells.TableRow.{TableRow}
use Rattle.desk.specs.declared.line.Line.{Line}
use Rattle.desk.specs.declared.row.Basis.{Basis}
use Rattle.desk.specs.declared.row.Basis.TheVariants.{Product, Material}
use Rattle.desk.specs.declared.row.Row.{Row}
use Rattle.shares.specs.declared.share.Reading.{Reading}
use Rattle.shares.specs.declared.share.Fraction.{Fraction}
use Rattle.desk.specs.declared.account.Treatment.{Treatment}
use Rattle.answers.specs.declared.answer.LineFault.{LineFault}
use Rattle.desk.proofs.LawColumns.{Balanced}
use Rattle.shares.proofs.LawShare.{Fair, share_fair}
use Rattle.desk.proofs.LawRow.{hit_good}
use Rattle.desk.proofs.LawBooks.{book_right}

-- what rule 4 leaves
pub moderate : (line : Line) → excessive line ≡ false → Moderate line
moderate line h =
    let p = ltb most_kilograms line.product in
    let m = ltb most_kilograms line.material in
    record { product = ltb-false most_kilograms line.product (or_left p m h); material = ltb-false most_kilograms line.material (or_right p m h) }

-- ---- the numbers are admissible

pub treats_parts : (k : Treatment) (e n d : ℕ) → Ok k ≡ treats e n d → (k.efficiency ≡ e) × (k.ran.n ≡ n) × (k.ran.d ≡ d)
treats_parts k e n d h =
    let same : ◌≡◌ {A = Treatment} k (record { efficiency = e; ran = record { n = n; d = d } }) = cc in
    (ap (λ (t : Treatment). t.efficiency) same, ap (λ (t : Treatment). t.ran.n) same, ap (λ (t : Treatment). t.ran.d) same)

module _ (u : ℕ) (reuse : u ≤ whole_share) where
  treated_admissible : (k : ℕ) (share : Result Fraction LineFault) → k ≤ whole_share
      → ((n d : ℕ) → share ≡ part n d → Fair n d)
      → (e n d : ℕ) → treated k share ≡ treats e n d → Admissible e n d u
  treated_admissible k (Err fault) most fair e n d h = clash (cc)
  treated_admissible k (Ok f) most fair e n d h =
      let same = treats_parts (record { efficiency = k; ran = f }) e n d h in
      let fits = fair f.n f.d refl in
      record { efficiency = omega arith; fraction = omega arith; divisor = omega arith; size = omega arith; reuse = reuse }

  module _ (t : List ℕ) (row : Row) (good : GoodRow t row) (reading : Reading) where
    technique_admissible : (f : Option ℕ) → ((j : ℕ) → f ≡ Some j → j < row.techniques)
        → (e n d : ℕ) → by_technique t row reading f ≡ treats e n d → Admissible e n d u
    technique_admissible None below e n d h = clash (cc)
    technique_admissible (Some j) below e n d h =
        treated_admissible _ (share_by reading row.rule) (good.efficiency j (below j refl)) (share_fair reading row.rule) e n d h

    pub treatment_admissible : (technique e n d : ℕ) → treatment_of t row technique reading ≡ treats e n d → Admissible e n d u
    unfolding treatment_of technique_index
    treatment_admissible technique e n d h =
        either_way (eqb technique 0)
        (λ g.
        let same = treats_parts (record { efficiency = 0; ran = record { n = 0; d = 1 } }) e n d (rw g at h) in
        record { efficiency = omega arith; fraction = omega arith; divisor = omega arith; size = omega arith; reuse = reuse })
        (λ g. technique_admissible (technique_index t row.first row.techniques technique)
        (λ j q. first_below (technique_has t row.first technique) row.techniques j q) e n d (rw g at h))

-- ---- what escapes is small

-- a line that rule 15 leaves, with a grade, is of particulates in gas
pub graded_key : (line : Line) → is_given line.grades ≡ true → misgraded line ≡ false → OfDust line.key
graded_key line given h =
    let of = graded_gas line.grades line.key.medium line.key.pollutant given h in
    record { medium = of.0; pollutant = of.1 }

-- so many factors at most, of 100 units each, on at most so many kilograms
pub dust_most : (factors product : ℕ) → factors ≤ 196_605 → product ≤ most_kilograms → factors * units_per_factor * product ≤ most_dust
dust_most factors product f p = mul-le-mul (mul-le-mul_right units_per_factor f) p

dust_small : (f : List ℕ) (line : Line) → AreBytes f → line.product ≤ most_kilograms → SmallDust (dust_of f line)
unfolding dust_of
dust_small f line bytes product =
    either_way (is_given line.grades) (λ g. rw g (by (entry_index f line.key))) (λ g. rw g (omega arith))
  where
    by : (place : Option ℕ) → SmallDust (dust_by f line place)
    by None = tt
    by (Some i) = dust_most (factors_of (entry_of f i) line.grades) line.product (factors_most (entry_of f i) line.grades (part_bytes f (entry_start f i) entry_size bytes)) product

-- ---- the row adds up, and is at most 10^17 and what escapes

-- what a coefficient and an activity make, at most
abbrev ducted_most : ℕ
ducted_most = 100_000_000_000_000_000

-- with what escapes: 10^17 + 3 × 65,535 × 100 × 10^9
abbrev pub line_most : ℕ
line_most = 119_660_500_000_000_000

-- what is written where a line gives a row
abbrev pub Balances : Result TableRow LineFault → Type 0
Balances (Ok row) = Balanced width line_most (cells_of row)
Balances (Err fault) = Unit

amounts_balanced : (a : Amounts) (F : ℕ) → a.generated ≡ a.removed + a.reused + a.discharged → a.generated ≤ ducted_most → F ≤ most_dust
    → Balanced width line_most (cells_of (row_from a F))
unfolding sum
amounts_balanced a F adds small dust = record { adds = omega arith; small = omega arith }

pub generated_small : (row : Row) (line : Line) → row.coefficient ≤ most_coefficient → Moderate line → generated_of row line ≤ ducted_most
unfolding generated_of
generated_small row line c m = on row.basis
  where
    on : (basis : Basis) → row.coefficient * activity_on basis line.product line.material ≤ ducted_most
    on Product = mul-le-mul c m.product
    on Material = mul-le-mul c m.material

treatment_balances : (row : Row) (line : Line) (F : ℕ) (k : Result Treatment LineFault) → generated_of row line ≤ ducted_most → F ≤ most_dust
    → ((e n d : ℕ) → k ≡ treats e n d → Admissible e n d line.reuse) → Balances (by_treatment row line F k)
treatment_balances row line F (Err fault) small dust ok = tt
treatment_balances row line F (Ok k) small dust ok =
    let G = generated_of row line in
    let e = k.efficiency in
    let n = k.ran.n in
    let d = k.ran.d in
    amounts_balanced (amounts_of G e n d line.reuse (in_water line)) F (sound G e n d line.reuse (in_water line) (ok e n d refl)).sum small dust

module _ (b table : List ℕ) (good : book_ok b ≡ true) (bytes : AreBytes table) (line : Line) where
  abbrev block : List ℕ
  block = technique_block b

  dust_balances : (row : Row) (dust : Option ℕ) → row_of b line.key ≡ Hit row → SmallDust dust → Moderate line → line.reuse ≤ whole_share
      → Balances (by_dust block row line dust)
  dust_balances row None e small moderate reuse = tt
  dust_balances row (Some F) e small moderate reuse =
      let g = hit_good b line.key row good e in
      treatment_balances row line F (treatment_of block row line.technique line.reading) (generated_small row line g.coefficient moderate) small
      (treatment_admissible line.reuse reuse block row g line.reading line.technique)

  row_balances : (f : RowSearch) → row_of b line.key ≡ f → Moderate line → line.reuse ≤ whole_share
      → Balances (by_row block table line f)
  row_balances Miss e moderate reuse = tt
  row_balances (Hit row) e moderate reuse =
      dust_balances row (dust_of table line) e (dust_small table line bytes moderate.product) moderate reuse

  account_balances : Balances (account_in b table line)
  unfolding account_in
  account_balances =
      either_way (excessive line)
      (λ p. rw p tt)
      (λ p. either_way (ltb whole_share line.reuse)
      (λ q. rw (p, q) tt)
      (λ q. either_way (misgraded line)
      (λ g. rw (p, q, g) tt)
      (λ g. rw (p, q, g) (row_balances (row_of b line.key) refl (moderate line p) (ltb-false whole_share line.reuse q)))))

pub line_balances : (f : Lent) → Right f.sources → AreBytes f.sources.fugitive → (i : ℕ) → Balances (line_outcome f i)
unfolding line_outcome account_of
line_balances f right bytes i =
    let line = line_of f.sheet i in
    account_balances (book_for f.sources line.key) f.sources.fugitive (book_right f.sources line.key right.own right.book) bytes line

-- ---- demand 2 of a line: D is not below the manual's exact value, worked from the line's own numbers, and less than two units above it

pub line_sound : (b : List ℕ) (line : Line) (row : Row) (e n d : ℕ) → book_ok b ≡ true → line.reuse ≤ whole_share → row_of b line.key ≡ Hit row
    → treatment_of (technique_block b) row line.technique line.reading ≡ treats e n d → let G = generated_of row line in
    Sound 2 (manual_value (whole G) (n over d) e line.reuse (in_water line)) (amounts_of G e n d line.reuse (in_water line))
line_sound b line row e n d good reuse hit by =
    let g = hit_good b line.key row good hit in
    sound (generated_of row line) e n d line.reuse (in_water line)
    (treatment_admissible line.reuse reuse (technique_block b) row g line.reading line.technique e n d by)
