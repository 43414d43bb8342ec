-- What private functions ask and answer, beside what a promise says. Nothing here is needed to read a promise.
use Rattle.std.specs.Prelude.{ℕ, ◌+◌, ◌*◌, ◌≤◌, ◌<◌, ◌≡◌, Bool, true, false, cond, List, [], ◌∷◌, ◌++◌, leb, ltb, length, take, drop, Some, None, ⊤, Result, Ok, Err, Option, MatchResult}
use Rattle.amounts.specs.Line.{whole_share}
use Rattle.little.specs.Read.{u16_range, u16_at}
use Rattle.search.specs.First.{first}
use Rattle.search.specs.InnerOrder.{list_order}
use Rattle.search.specs.Test.{every}
use Rattle.std.specs.declared.cmp.Ordering.{Ordering}
use Rattle.settle.specs.Shown.{at}
use Rattle.settle.specs.Table.{Good}
use Rattle.settle.specs.Step.{shown_table}
use Rattle.desk.specs.Key.{key_fields, key_less}
use Rattle.headers.specs.Book.{book_header, row_count, technique_count, technique_size}
use Rattle.desk.specs.Book.{fields_at, technique_code, technique_efficiency, techniques_ok}
use Rattle.desk.specs.Book.{row_start, key_at, fields_ok, coefficient_at, most_coefficient, book_ok}
use Rattle.desk.specs.Row.{row_has, row_index}
use Rattle.desk.specs.Books.{askable, row_place}
use Rattle.headers.specs.Sheet.{line_count, line_size, most_lines}
use Rattle.desk.specs.Sheet.{sheet_ok, line_start}
use Rattle.desk.specs.Line.{most_kilograms}
use Rattle.desk.specs.Entries.{fugitive_ok}
use Rattle.desk.specs.Lent.{Sources, sources, Lent, lent}
use Rattle.fugitive.specs.Grades.{gas, particulates}
use Rattle.fugitive.specs.Entry.{entry_size}
use Rattle.desk.specs.Cells.{width, table_size, cells_of}
use Rattle.desk.specs.Account.{misgraded, line_outcome}
use Rattle.desk.specs.Table.{by_sources, by_files, by_lines, cells_after}
use Rattle.desk.specs.Demands.{table_grid, Demand3}
use Rattle.desk.specs.Declare.{BothAfter}
use Rattle.desk.specs.declared.key.Key.{Key}
use Rattle.desk.specs.declared.line.Line.{Line}
use Rattle.desk.specs.declared.right.RightSources.{RightSources}
use Rattle.desk.specs.declared.right.RightFiles.{RightFiles}
use Rattle.desk.specs.declared.row.Row.{Row}
use Rattle.desk.specs.declared.books.RowPlace.{RowPlace}
use Rattle.desk.specs.declared.books.RowPlace.TheVariants.{InOwn, InPublished}
use Rattle.answers.specs.declared.answer.LineFault.{LineFault}
use Rattle.answers.specs.declared.answer.Refusal.{Refusal}
use Rattle.desk.specs.declared.cells.TableRow.{TableRow}
use Rattle.desk.specs.declared.tally.Tally.{Tally}

-- ---- how far reads go

-- what a u16 counts is below it
abbrev pub counted : ℕ
counted = u16_range

-- rows and lines start below this: an offset u32, and at most as many of them as a u16 counts
abbrev pub farthest : ℕ
farthest = 8_589_934_592

-- the bytes of a row that starts at `at` are there
abbrev pub RowIn : (b : List ℕ) (at : ℕ) → Type 0
RowIn b at = at + (book_header b).row_size ≤ length b

-- the bytes of an entry that starts at `at` are there
abbrev pub EntryIn : (f : List ℕ) (at : ℕ) → Type 0
EntryIn f at = at + entry_size ≤ length f

-- the five codes that stand at `at` are there
abbrev pub CodesIn : (s : List ℕ) (at : ℕ) → Type 0
CodesIn s at = at + 10 ≤ length s

-- the bytes of a line that starts at `at` are there
abbrev pub LineIn : (s : List ℕ) (at : ℕ) → Type 0
LineIn s at = at + line_size ≤ length s

-- line i is there
pub record LineThere (s : List ℕ) (i : ℕ) : Type 0 where
  pub small : i < counted
  pub lies : LineIn s (line_start s i)

-- ---- a key

-- the key with another scale
unfoldable pub at_scale : (k : Key) (scale : ℕ) → Key
at_scale k scale =
    record {
      industry = k.industry;
      product = k.product;
      material = k.material;
      process = k.process;
      scale = scale;
      medium = k.medium;
      pollutant = k.pollutant;
    }

-- its five codes, and its other fields
abbrev pub code_fields : Key → List ℕ
code_fields k = k.industry ∷ k.product ∷ k.material ∷ k.process ∷ k.scale ∷ []

abbrev pub rest_fields : Key → List ℕ
rest_fields k = k.medium ∷ k.pollutant ∷ []

-- the five codes that stand at `at`
unfoldable pub codes_at : (s : List ℕ) (at : ℕ) → List ℕ
codes_at s at = u16_at s at ∷ u16_at s (at + 2) ∷ u16_at s (at + 4) ∷ u16_at s (at + 6) ∷ u16_at s (at + 8) ∷ []

-- how one key stands to another
unfoldable pub key_order : Key → Key → Ordering
key_order a k = list_order (key_fields a) (key_fields k)

-- ---- a row by itself

-- the row that starts at `at` of a book whose technique block is t: all that `row_ok` asks but that it stands after the row before it
unfoldable pub row_fits : (b t : List ℕ) (at : ℕ) → Bool
row_fits b t at =
    every
    (fields_ok b at
    ∷ leb (coefficient_at b at) most_coefficient
    ∷ techniques_ok t (technique_count b) (fields_at b at).first (fields_at b at).techniques
    ∷ [])

-- ---- the row search

-- row j stands before a key
unfoldable pub row_less : (b : List ℕ) (k : Key) (j : ℕ) → Bool
row_less b k j = key_less (key_at b (row_start b j)) k

-- there are so many rows, and none of the first n has this key
pub record Passed (b : List ℕ) (k : Key) (n : ℕ) : Type 0 where
  pub within : n ≤ row_count b
  pub none : first n (row_has b k) ≡ None

-- ---- the dust of a line

-- a key of particulates in gas
pub record OfDust (k : Key) : Type 0 where
  pub medium : k.medium ≡ gas
  pub pollutant : k.pollutant ≡ particulates

-- three factors u16, of 100 units each, on the most product
abbrev pub most_dust : ℕ
most_dust = 19_660_500_000_000_000

abbrev pub SmallDust : Option ℕ → Type 0
SmallDust (Some F) = F ≤ most_dust
SmallDust None = Unit

-- r is the dust that is meant, and it is small
pub record FindsDust (r meant : Option ℕ) : Type 0 where
  pub eq : r ≡ meant
  pub small : SmallDust r

-- ---- the technique search

-- technique j of the list that begins at `from` has a lower code
unfoldable pub code_below : (t : List ℕ) (from code j : ℕ) → Bool
code_below t from code j = ltb (technique_code t (from + j)) code

-- the list lies in the block, and its codes rise
pub record Listed (t : List ℕ) (from count : ℕ) : Type 0 where
  pub lies : (j : ℕ) → j < count → technique_size * (from + j) + technique_size ≤ length t
  pub rises : (i j : ℕ) → i < j → j < count → technique_code t (from + i) < technique_code t (from + j)

-- a row's list lies below 2 ^ 17
abbrev pub SmallRow : Row → Type 0
SmallRow row = (row.first < counted) × (row.techniques < counted)

-- r is the row that is meant; its list is small
pub record ReadsRow (r meant : Row) : Type 0 where
  pub eq : r ≡ meant
  pub small : SmallRow r

-- r says where the row of a key is; a place is that of a row of its book
abbrev pub SmallPlace : Option RowPlace → Type 0
SmallPlace (Some (InOwn i)) = i < counted
SmallPlace (Some (InPublished i)) = i < counted
SmallPlace None = Unit

pub record FindsPlace (r meant : Option RowPlace) : Type 0 where
  pub eq : r ≡ meant
  pub small : SmallPlace r

-- where the row of a key is that is asked for on the inspector's screen
abbrev pub asked_place : (own book : List ℕ) (k : Key) → Option RowPlace
asked_place own book k = cond (askable own book k) (row_place own book k) None

-- row i of a book is the one of this key
pub record RowThere (b : List ℕ) (k : Key) (i : ℕ) : Type 0 where
  pub found : row_index b k ≡ Some i
  pub small : i < counted

-- ---- a line

-- what rules 1 and 13 leave
pub record Right (from : Sources) : Type 0 where
  pub own : book_ok from.own ≡ true
  pub book : book_ok from.book ≡ true
  pub fugitive : fugitive_ok from.fugitive ≡ true

-- what rule 4 leaves
pub record Moderate (line : Line) : Type 0 where
  pub product : line.product ≤ most_kilograms
  pub material : line.material ≤ most_kilograms

-- what is multiplied is small
pub record SmallProduct (row : Row) (line : Line) : Type 0 where
  pub coefficient : row.coefficient ≤ most_coefficient
  pub activity : Moderate line

-- a row of a good book whose technique block is t
pub record GoodRow (t : List ℕ) (row : Row) : Type 0 where
  pub coefficient : row.coefficient ≤ most_coefficient
  pub listed : Listed t row.first row.techniques
  pub efficiency : (j : ℕ) → j < row.techniques → technique_efficiency t (row.first + j) ≤ whole_share

-- what rules 1, 4, 5 and 6 leave
pub record Treatable (t : List ℕ) (row : Row) (line : Line) : Type 0 where
  pub good : GoodRow t row
  pub small : SmallRow row
  pub activity : Moderate line
  pub reuse : line.reuse ≤ whole_share

-- what rules 1, 4, 5, 15 and 6 leave
pub record Gradable (t : List ℕ) (row : Row) (line : Line) : Type 0 where
  pub able : Treatable t row line
  pub graded : misgraded line ≡ false

-- what rules 4, 5 and 15 leave
pub record Admitted (line : Line) : Type 0 where
  pub activity : Moderate line
  pub reuse : line.reuse ≤ whole_share
  pub graded : misgraded line ≡ false

-- ---- the tables

-- the cells with this row written in the part that is row i's
abbrev pub with_row : (i : ℕ) (row : TableRow) (cells : List ℕ) → List ℕ
with_row i row cells = take (width * i) cells ++ (cells_of row ++ drop width (drop (width * i) cells))

-- every new sum fits 64 bits
abbrev pub Fitting : Tally → TableRow → Type 0
Fitting t row = (j : ℕ) → j < width → at (cells_of t.sums) j + at (cells_of row) j < 18_446_744_073_709_551_616

-- what rules 1, 13, 2 and 3 leave, for results of which the shortest has this room
pub record Ready (f : Lent) (room : ℕ) : Type 0 where
  pub sources : Right f.sources
  pub sheet : sheet_ok f.sheet ≡ true
  pub fits : table_size (line_count f.sheet) ≤ room

-- what the files contain that are right
abbrev pub right_contents : RightSources → Sources
right_contents from = sources from.own.bytes.now from.book.bytes.now from.fugitive.bytes.now

abbrev pub right_lent : RightFiles → Lent
right_lent files = lent (right_contents files.sources) files.sheet.bytes.now

-- what rules 1 and 13 make of sources: they are right, or refused
abbrev pub Told : (from : Sources) (r : Result RightSources Refusal) → Type 0
Told from r = MatchResult r (λ right. right_contents right ≡ from) (λ refused. by_sources from ≡ Err refused)

-- what is so of whatever sources that was found out of
abbrev pub OfSources : (r : Result RightSources Refusal) (So : Sources → Type 0) → Type 0
OfSources r So = (from : Sources) → Told from r → So from

-- what rules 1, 13, 2 and 3 make of files: they are right, or refused
abbrev pub FilesTold : (f : Lent) (room : ℕ) (r : Result RightFiles Refusal) → Type 0
FilesTold f room r =
    MatchResult r (λ right. right_lent right ≡ f) (λ refused. by_files f room ≡ Err refused)

-- what filling says of its answer r and of what the cells hold afterwards
pub record Filled (n : ℕ) (l : ℕ → Result TableRow LineFault) (cells : List ℕ) (r : Result ⊤ Refusal) (after : List ℕ) : Type 0 where
  pub answer : r ≡ by_lines n l
  pub table : after ≡ cells_after r n l cells

-- what showing asks: few enough lines, room in both results, and an exact table that can be settled
pub record Showable (unit lines : ℕ) (exact shown : List ℕ) : Type 0 where
  pub few : lines ≤ most_lines
  pub exact_room : table_size lines ≤ length exact
  pub shown_room : table_size lines ≤ length shown
  pub good : Good (table_grid unit lines) (take (table_size lines) exact)

-- the shown table of the exact one, and past it what was there
abbrev pub shown_over : (unit lines : ℕ) (exact shown : List ℕ) → List ℕ
shown_over unit lines exact shown = shown_table (table_grid unit lines) (take (table_size lines) exact) ++ drop (table_size lines) shown

-- the promise where rules 1, 13, 2 and 3 leave it to the lines
pub record LinesDeclared (f : Lent) (exact shown : List ℕ) (r : Result ⊤ Refusal) (exact' shown' : List ℕ) : Type 0 where
  pub answer : r ≡ by_lines (line_count f.sheet) (line_outcome f)
  pub tables : BothAfter f exact shown r exact' shown'
  pub allowed : r ≡ Ok tt → Demand3 f exact' shown'
  pub past : r ≡ Ok tt → drop (table_size (line_count f.sheet)) shown' ≡ drop (table_size (line_count f.sheet)) shown
