-- What the row search finds in a good book.
use Prim.Native.Nat.{ℕ, ◌<◌}
use mathlib.Core.Bool.{true}
use mathlib.Core.Path.{◌≡◌, refl}
use mathlib.Core.List.{List}
use Rattle.std.specs.Prelude.{Option, Some, None}
use Rattle.search.specs.First.{first}
use Rattle.search.proofs.LawTest.{clash}
use Rattle.search.proofs.LawFirst.{first_below, or_else_below}
use Rattle.desk.specs.Key.{all_scales}
use Rattle.headers.specs.Book.{row_count, technique_block}
use Rattle.desk.specs.Book.{book_ok}
use Rattle.desk.specs.Inner.{GoodRow}
use Rattle.desk.specs.Row.{Hit, Miss, row_has, row_index, row_at, row_from, row_of}
use Rattle.desk.specs.declared.key.Key.{Key}
use Rattle.desk.specs.declared.row.Row.{Row}
use Rattle.desk.proofs.LawBook.{row_coefficient, row_efficiency, row_listed}

pub row_below : (b : List ℕ) (k : Key) (i : ℕ) → row_index b k ≡ Some i → i < row_count b
unfolding row_index
row_below b k i h =
    or_else_below (first (row_count b) (row_has b k)) (first (row_count b) (row_has b (all_scales k))) (row_count b) i
    (λ j q. first_below (row_has b k) (row_count b) j q)
    (λ j q. first_below (row_has b (all_scales k)) (row_count b) j q)
    h

good_at : (b : List ℕ) → book_ok b ≡ true → (i : ℕ) → i < row_count b → GoodRow (technique_block b) (row_at b i)
unfolding row_at
good_at b good i l = record { coefficient = row_coefficient b good i l; listed = row_listed b good i l; efficiency = row_efficiency b good i l }

good_from : (b : List ℕ) → book_ok b ≡ true → (f : Option ℕ) → ((i : ℕ) → f ≡ Some i → i < row_count b) → (row : Row) → row_from b f ≡ Hit row → GoodRow (technique_block b) row
good_from b good (Some i) below row h = let e : row_at b i ≡ row = cc in rw e at (good_at b good i (below i refl))
good_from b good None below row h = clash (cc)

pub hit_good : (b : List ℕ) (k : Key) (row : Row) → book_ok b ≡ true → row_of b k ≡ Hit row → GoodRow (technique_block b) row
unfolding row_of
hit_good b k row good h = good_from b good (row_index b k) (λ i e. row_below b k i e) row h

module _ (b : List ℕ) (k : Key) where
  pub no_rows_lem : row_count b ≡ 0 → row_index b k ≡ None
  unfolding row_index first
  no_rows_lem none = rw none

  pub hit_at : (i : ℕ) → row_index b k ≡ Some i → row_of b k ≡ Hit (row_at b i)
  unfolding row_of
  hit_at i found = rw found

  pub none_at : row_index b k ≡ None → row_of b k ≡ Miss
  unfolding row_of
  none_at none = rw none
