-- The files that are lent to the desk. They never change.
use Rattle.std.specs.Prelude.{ℕ, List}
use Rattle.desk.specs.declared.lent.Sources as declared

-- where the figures come from, for every sheet alike: the works' own coefficient book, the published one, and the fugitive table
pub record Sources : Type 0 where
  pub own : List ℕ
  pub book : List ℕ
  pub fugitive : List ℕ

abbrev pub sources : (own book fugitive : List ℕ) → Sources
sources own book fugitive = record { own = own; book = book; fugitive = fugitive }

-- what the three files contain that are lent in this
abbrev pub contents : declared.Sources → Sources
contents from = sources from.own.now from.book.now from.fugitive.now

pub record Lent : Type 0 where
  pub sources : Sources
  pub sheet : List ℕ

abbrev pub lent : (from : Sources) (sheet : List ℕ) → Lent
lent from sheet = record { sources = from; sheet = sheet }
