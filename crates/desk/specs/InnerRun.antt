-- How far a lawful list of techniques goes from each place of the block: what lets all rows be checked in one pass over it.
use Rattle.std.specs.Prelude.{ℕ, zero, suc, ◌+◌, ◌*◌, ◌-◌, ◌≤◌, ◌<◌, ◌≡◌, Bool, ◌&&◌, not, cond, List, leb, ltb, eqb, get_or, length}
use Rattle.amounts.specs.Line.{whole_share}
use Rattle.headers.specs.Book.{technique_size}
use Rattle.desk.specs.Book.{technique_code, technique_efficiency}

-- a technique by itself: its code is not 0, and its efficiency is at most the whole
abbrev pub lawful_by : (code efficiency : ℕ) → Bool
lawful_by code efficiency = not (eqb code 0) && leb efficiency whole_share

-- technique k
unfoldable pub lawful : (t : List ℕ) (k : ℕ) → Bool
lawful t k = lawful_by (technique_code t k) (technique_efficiency t k)

-- the run from k on, where the one from k + 1 on has `next` techniques
unfoldable pub run_before : (t : List ℕ) (k next : ℕ) → ℕ
run_before t k next = cond (lawful t k) (cond (ltb (technique_code t k) (technique_code t (k + 1))) (next + 1) 1) 0

-- the same by the numbers that it looks at: a technique's code and efficiency, and the code of the next
abbrev pub run_from : (code efficiency next_code next : ℕ) → ℕ
run_from code efficiency next_code next = cond (lawful_by code efficiency) (cond (ltb code next_code) (next + 1) 1) 0

-- how many of the n techniques from k on are lawful, with codes that strictly rise
unfoldable pub run_of : (t : List ℕ) (n k : ℕ) → ℕ
run_of t zero k = 0
run_of t (suc n) k = run_before t k (run_of t n (k + 1))

-- runs are kept for one of so many techniques
abbrev pub runs_apart : ℕ
runs_apart = 4

-- `runs` holds, for each such one of the block's `size` techniques, the run from it on
pub record Runs (t : List ℕ) (size : ℕ) (runs : List ℕ) : Type 0 where
  pub long : size ≤ runs_apart * length runs
  pub at : (m : ℕ) → runs_apart * m < size → get_or runs m 0 ≡ run_of t (size - runs_apart * m) (runs_apart * m)

-- a block of `size` techniques, with its runs
pub record Block (t : List ℕ) (size : ℕ) (runs : List ℕ) : Type 0 where
  pub whole : length t ≡ technique_size * size
  pub kept : Runs t size runs

-- whether the list from k up to `end` is right, by the run from k on
unfoldable pub run_reaches : (t : List ℕ) (size k end : ℕ) → Bool
run_reaches t size k end = leb (end - k) (run_of t (size - k) k)
