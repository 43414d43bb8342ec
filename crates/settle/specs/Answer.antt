-- What the public functions answer, and what the lent table holds afterwards.
use Rattle.std.specs.Prelude.{◌≡◌, cond, List, ◌++◌, ℕ, leb, length, drop, Ok, Err}
use Rattle.std.specs.declared.result.Result.{Result}
use Rattle.settle.specs.Grid.{Grid, area}
use Rattle.settle.specs.Shown.{Shown}
use Rattle.settle.specs.Table.{is_good}
use Rattle.settle.specs.Step.{step, after, changes, shown_table}
use Rattle.settle.specs.declared.Unsettled.{Unsettled}
use Rattle.settle.specs.declared.Unsettled.TheVariants.{Off, Short}

-- so many steps are asked for, of the table t, with a lent result of `room` cells: how many changed something, or what is in the way
unfoldable pub answer : (g : Grid) (times : ℕ) (t : List ℕ) (room : ℕ) → Result ℕ Unsettled
answer g times t room =
    cond (is_good g t) (cond (leb (area g) room) (Ok (changes (step g) g.unit times t)) (Err Short)) (Err Off)

-- where steps were taken the result begins with the table, and the cells past it keep their values; else all cells do
unfoldable pub result : (r : Result ℕ Unsettled) (table lent : List ℕ) → List ℕ
result (Ok steps) table lent = table ++ drop (length table) lent
result (Err why) table lent = lent

-- the answer r, and the lent cells before and after, of a function that takes so many steps from t and hands out `table`
pub record Answers (g : Grid) (times : ℕ) (t table lent lent' : List ℕ) (r : Result ℕ Unsettled) : Type 0 where
  pub is : r ≡ answer g times t (length lent)
  pub cells : lent' ≡ result r table lent

-- the promise of `step`, and that of `show`
abbrev pub AnswersStep : (g : Grid) (times : ℕ) (t lent lent' : List ℕ) (r : Result ℕ Unsettled) → Type 0
AnswersStep g times t lent lent' r = Answers g times t (after (step g) times t) lent lent' r

abbrev pub AnswersShow : (g : Grid) (t lent lent' : List ℕ) (r : Result ℕ Unsettled) → Type 0
AnswersShow g t lent lent' r = Answers g (length t) t (shown_table g t) lent lent' r

-- what a caller has of `show` for a good table and enough room: the lent cells begin with a table that may be shown, and the others are
-- as they were
pub record Showing (g : Grid) (t lent lent' : List ℕ) (r : Result ℕ Unsettled) : Type 0 where
  pub is : r ≡ Ok (changes (step g) g.unit (length t) t)
  pub cells : lent' ≡ shown_table g t ++ drop (area g) lent
  pub shown : Shown g t lent'
