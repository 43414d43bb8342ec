-- One settling step, and the shown table that the steps end in.
--
-- A cell is loose where it is no whole number of units. A closed round is a ring of loose cells, two in each of its rows and two in each
-- of its columns. A step moves the cells of one round by the same amount, so that every sum stays right, until one of them is whole.
--
-- Which round: start at the first loose cell, row by row. In the row where the walk stands, the round is closed if a column by which an
-- earlier row was entered is loose here too, at the newest such column. If not, the walk leaves the row by its first other loose
-- column, and enters the first other row that is loose in that column.
-- Which way: the total of the marked column, where it is in the round, goes up. Where it is not, the cells by which rows were entered go
-- up, or down where they have a minus sign; the other way round where the marked column is column 0, whose total has no minus sign.
--
-- W is the unit, K the number of columns, n that of rows.
use Rattle.std.specs.Prelude.{List, [], ◌∷◌, Bool, true, false, not, ℕ, zero, suc, ◌+◌, ◌-◌, ◌*◌, ◌/◌, ◌%◌, min, eqb, length, set, take}
use Rattle.std.proofs.Math.Decide.{ℕ_discrete, dec_lt}
use Rattle.settle.specs.Grid.{Grid, area}
use Rattle.settle.specs.Shown.{at, Whole}
use Rattle.settle.specs.Table.{limit, most_columns}

-- a, if what is decided holds, else b
abbrev pub pick : {A P : Type 0} (d : Dec P) (a b : A) → A
pick (yes p) a b = a
pick (no q) a b = b

abbrev pub whole? : (W x : ℕ) → Dec (Whole W x)
whole? W x = ℕ_discrete (x % W) 0

-- how many cells are loose
abbrev pub loose_cell : (W x : ℕ) → ℕ
loose_cell W x = pick (whole? W x) 0 1

unfoldable pub loose : (W : ℕ) (t : List ℕ) → ℕ
loose W [] = 0
loose W (x ∷ xs) = loose_cell W x + loose W xs

-- on the line b, b + s, ..: the first loose place from k on, m places, that is not q; k + m if there is none
unfoldable pub seek : (W : ℕ) (t : List ℕ) (b s q m k : ℕ) → ℕ
seek W t b s q zero k = k
seek W t b s q (suc m) k =
    pick (ℕ_discrete k q) (seek W t b s q m (suc k))
    (pick (whole? W (at t (b + k * s))) (seek W t b s q m (suc k)) k)

-- the first loose cell, the table's length if there is none
abbrev pub first_loose : (W : ℕ) (t : List ℕ) → ℕ
first_loose W t = seek W t 0 1 (length t) (length t) 0

-- ---- the round

-- A path is the list of the cells by which its rows were entered, newest first: each row was left by the column of the next newer cell.
-- How many of the path's columns, newest first, are whole in row r before one is loose there
unfoldable pub closes : (W K : ℕ) (t : List ℕ) (r : ℕ) (path : List ℕ) → ℕ
closes W K t r [] = 0
closes W K t r (u ∷ us) = pick (whole? W (at t (r * K + u % K))) (suc (closes W K t r us)) 0

-- the walk stands in row r, which it entered by column c: it closes the round here, or goes on. (f is how many rows it may still enter.)
unfoldable pub walk : (W K n : ℕ) (t : List ℕ) (f : ℕ) (path : List ℕ) (r c : ℕ) → List ℕ
walk W K n t zero path r c = []
walk W K n t (suc f) path r c =
    pick (dec_lt (closes W K t r path) (length path))
    ((r * K + c) ∷ take (suc (closes W K t r path)) path)
    (walk W K n t f ((r * K + c) ∷ path) (seek W t (seek W t (r * K) 1 c K 0) K r n 0) (seek W t (r * K) 1 c K 0))

-- the round that the walk from cell i closes
abbrev pub round_from : (W K n : ℕ) (t : List ℕ) (i : ℕ) → List ℕ
round_from W K n t i = walk W K n t most_columns [] (i / K) (i % K)

-- the column of a path's last cell (x, if it has none): the one by which a round leaves its first row
unfoldable pub end_column : (K x : ℕ) (us : List ℕ) → ℕ
end_column K x [] = x
end_column K x (u ∷ us) = end_column K (u % K) us

-- the cell of column x in u's row: the one by which that row is left
abbrev pub twin : (K x u : ℕ) → ℕ
twin K x u = u / K * K + x

-- ---- the move

-- a row's two cells: u up by p and down by m, its twin the other way
abbrev pub move_pair : (K p m x u : ℕ) (t : List ℕ) → List ℕ
move_pair K p m x u t =
    set (set t u (at t u + p - m)) (twin K x u) (at t (twin K x u) + m - p)

-- all pairs of a path that is left by column x
unfoldable pub move_by : (K p m x : ℕ) (us t : List ℕ) → List ℕ
move_by K p m x [] t = t
move_by K p m x (u ∷ us) t = move_by K p m (u % K) us (move_pair K p m x u t)

-- how far a cell is from the next whole number up, or down; the least of these over the round
abbrev pub room : (up : Bool) (W x : ℕ) → ℕ
room true W x = W - x % W
room false W x = x % W

unfoldable pub least : (W K : ℕ) (up : Bool) (t : List ℕ) (x : ℕ) (us : List ℕ) → ℕ
least W K up t x [] = W
least W K up t x (u ∷ us) =
    min (min (room up W (at t u)) (room (not up) W (at t (twin K x u)))) (least W K up t (u % K) us)

-- whether the cells by which rows were entered go up, where the marked cell is to go up (`lift`) or down: as it has to, if it is one of
-- them; if not, the other way, so that it goes as it has to where it is a twin
unfoldable pub rises : (lift : Bool) (mark : ℕ) (us : List ℕ) → Bool
rises lift mark [] = not lift
rises lift mark (u ∷ us) = pick (ℕ_discrete u mark) lift (rises lift mark us)

-- d in that direction, nothing in the other
abbrev pub part : (up : Bool) (d : ℕ) → ℕ
part true d = d
part false d = 0

-- the table with the round moved by its least room
unfoldable pub move_round : (W K : ℕ) (lift : Bool) (mark : ℕ) (us t : List ℕ) → List ℕ
move_round W K lift mark us t =
    let x = end_column K 0 us in
    let up = rises lift mark us in
    let d = least W K up t x us in
    move_by K (part up d) (part (not up) d) x us t

-- ---- signs

-- Column 0 above the last row, and the other columns of the last row, stand with a minus sign in their row and their column. The mirror
-- has `limit - x` for each such cell x. So in the mirror a round is moved by lowering one of its two cells in a line as much as the
-- other is raised.
unfoldable pub mirror_cell : (K n j x : ℕ) → ℕ
mirror_cell K n j x =
    pick (dec_lt (j + K) (n * K)) (pick (ℕ_discrete (j % K) 0) (limit - x) x) (pick (ℕ_discrete (j % K) 0) x (limit - x))

-- the cells from place j on
unfoldable pub mirrors : (K n j : ℕ) (t : List ℕ) → List ℕ
mirrors K n j [] = []
mirrors K n j (x ∷ xs) = mirror_cell K n j x ∷ mirrors K n (suc j) xs

abbrev pub mirror : (K n : ℕ) (t : List ℕ) → List ℕ
mirror K n t = mirrors K n 0 t

-- the total of the marked column; no cell where the table has no such column
unfoldable pub marked_cell : (K n marked : ℕ) → ℕ
marked_cell K n marked = pick (dec_lt marked K) ((n - 1) * K + marked) (n * K)

-- ---- the step, and where the steps end

-- a step of the mirror. The marked total goes up where its mirror goes down, but for column 0, whose total is its own mirror
unfoldable pub step_mirrored : (g : Grid) (t : List ℕ) → List ℕ
step_mirrored g t =
    let i = first_loose g.unit t in
    let us = round_from g.unit g.columns g.rows t i in
    let mark = marked_cell g.columns g.rows g.marked in
    pick (dec_lt i (length t)) (move_round g.unit g.columns (eqb g.marked 0) mark us t) t

unfoldable pub step : (g : Grid) (t : List ℕ) → List ℕ
step g t = mirror g.columns g.rows (step_mirrored g (mirror g.columns g.rows t))

-- the round that a step moves, and by how much
abbrev pub step_round : (g : Grid) (t : List ℕ) → List ℕ
step_round g t =
    let z = mirror g.columns g.rows t in
    round_from g.unit g.columns g.rows z (first_loose g.unit z)

abbrev pub step_amount : (g : Grid) (t : List ℕ) → ℕ
step_amount g t =
    let us = step_round g t in
    let up = rises (eqb g.marked 0) (marked_cell g.columns g.rows g.marked) us in
    least g.unit g.columns up (mirror g.columns g.rows t) (end_column g.columns 0 us) us

-- f steps, one after the other; and how many of them change something
unfoldable pub after : (next : List ℕ → List ℕ) (f : ℕ) (t : List ℕ) → List ℕ
after next zero t = t
after next (suc f) t = after next f (next t)

unfoldable pub changes : (next : List ℕ → List ℕ) (W f : ℕ) (t : List ℕ) → ℕ
changes next W zero t = 0
changes next W (suc f) t = pick (ℕ_discrete (loose W t) 0) 0 (suc (changes next W f (next t)))

-- the cells in whole units
unfoldable pub units : (W : ℕ) (t : List ℕ) → List ℕ
units W [] = []
units W (x ∷ xs) = x / W ∷ units W xs

-- the shown table: as many steps as there are cells, from the exact table on, and the cells in whole units
unfoldable pub shown_table : (g : Grid) (t : List ℕ) → List ℕ
shown_table g t = units g.unit (after (step g) (area g) t)
