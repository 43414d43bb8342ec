use mathlib.Core.Path.{◌≡◌, refl, sym, ap, ◌∙◌}
use mathlib.Core.List.{List, [], ◌∷◌}
use Prim.Native.Nat.{ℕ, suc, ◌+◌, ◌-◌, ◌*◌, ◌≤◌, ◌<◌}
use native.Mathlib.Omega.{arith}
use borrow.Author.Rules.{rules}
use lib.ListN.{length, take, drop, length-set, length-drop, drop_of_length-le}
use lib.Seq.{take_all}
use Rattle.settle.specs.Step as spec
use Rattle.settle.specs.Table.{most_columns}
use Rattle.settle.proofs.LawWalk.{row_in, column_passed, free_most, way_start, way_next, walk_stop, walk_on}
use Rattle.settle.proofs.LawWalk.{column_line, pushing, closing, free_next, free_some}
use Rattle.settle.proofs.round.round_from.Goals as goal

-- the path of so many rows, and how many of its columns the code finds whole
module _ (w k r entered m : ℕ) (t room : List ℕ) (size : length room ≡ most_columns) (most : entered ≤ most_columns) where
  abbrev path : List ℕ
  path = drop (most_columns - entered) room

  pub path_length : length path ≡ entered
  path_length = omega (arith, length-drop (most_columns - entered) room)

  module _ (e : m ≡ spec.closes w k t r (take (most_columns - (most_columns - entered)) path)) where
    pub closed : m ≡ spec.closes w k t r path
    closed = rw (take_all (most_columns - (most_columns - entered)) path (omega (arith, path_length))) at e

    -- the walk closes the round there, or goes on
    pub stops : m < entered → spec.closes w k t r path < length path
    stops l = omega (arith, path_length, closed)

    pub goes_on : entered ≤ m → length path ≤ spec.closes w k t r path
    goes_on l = omega (arith, path_length, closed)

pub loop-entered-init : goal.loop-entered-init
loop-entered-init c =
    let way = way_start c.args.grid.unit c.args.grid.columns c.args.grid.rows c.args.t.now c.args.i c.requires.small.wide c.requires.inside c.requires.loose in
    let most = free_most c.args.grid.columns [] c.args.grid.columns in
    let none : drop 5 c.args.room.now ≡ [] = drop_of_length-le c.args.room.now {i = 5} (omega (arith, c.told-room)) in
    rw none
    (record { size = c.told-room; way = way; new = omega (arith, most, c.requires.small.narrow); walk = refl })

pub returns-then-m-entered : goal.returns-then-m-entered
returns-then-m-entered c =
    let a = c.args in
    let l = c.loop-entered in
    let z = c.loop-entered-test.true in
    let u = l.r * a.grid.columns + l.c in
    let m : c.by_unit-m.result ≡ spec.closes a.grid.unit a.grid.columns a.t.now l.r (take (5 - (5 - l.entered)) (drop (5 - l.entered) l.room)) = search rules in
    let e = closed a.grid.unit a.grid.columns l.r l.entered c.by_unit-m.result a.t.now l.room l.invariant.size (omega arith) m in
    let front = closing l.room (5 - l.entered) u c.by_unit-m.result (omega arith) (omega (arith, l.invariant.size)) in
    let closing_here = stops a.grid.unit a.grid.columns l.r l.entered c.by_unit-m.result a.t.now l.room l.invariant.size (omega arith) m c.if-m-entered.true in
    let stop = walk_stop a.grid.unit a.grid.columns a.grid.rows a.t.now (5 - l.entered) (drop (5 - l.entered) l.room) l.r l.c (omega arith) closing_here in
    front ∙ ap (λ (k : ℕ). u ∷ take (suc k) (drop (5 - l.entered) l.room)) e ∙ sym stop ∙ l.invariant.walk

pub seek-e-requires : goal.seek-e-requires
seek-e-requires c =
    let a = c.args in
    let h = c.requires in
    let l = c.loop-entered in
    let m : c.by_unit-m.result ≡ spec.closes a.grid.unit a.grid.columns a.t.now l.r (take (5 - (5 - l.entered)) (drop (5 - l.entered) l.room)) = search rules in
    let further = goes_on a.grid.unit a.grid.columns l.r l.entered c.by_unit-m.result a.t.now l.room l.invariant.size (omega arith) m c.if-m-entered.false in
    let next = way_next h.small.wide h.even l.invariant.way further in
    let d : c.seek-d.result < a.grid.columns = rw c.seek-d.ensures next.col in
    let passed = column_passed h refl d l.r in
    record { unit = h.unit; line = column_line h.small h.even d; from = omega (arith, row_in h refl, l.invariant.way.row); passed = passed }

pub loop-entered-preserved : goal.loop-entered-preserved
loop-entered-preserved c =
    let a = c.args in
    let l = c.loop-entered in
    let m : c.by_unit-m.result ≡ spec.closes a.grid.unit a.grid.columns a.t.now l.r (take (5 - (5 - l.entered)) (drop (5 - l.entered) l.room)) = search rules in
    let further = goes_on a.grid.unit a.grid.columns l.r l.entered c.by_unit-m.result a.t.now l.room l.invariant.size (omega arith) m c.if-m-entered.false in
    let next = way_next c.requires.small.wide c.requires.even l.invariant.way further in
    let z : 0 < most_columns - l.entered = omega (arith, c.loop-entered-test.true) in
    let u = l.r * a.grid.columns + l.c in
    let back : most_columns - (l.entered + 1) ≡ most_columns - l.entered - 1 = omega arith in
    let e = pushing l.room (most_columns - l.entered) u z (omega (arith, l.invariant.size)) in
    let on = walk_on _ _ _ _ (most_columns - l.entered) (drop (most_columns - l.entered) l.room) l.r l.c z further in
    record {
      size = simp length-set l.invariant.size;
      way = rw (back, e, c.seek-e.ensures, c.seek-d.ensures) next;
      new = rw (back, e) (free_next l.invariant.way (most_columns - l.entered) l.invariant.new);
      walk = rw (back, e, c.seek-e.ensures, c.seek-d.ensures) (sym on ∙ l.invariant.walk);
    }

pub returns : goal.returns
returns c =
    let l = c.loop-entered in
    absurd (omega (arith, free_some l.invariant.way, l.invariant.new, c.loop-entered-test.false))
