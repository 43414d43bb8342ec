-- The column by which the round leaves its first row is its last cell's; the least room fits the round; what is moved is the definition's move.
use mathlib.Core.Path.{◌≡◌, ◌∙◌}
use Prim.Native.Nat.{◌-◌, ◌%◌}
use borrow.Author.Rules.{rules}
use lib.ListN.{length, get_or}
use Rattle.settle.specs.Inner.{Measured}
use Rattle.settle.specs.Step.{least}
use Rattle.settle.proofs.LawStepMirrored.{last_column, move_fits, move_is}
use Rattle.settle.proofs.moving.move_round.Goals as goal

pub by_unit-d-requires : goal.by_unit-d-requires
by_unit-d-requires c =
    let h : Measured c.args.w c.args.k c.args.t.now (get_or c.args.us.now (length c.args.us.now - 1) 0 % c.args.k) c.args.us.now =
    record { unit = c.requires.bounds.unit; wide = c.requires.bounds.wide; trail = rw (last_column _ 0 _ c.requires.closed.some) c.requires.closed.trail } in
    search rules

pub move_by-requires : goal.move_by-requires
move_by-requires c =
    let d : c.by_unit-d.result ≡ least c.args.w c.args.k c.rises-up.result c.args.t.now (get_or c.args.us.now (length c.args.us.now - 1) 0 % c.args.k) c.args.us.now = search rules in
    let x = last_column _ 0 _ c.requires.closed.some in
    let up = c.rises-up.ensures in
    record { bounds = c.requires.bounds; fit = move_fits _ _ _ _ _ _ x up d c.part.ensures c.part-2.ensures c.requires.closed }

pub returns : goal.returns
returns c =
    let d : c.by_unit-d.result ≡ least c.args.w c.args.k c.rises-up.result c.args.t.now (get_or c.args.us.now (length c.args.us.now - 1) 0 % c.args.k) c.args.us.now = search rules in
    let x = last_column _ 0 _ c.requires.closed.some in
    let up = c.rises-up.ensures in
    c.move_by.ensures ∙ move_is _ _ _ _ _ _ x up d c.part.ensures c.part-2.ensures
