-- What the call gives, added to itself, is the even x's product; an odd x has one more y. Each sum has room because it is at most the
-- whole product. Assumes nothing.
use Rattle.std.proofs.Common.{◌+◌, ◌*◌, arith}
use Rattle.amounts.proofs.LawScaling.{nothing, room_half, room_twice, even_sum, odd_sum}
use Rattle.amounts.proofs.scaling.+doubled.Goals as goal

pub returns-then-x-eq0 : goal.returns-then-x-eq0
returns-then-x-eq0 t c = nothing _ (c.args.y.q * c.args.d + c.args.y.r) _ (omega arith) c.if-x-eq0.true

pub doubled-half-requires : goal.doubled-half-requires
doubled-half-requires t c = (omega arith, (c.requires.0, room_half _ _ _ c.requires.1))

pub plus-even-requires : goal.plus-even-requires
plus-even-requires t c =
    let e = c.doubled-half.ensures in
    (e.rest, e.rest, room_twice c.args.x _ _ _ _ e.whole c.requires.1)

pub plus-requires : goal.plus-requires
plus-requires t c =
    let a = c.args in
    let e = c.plus-even.ensures in
    let half = c.doubled-half.ensures.whole in
    (e.rest, c.requires.0, rw (odd_sum a.x a.y.q a.y.r a.d _ _ _ _ c.if-x-eq0-2.false half e.whole) c.requires.1)

pub returns-then-x-eq0-2 : goal.returns-then-x-eq0-2
returns-then-x-eq0-2 t c =
    let e = c.plus-even.ensures in
    record { whole = even_sum c.args.x _ _ _ _ _ _ c.if-x-eq0-2.true c.doubled-half.ensures.whole e.whole; rest = e.rest }

pub returns-else-x-eq0-2 : goal.returns-else-x-eq0-2
returns-else-x-eq0-2 t c =
    let a = c.args in
    let e = c.plus.ensures in
    let half = c.doubled-half.ensures.whole in
    let even = c.plus-even.ensures.whole in
    record { whole = rw (← (odd_sum a.x a.y.q a.y.r a.d _ _ _ _ c.if-x-eq0-2.false half even)) e.whole; rest = e.rest }
