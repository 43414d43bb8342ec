-- Either way gives a quotient and a remainder of x · n by d, and there is only one such quotient. Assumes nothing.
use Rattle.std.proofs.Common.{◌∙◌, mod-lt}
use Rattle.amounts.proofs.LawScaling.{room_scaled, is_quotient, by_whole}
use Rattle.amounts.proofs.scaling.share.Goals as goal

pub returns-then-d-le4611686018427387904 : goal.returns-then-d-le4611686018427387904
returns-then-d-le4611686018427387904 c = is_quotient _ _ _ _ c.divided-shared.ensures

pub doubled-whole-requires : goal.doubled-whole-requires
doubled-whole-requires c = (mod-lt _ c.requires.1, room_scaled _ _ _ c.ranges.x.fits c.requires.0 c.requires.1)

pub returns : goal.returns
returns c = is_quotient _ _ _ _ c.doubled-whole.ensures ∙ by_whole c.args.x c.args.n c.args.d
