-- The places that are not there count as zeros: the number is scaled by how many there are. Assumes nothing.
use mathlib.Core.Path.{◌≡◌}
use native.Mathlib.Nat.{mul-one}
use native.Mathlib.Omega.{arith}
use Rattle.numerals.proofs.typed.as_places.Goals as goal

pub returns-in_default : goal.returns-in_default
returns-in_default c =
    let three : c.args.size ≡ 3 = omega (arith, c.requires _ c.in_ok-n.was, c.in_default) in
    rw (c.in_ok-n.was, three, mul-one)
