-- As k is below 64 no bit is shifted out, and the shift is a product by 2^k. Assumes nothing.
use Rattle.std.proofs.Common.{◌∙◌, one-mul, arith, lit<, shl_exact}
use Rattle.amounts.proofs.scaling.power.Goals as goal

pub returns : goal.returns
returns c = shl_exact {a = 1} 1 c.args.k 64 (lit< tt) (omega arith) ∙ one-mul _
