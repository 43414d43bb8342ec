-- A reading is within its limit, and two limits multiplied fit 64 bits.
use Rattle.std.proofs.Common.{arith}
use Rattle.little.proofs.LawNumber.{product_fits}
use Rattle.amounts.proofs.LawReading.{taken_most}
use Rattle.shares.proofs.LawShare.{read_taken}
use Rattle.shares.proofs.share.energy_share.Goals as goal

pub overflow_mul-kwh : goal.overflow_mul-kwh
overflow_mul-kwh c =
    let kwh = taken_most 1000 10_000_000 _ _ (read_taken _ _ _ c.taken.ensures c.in_ok-kwh.was) in
    product_fits 10_000_000_000 1000 kwh (omega arith) tt

pub overflow_mul-kw : goal.overflow_mul-kw
overflow_mul-kw c =
    let kw = taken_most 1000 10000 _ _ (read_taken _ _ _ c.taken-2.ensures c.in_ok-kw.was) in
    let hours = taken_most 1000 8784 _ _ (read_taken _ _ _ c.taken-3.ensures c.in_ok-hours.was) in
    product_fits 10_000_000 8_784_000 kw hours tt
