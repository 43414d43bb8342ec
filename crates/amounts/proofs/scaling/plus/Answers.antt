-- The quotients fit because the whole sum has room, one more of them too where the remainders reach d; the rest is linear. Assumes nothing.
use Rattle.std.proofs.Common.{arith}
use Rattle.amounts.proofs.LawScaling.{room_quotient, room_carried}
use Rattle.amounts.proofs.scaling.plus.Goals as goal

pub overflow_add-result : goal.overflow_add-result
overflow_add-result c = record { fits = room_quotient _ _ _ c.requires.2 }

pub overflow_add-result-else-a-left : goal.overflow_add-result-else-a-left
overflow_add-result-else-a-left c = record { fits = room_quotient _ _ _ c.requires.2 }

pub overflow_add-result-else-a-left-2 : goal.overflow_add-result-else-a-left-2
overflow_add-result-else-a-left-2 c = record { fits = room_carried _ _ _ c.requires.2 (omega arith) }
