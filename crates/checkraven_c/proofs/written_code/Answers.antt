-- Each case has its number.
use Rattle.checkraven_c.specs.TextCode.{written_code}
use Rattle.checkraven_c.proofs.written_code.Goals as goal

pub returns-in-Ok : goal.returns-in-Ok
unfolding written_code
returns-in-Ok c = rw c.in-Ok.is

pub returns-in-Err : goal.returns-in-Err
unfolding written_code
returns-in-Err c = rw c.in-Err.is c.code.ensures
