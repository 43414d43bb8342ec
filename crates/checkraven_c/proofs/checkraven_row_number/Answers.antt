-- The row's number for the key of the seven.
use Rattle.checkraven_c.proofs.checkraven_row_number.Goals as goal

pub returns : goal.returns
returns c = rw c.key_of-key.ensures at c.row_number.ensures
