-- The exact scale first, and where that is not found scale 0.
use Rattle.search.proofs.LawFirst.{or_else_found, or_else_other}
use Rattle.desk.specs.Key.{all_scales}
use Rattle.desk.specs.Row.{row_index}
use Rattle.desk.specs.Inner.{at_scale}
use Rattle.desk.proofs.row.row_index.Goals as goal

pub returns-in-Some : goal.returns-in-Some
unfolding row_index at_scale all_scales
returns-in-Some c = or_else_found _ c.index_of.ensures c.in-Some.is

pub returns : goal.returns
unfolding row_index at_scale all_scales
returns c = or_else_other c.index_of.ensures c.in_default.is c.index_of-2.ensures
