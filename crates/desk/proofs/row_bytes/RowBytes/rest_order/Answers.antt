-- The medium decides where it differs, and else the pollutant.
use mathlib.Core.Path.{◌∙◌}
use Rattle.search.proofs.LawOrder.{first_differ, first_same, last_decides}
use Rattle.desk.specs.Key.{key_from}
use Rattle.desk.proofs.row_bytes.RowBytes.rest_order.Goals as goal

pub returns-then-medium-k : goal.returns-then-medium-k
unfolding key_from
returns-then-medium-k c = rw (← c.byte_in-medium.ensures.eq) (c.cmp.ensures ∙ first_differ _ _ _ _ c.if-medium-k.true)

pub returns : goal.returns
unfolding key_from
returns c =
    rw (← c.byte_in-medium.ensures.eq, ← c.byte_in.ensures.eq)
    (c.cmp-2.ensures ∙ last_decides _ _ ∙ first_same _ _ _ _ c.if-medium-k.false)
