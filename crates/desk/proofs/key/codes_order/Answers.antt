-- The first code that differs decides; those before it are the same, and leave it to the rest.
use mathlib.Core.Path.{◌∙◌}
use Rattle.search.proofs.LawOrder.{first_differ, first_same, last_decides}
use Rattle.desk.specs.Inner.{at_scale, codes_at}
use Rattle.desk.proofs.LawOrder.{from_start}
use Rattle.desk.proofs.key.codes_order.Goals as goal

pub returns-then-industry-k : goal.returns-then-industry-k
unfolding codes_at at_scale
returns-then-industry-k c =
    rw (← from_start _ _ _ c.u16_in-industry.ensures.eq)
    (c.cmp.ensures ∙ first_differ _ _ _ _ c.if-industry-k.true)

pub returns-then-product-k : goal.returns-then-product-k
unfolding codes_at at_scale
returns-then-product-k c =
    rw (← from_start _ _ _ c.u16_in-industry.ensures.eq, ← c.u16_in-product.ensures.eq)
    (c.cmp-then-product-k.ensures ∙ first_differ _ _ _ _ c.if-product-k.true ∙ first_same _ _ _ _ c.if-industry-k.false)

pub returns-then-material-k : goal.returns-then-material-k
unfolding codes_at at_scale
returns-then-material-k c =
    rw (
      ← from_start _ _ _ c.u16_in-industry.ensures.eq,
      ← c.u16_in-product.ensures.eq,
      ← c.u16_in-material.ensures.eq,
    )
    (c.cmp-then-material-k.ensures
    ∙ first_differ _ _ _ _ c.if-material-k.true
    ∙ first_same _ _ _ _ c.if-product-k.false
    ∙ first_same _ _ _ _ c.if-industry-k.false)

pub returns-then-process-k : goal.returns-then-process-k
unfolding codes_at at_scale
returns-then-process-k c =
    rw (
      ← from_start _ _ _ c.u16_in-industry.ensures.eq,
      ← c.u16_in-product.ensures.eq,
      ← c.u16_in-material.ensures.eq,
      ← c.u16_in-process.ensures.eq,
    )
    (c.cmp-then-process-k.ensures
    ∙ first_differ _ _ _ _ c.if-process-k.true
    ∙ first_same _ _ _ _ c.if-material-k.false
    ∙ first_same _ _ _ _ c.if-product-k.false
    ∙ first_same _ _ _ _ c.if-industry-k.false)

pub returns : goal.returns
unfolding codes_at at_scale
returns c =
    rw (
      ← from_start _ _ _ c.u16_in-industry.ensures.eq,
      ← c.u16_in-product.ensures.eq,
      ← c.u16_in-material.ensures.eq,
      ← c.u16_in-process.ensures.eq,
      ← c.u16_in.ensures.eq,
    )
    (c.cmp-2.ensures
    ∙ last_decides _ _
    ∙ first_same _ _ _ _ c.if-process-k.false
    ∙ first_same _ _ _ _ c.if-material-k.false
    ∙ first_same _ _ _ _ c.if-product-k.false
    ∙ first_same _ _ _ _ c.if-industry-k.false)
