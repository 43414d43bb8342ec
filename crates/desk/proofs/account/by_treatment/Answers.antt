-- The numbers of a treatment in a good row are admissible, so that the amounts are worked from them.
use mathlib.Core.Path.{sym, ◌∙◌}
use native.Mathlib.Omega.{arith}
use Rattle.desk.proofs.LawAccount.{treatment_admissible, generated_small}
use Rattle.desk.proofs.account.by_treatment.Goals as goal

pub amounts_of-amounts-requires : goal.amounts_of-amounts-requires
amounts_of-amounts-requires c =
    let able = c.requires.0 in
    treatment_admissible _ able.reuse _ _ able.good _ _ _ _ _ (sym c.treatment_of.ensures ∙ c.in_ok-treatment.was)

pub row_from-requires : goal.row_from-requires
row_from-requires c =
    let able = c.requires.0 in
    let small = generated_small c.args.row c.args.line able.good.coefficient able.activity in
    rw (c.amounts_of-amounts.ensures, c.generated.ensures) (omega (arith, small, c.requires.1))
