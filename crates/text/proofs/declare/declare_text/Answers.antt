-- The sheet that was read is declared; where there is none, its refusal stands.
use Rattle.text.proofs.LawConvert.{refused_is}
use Rattle.text.proofs.LawMade.{made_size}
use Rattle.text.proofs.declare.declare_text.Goals as goal

pub returns-in-Err : goal.returns-in-Err
returns-in-Err c =
    let refusal = refused_is _ _ _ _ c.sheet_from_text.ensures
    (λ s. made_size c.args.text.now s) _
    c.in-Err.is in
    rw refusal c.no_sheet.ensures
