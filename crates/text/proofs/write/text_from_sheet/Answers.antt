-- A sheet that is not right is refused first.
use mathlib.Core.Path.{refl, sym, ◌∙◌}
use Rattle.text.proofs.LawConvert.{all_cleared}
use Rattle.text.proofs.LawSheetText.{wrong_sheet}
use Rattle.text.proofs.write.text_from_sheet.Goals as goal

pub returns-else-sheet_ok : goal.returns-else-sheet_ok
returns-else-sheet_ok c =
    all_cleared _ _ _ _ _ _
    (wrong_sheet c.args.sheet.now (sym c.sheet_ok.ensures ∙ c.if-sheet_ok.false)) refl
    c.refused.ensures
