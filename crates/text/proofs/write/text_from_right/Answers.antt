-- The header and the lines were laid, and have room or not; or a line is refused.
use borrow.Author.Rules.{rules}
use Rattle.text.proofs.LawConvert.{all_laid, all_cleared}
use Rattle.text.proofs.LawSheetText.{bad_line, whole_text, whole_laid, text_size}
use Rattle.text.proofs.write.text_from_right.Goals as goal

pub returns-in-Ok : goal.returns-in-Ok
returns-in-Ok c =
    let header = rw (c.byte_at.ensures.eq, c.byte_at-2.ensures.eq, c.u32_at.ensures.eq) at c.lay_record-at.ensures in
    let lines = c.in-Ok.ensures in
    let s = c.args.sheet.now in
    all_laid _ _ _ _ _ _ _ (whole_text s c.requires _ _ _ header _ _ lines) (whole_laid s c.requires _ _ _ header _ _ lines)
    (text_size s c.requires _ _ _ header _ _ lines) c.finished.ensures

pub returns-in-Err : goal.returns-in-Err
returns-in-Err c = all_cleared _ _ _ _ _ _ (bad_line c.args.sheet.now c.requires _ c.in-Err.ensures) (search rules) c.refused.ensures
