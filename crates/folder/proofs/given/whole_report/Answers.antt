-- All of the report is handed back, or nothing; and of a text with room for any such report it is always all.
use mathlib.Core.Path.{◌∙◌}
use Rattle.folder.proofs.LawWhole.{all_told, size_told, none_told, always_whole}
use Rattle.folder.proofs.given.whole_report.Goals as goal

pub slice_bounds-result-end : goal.slice_bounds-result-end
slice_bounds-result-end c = size_told _ _ _ _ _ c.in-Ok.ensures

pub returns-in-Ok-clause-whole : goal.returns-in-Ok-clause-whole
returns-in-Ok-clause-whole c = all_told _ _ _ _ _ c.in-Ok.ensures

pub returns-in-Ok-clause-always : goal.returns-in-Ok-clause-always
returns-in-Ok-clause-always c roomy =
    all_told _ _ _ _ _ c.in-Ok.ensures ∙ always_whole _ _ _ c.in-Ok.ensures.fits roomy

pub returns-in-Err-clause-whole : goal.returns-in-Err-clause-whole
returns-in-Err-clause-whole c = none_told _ _ _ _ _ c.in-Err.ensures

pub returns-in-Err-clause-always : goal.returns-in-Err-clause-always
returns-in-Err-clause-always c roomy =
    none_told _ _ _ _ _ c.in-Err.ensures ∙ always_whole _ _ _ c.in-Err.ensures.fits roomy
