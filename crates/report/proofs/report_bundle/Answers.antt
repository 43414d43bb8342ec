-- All of the report was put, or there was no room for it and the text is cleared.
use borrow.Author.Rules.{rules}
use Rattle.report.proofs.LawReported.{finished}
use Rattle.report.proofs.report_bundle.Goals as goal

pub returns : goal.returns
returns c = let wrote = finished c.new-writer.ensures.start c.told_bundle.ensures c.finish.ensures in search (rules, wrote)
