-- All of the row was put, or there was no room for it and the bytes are cleared.
use native.Mathlib.Omega.{arith}
use borrow.Author.Rules.{rules}
use Rattle.desk.proofs.LawBooks.{bytes_few}
use Rattle.report.proofs.LawAdds.{more}
use Rattle.report.proofs.LawReported.{finished}
use Rattle.report.proofs.report_row.Goals as goal

pub put-requires : goal.put-requires
put-requires c = rw (c.row_bytes.ensures, c.new-writer.ensures.start.0) (omega (arith, bytes_few c.args.own.now c.args.book.now c.args.k))

pub returns : goal.returns
returns c =
    let bytes = rw c.row_bytes.ensures at c.put.ensures in
    let wrote = finished c.new-writer.ensures.start (more bytes (bytes_few _ _ _)) c.finish.ensures in
    search (rules, wrote)
