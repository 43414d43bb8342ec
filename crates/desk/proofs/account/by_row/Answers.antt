-- The row that was found in a right book is a good row.
use Rattle.desk.proofs.LawRow.{row_below, hit_good, hit_at}
use Rattle.desk.proofs.account.by_row.Goals as goal

pub row_at-requires : goal.row_at-requires
row_at-requires c =
    row_below _ _ _ c.requires.0.found

pub by_dust-requires : goal.by_dust-requires
by_dust-requires c =
    let there = c.requires.0 in
    let admitted = c.requires.1 in
    record {
      able = record {
        good = rw (c.technique_block.ensures, c.row_at.ensures.eq) (hit_good _ _ _ c.args.book.right (hit_at _ _ _ there.found));
        small = c.row_at.ensures.small;
        activity = admitted.activity;
        reuse = admitted.reuse;
      };
      graded = admitted.graded;
    }
