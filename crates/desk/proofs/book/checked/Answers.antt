-- Where the header is right the technique block is as long as it counts, so that its runs can be filled in, and with them every row is checked.
use native.Mathlib.Omega.{arith}
use Rattle.desk.proofs.LawBook.{header_lies, block_size}
use Rattle.desk.proofs.book.checked.Goals as goal

pub fill_runs-requires : goal.fill_runs-requires
fill_runs-requires c =
    let size = c.technique_count.ensures.eq in
    (omega (arith, header_lies _ c.requires.0), rw (size, c.technique_block.ensures) (block_size _ c.requires.0), omega arith)
