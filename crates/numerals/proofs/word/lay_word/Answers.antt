-- The bytes that were laid are the word's: the low ones of the number's eight. Assumes nothing.
use borrow.Author.Rules.{rules}
use Rattle.std.proofs.Common.{◌≡◌, ◌≤◌}
use Rattle.std.specs.Int.{w64, to_le_bytes}
use Rattle.std.specs.Prelude.{min}
use Rattle.std.proofs.Math.Nat.{min-le_right}
use Rattle.numerals.specs.Laid.{Lays}
use Rattle.numerals.specs.Word.{word}
use Rattle.numerals.proofs.LawWord.{lays_word}
use Rattle.numerals.proofs.word.lay_word.Goals as goal

pub returns : goal.returns
returns g c =
    let size : c.min.result ≡ min g.row.N 8 = c.min.ensures in
    let few : c.min.result ≤ 8 = rw size (min-le_right g.row.N 8) in
    let bytes : c.to_le_bytes.result ≡ to_le_bytes w64 c.args.n = search (rules, c.to_le_bytes.ensures) in
    let laid : Lays (word c.min.result c.args.n) c.min.result c.args.at c.args.bytes.now c.lay.result c.lay.new.text =
    lays_word c.min.result c.args.n few bytes c.lay.ensures in
    rw size at laid
