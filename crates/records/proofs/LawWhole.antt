-- A field that needs no quotes: it is the text's first field up to the comma or the line end behind it, and holds itself. Assumes nothing.
use Prim.Native.Nat.{ℕ, ◌+◌}
use mathlib.Core.Path.{◌≡◌, refl, ap, ◌∙◌}
use mathlib.Core.Bool.{Bool, true, false, and-false}
use mathlib.Core.List.{List, [], ◌∷◌, ◌++◌, append-nil}
use native.Mathlib.Omega.{arith}
use lib.Dec.{leb, eqb}
use lib.ListN.{length, drop}
use borrow.Author.Tests.{not-true, leb-true, leb-false}
use Rattle.search.specs.Test.{every}
use Rattle.search.proofs.LawTest.{and_left, and_right, every_at}
use Rattle.records.specs.Records.{comma, quote, carriage_return, line_feed, Pieces, record_in, onto, pieces, is_quoted, content_of}
use Rattle.records.specs.Follow.{field_ends}
use Rattle.records.specs.Inner.{is_plain, all_plain}
use Rattle.records.proofs.LawField.{end_here, past_end, after_comma, after_line_end}

no_quote : (b : ℕ) → is_plain b ≡ true → eqb b quote ≡ false
unfolding is_plain
no_quote b h = not-true (eqb b quote) (every_at _ h 1)

-- a plain byte belongs to the first field
plain_byte : (b : ℕ) (t : List ℕ) → is_plain b ≡ true → pieces false (b ∷ t) ≡ onto b (pieces false t)
unfolding pieces is_plain
plain_byte b t h =
    rw (no_quote b h, not-true (eqb b comma) (every_at _ h 0), not-true (eqb b carriage_return) (every_at _ h 2))

-- these bytes in front of the first field
abbrev fronted : (bytes : List ℕ) (p : Pieces) → Pieces
fronted bytes p = record { field = bytes ++ p.field; fields = p.fields; records = p.records }

plain_front : (field t : List ℕ) → all_plain field ≡ true → pieces false (field ++ t) ≡ fronted field (pieces false t)
unfolding all_plain
plain_front [] t h = refl
plain_front (b ∷ field) t h =
    plain_byte b (field ++ t) (and_left (is_plain b) (all_plain field) h)
    ∙ ap (onto b) (plain_front field t (and_right (is_plain b) (all_plain field) h))

module _ (field rest : List ℕ) (plain : all_plain field ≡ true) where
  pub field_before_comma : pieces false (field ++ (comma ∷ rest))
      ≡ record { field = field; fields = record_in (pieces false rest); records = (pieces false rest).records }
  field_before_comma = plain_front field (comma ∷ rest) plain ∙ rw (after_comma rest, append-nil field)

  pub field_before_line_end : pieces false (field ++ (carriage_return ∷ line_feed ∷ rest))
      ≡ record { field = field; fields = []; records = record_in (pieces false rest) ∷ (pieces false rest).records }
  field_before_line_end = plain_front field (carriage_return ∷ line_feed ∷ rest) plain ∙ rw (after_line_end rest, append-nil field)

-- the same at a place of the text, where it ends
pub plain_field : (text : List ℕ) (at : ℕ) (field : List ℕ) → all_plain field ≡ true → drop at text ≡ field ++ drop (at + length field) text
    → field_ends text (at + length field) ≡ true → (pieces false (drop at text)).field ≡ field
unfolding field_ends
plain_field text at field plain split ends =
    rw (split, plain_front field (drop end text) plain, nothing (pieces false (drop end text)).field (none (leb (length text) end) refl)) (append-nil field)
  where
    end : ℕ
    end = at + length field

    nothing : (l : List ℕ) → length l ≡ 0 → l ≡ []
    nothing [] e = refl
    nothing (x ∷ l) e = absurd (omega (arith, e))

    none : (past : Bool) → leb (length text) end ≡ past → length (pieces false (drop end text)).field ≡ 0
    none true e = past_end text end false (leb-true (length text) end e)
    none false e = end_here text end false (omega (arith, leb-false (length text) end e)) (rw e at ends)

-- ---- what it holds

no_quotes : (field : List ℕ) → all_plain field ≡ true → is_quoted field ≡ false
unfolding is_quoted every all_plain
no_quotes [] h = refl
no_quotes (b ∷ field) h = rw (no_quote b (and_left (is_plain b) (all_plain field) h), and-false)

pub plain_content : (field : List ℕ) → all_plain field ≡ true → content_of field ≡ field
unfolding content_of
plain_content field h = rw (no_quotes field h)
