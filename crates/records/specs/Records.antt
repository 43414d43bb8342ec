-- RFC 4180: a text as records of fields. Assumes nothing.
use Rattle.std.specs.Prelude.{ℕ, ◌+◌, ◌-◌, Bool, true, false, not, cond, ◌||◌, List, [], ◌∷◌, leb, eqb, length, drop}
use Rattle.little.specs.Read.{byte_at}
use Rattle.little.specs.Part.{part_of}
use Rattle.search.specs.Test.{every}

abbrev pub comma : ℕ
comma = 44

abbrev pub quote : ℕ
quote = 34

abbrev pub carriage_return : ℕ
carriage_return = 13

abbrev pub line_feed : ℕ
line_feed = 10

-- a text cut up: its first field, the other fields of that record, and the records behind it
pub record Pieces : Type 0 where
  pub field : List ℕ
  pub fields : List (List ℕ)
  pub records : List (List (List ℕ))

abbrev pub no_pieces : Pieces
no_pieces = record { field = []; fields = []; records = [] }

-- the first record
abbrev pub record_in : Pieces → List (List ℕ)
record_in p = p.field ∷ p.fields

-- ---- one more byte in front of a text

-- it belongs to the first field
abbrev pub onto : (byte : ℕ) (p : Pieces) → Pieces
onto byte p = record { field = byte ∷ p.field; fields = p.fields; records = p.records }

-- a comma: an empty field before what was the first
abbrev pub new_field : Pieces → Pieces
new_field p = record { field = []; fields = record_in p; records = p.records }

-- a carriage return: before a line feed the two end a record, and elsewhere it belongs to the field
abbrev pub returned : (field : List ℕ) (p : Pieces) → Pieces
returned [] p = onto carriage_return p
returned (b ∷ field) p =
    cond (eqb b line_feed) (record { field = []; fields = []; records = (field ∷ p.fields) ∷ p.records }) (onto carriage_return p)

-- outside double quotes
abbrev pub outside : (byte : ℕ) (p : Pieces) → Pieces
outside byte p = cond (eqb byte comma) (new_field p) (cond (eqb byte carriage_return) (returned p.field p) (onto byte p))

-- behind a quote stands what it opens or closes
abbrev pub turned : (quoted : Bool) (byte : ℕ) → Bool
turned quoted byte = cond (eqb byte quote) (not quoted) quoted

-- inside double quotes commas and line breaks are plain text; `quoted` tells whether the text begins inside them
unfoldable pub pieces : (quoted : Bool) (text : List ℕ) → Pieces
pieces quoted [] = no_pieces
pieces quoted (byte ∷ text) =
    cond (quoted || eqb byte quote) (onto byte (pieces (turned quoted byte) text)) (outside byte (pieces (turned quoted byte) text))

-- ---- the records of a text

-- one field, and nothing in it
abbrev pub is_blank : (fields : List (List ℕ)) → Bool
is_blank [] = false
is_blank ([] ∷ []) = true
is_blank ([] ∷ g ∷ fields) = false
is_blank ((b ∷ field) ∷ fields) = false

-- a record and those behind it: the last one's line end may be missing, and where it stands nothing follows it
unfoldable pub ended : (fields : List (List ℕ)) (records : List (List (List ℕ))) → List (List (List ℕ))
ended r [] = cond (is_blank r) [] (r ∷ [])
ended r (s ∷ records) = r ∷ ended s records

unfoldable pub records_of : (text : List ℕ) → List (List (List ℕ))
records_of text = ended (record_in (pieces false text)) (pieces false text).records

-- ---- a field

-- where the field that begins at `at` ends
unfoldable pub field_end : (text : List ℕ) (at : ℕ) → ℕ
field_end text at = at + length (pieces false (drop at text)).field

-- it stands in double quotes
unfoldable pub is_quoted : (field : List ℕ) → Bool
is_quoted field = every (leb 2 (length field) ∷ eqb (byte_at field 0) quote ∷ eqb (byte_at field (length field - 1)) quote ∷ [])

-- what it holds: what stands between its quotes, or all of it. Between them `""` stands for a quote; it is left as it is, since a numeral
-- has neither
unfoldable pub content_of : (field : List ℕ) → List ℕ
content_of field = cond (is_quoted field) (part_of field 1 (length field - 2)) field
