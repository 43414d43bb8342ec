-- Where a field ends and what follows it, at a place of the text. Assumes nothing.
use Rattle.std.specs.Prelude.{ℕ, ◌+◌, Bool, false, cond, ◌&&◌, ◌||◌, List, leb, eqb, length}
use Rattle.little.specs.Read.{byte_at}
use Rattle.records.specs.Records.{comma, carriage_return, line_feed}
use Rattle.records.specs.declared.field.Behind.{Behind}
use Rattle.records.specs.declared.field.Behind.TheVariants.{Field, Record}

-- outside quotes a comma, or a carriage return before a line feed
unfoldable pub ends_field : (text : List ℕ) (at : ℕ) (quoted : Bool) → Bool
ends_field text at quoted =
    cond quoted false (eqb (byte_at text at) comma || (eqb (byte_at text at) carriage_return && eqb (byte_at text (at + 1)) line_feed))

-- a field that is not inside quotes there ends, if not before, with the text
unfoldable pub field_ends : (text : List ℕ) (at : ℕ) → Bool
field_ends text at = leb (length text) at || ends_field text at false

-- after a comma a field of the same record; after a line end, of two bytes, or where the text ends, the next record
unfoldable pub behind : (text : List ℕ) (end : ℕ) → Behind
behind text end =
    cond (leb (length text) end) (Record end) (cond (eqb (byte_at text end) comma) (Field (end + 1)) (Record (end + 2)))
