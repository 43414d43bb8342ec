-- Readers near RFC 4180: each cuts a small text otherwise than is computed here. Assumes nothing.
use Prim.Native.Nat.{ℕ}
use mathlib.Core.Path.{◌≡◌, refl}
use mathlib.Core.List.{List, [], ◌∷◌, ◌++◌}
use Rattle.search.specs.Test.{every}
use Rattle.records.specs.Records.{comma, quote, carriage_return, line_feed, pieces, ended, records_of, is_quoted, content_of}

-- two bytes of fields, 1 and 2
abbrev one : ℕ
one = 49

abbrev two : ℕ
two = 50

abbrev line_end : List ℕ
line_end = carriage_return ∷ line_feed ∷ []

-- ---- what ends a record

-- one that takes a line feed alone for a line end: 1 LF 2 is one field
pub line_feed_alone : records_of (one ∷ line_feed ∷ two ∷ []) ≡ ((one ∷ line_feed ∷ two ∷ []) ∷ []) ∷ []
unfolding records_of pieces ended
line_feed_alone = refl

-- one that takes a carriage return alone for one: 1 CR 2 is one field
pub return_alone : records_of (one ∷ carriage_return ∷ two ∷ []) ≡ ((one ∷ carriage_return ∷ two ∷ []) ∷ []) ∷ []
unfolding records_of pieces ended
return_alone = refl

-- one that asks for the last line end, or that finds an empty record behind it
pub last_end_missing : records_of (one ∷ comma ∷ two ∷ line_end) ≡ records_of (one ∷ comma ∷ two ∷ [])
unfolding records_of pieces ended
last_end_missing = refl

-- one that drops a blank record: behind 1 and two line ends there is one
pub blank_kept : records_of (one ∷ line_end ++ line_end) ≡ ((one ∷ []) ∷ []) ∷ (([] ∷ []) ∷ [])
unfolding records_of pieces ended
blank_kept = refl

-- one that drops the empty field behind the last comma: 1, is two fields
pub empty_field_kept : records_of (one ∷ comma ∷ []) ≡ ((one ∷ []) ∷ [] ∷ []) ∷ []
unfolding records_of pieces ended
empty_field_kept = refl

-- ---- quotes

-- one that cuts at a comma inside quotes: "1,2" is one field
pub comma_in_quotes : records_of (quote ∷ one ∷ comma ∷ two ∷ quote ∷ []) ≡ ((quote ∷ one ∷ comma ∷ two ∷ quote ∷ []) ∷ []) ∷ []
unfolding records_of pieces ended
comma_in_quotes = refl

-- one that ends a record inside quotes: "1 CR LF 2" is one field
pub line_end_in_quotes : records_of (quote ∷ one ∷ carriage_return ∷ line_feed ∷ two ∷ quote ∷ [])
    ≡ ((quote ∷ one ∷ carriage_return ∷ line_feed ∷ two ∷ quote ∷ []) ∷ []) ∷ []
unfolding records_of pieces ended
line_end_in_quotes = refl

-- one that holds the quotes themselves: "1" holds 1
pub quotes_held : content_of (quote ∷ one ∷ quote ∷ []) ≡ one ∷ []
unfolding content_of is_quoted every
quotes_held = refl

-- one that drops quotes wherever they stand: "1, 1"2 and a lone quote hold themselves, and "1""2" both quotes between its own
pub quotes_kept : (content_of (quote ∷ one ∷ []) ≡ quote ∷ one ∷ []) × (content_of (one ∷ quote ∷ two ∷ []) ≡ one ∷ quote ∷ two ∷ [])
    × (content_of (quote ∷ []) ≡ quote ∷ [])
    × (content_of (quote ∷ one ∷ quote ∷ quote ∷ two ∷ quote ∷ []) ≡ one ∷ quote ∷ quote ∷ two ∷ [])
unfolding content_of is_quoted every
quotes_kept = (refl, refl, refl, refl)
