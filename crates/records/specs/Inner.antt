-- What private functions and laws use, beside what a promise says. Nothing here is needed to read a promise. Assumes nothing.
use Rattle.std.specs.Prelude.{ℕ, Bool, true, not, ◌&&◌, List, [], ◌∷◌, eqb}
use Rattle.search.specs.Test.{every}
use Rattle.records.specs.Records.{comma, quote, carriage_return, line_feed, ended}

-- the records behind one, where there are any
abbrev pub following : (records : List (List (List ℕ))) → List (List (List ℕ))
following [] = []
following (r ∷ records) = ended r records

-- ---- fields that need no quotes

-- a byte that is no comma, no quote and none of a line end's
unfoldable pub is_plain : (byte : ℕ) → Bool
is_plain byte =
    every (not (eqb byte comma) ∷ not (eqb byte quote) ∷ not (eqb byte carriage_return) ∷ not (eqb byte line_feed) ∷ [])

unfoldable pub all_plain : (field : List ℕ) → Bool
all_plain [] = true
all_plain (b ∷ field) = is_plain b && all_plain field
