-- Tests of many things at once.
use Rattle.std.specs.Prelude.{ℕ, zero, suc, Bool, true, ◌&&◌, List, [], ◌∷◌}

-- the test holds at every number below n
unfoldable pub all : ℕ → (ℕ → Bool) → Bool
all zero p = true
all (suc n) p = all n p && p n

-- each of these holds, taken from the left as in ((a & b) & c)
abbrev pub every_from : Bool → List Bool → Bool
every_from a [] = a
every_from a (x ∷ xs) = every_from (a && x) xs

unfoldable pub every : List Bool → Bool
every [] = true
every (x ∷ xs) = every_from x xs
