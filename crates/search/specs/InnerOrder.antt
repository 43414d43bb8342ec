-- How one list of numbers stands to another.
use Rattle.std.specs.Prelude.{ℕ, List, [], ◌∷◌}
use Rattle.std.specs.declared.cmp.Ordering.{Ordering}
use Rattle.std.specs.declared.cmp.Ordering.TheVariants.{Equal}
use Rattle.std.specs.Ordering.{nat_cmp, ordering_then}

-- dictionary order: the first that differ decide
unfoldable pub list_order : List ℕ → List ℕ → Ordering
list_order [] ys = Equal
list_order (x ∷ xs) [] = Equal
list_order (x ∷ xs) (y ∷ ys) = ordering_then (nat_cmp x y) (list_order xs ys)
