-- The paper's table P, as one computed test over the list of its entries. Assumes nothing.
use Rattle.std.proofs.Common.{◌≡◌, ℕ, ◌*◌, ◌/◌, Bool, true, false, ◌&&◌, eqb, List, [], ◌∷◌, Option, Some, None, refl}
use Rattle.amounts.specs.declared.line.Amounts.{Amounts}
use Rattle.amounts.specs.Reading.{parts_per_unit}
use Rattle.amounts.specs.Line.{removed_of, reused_of, discharged_of, admissible, worked_of}

-- G, efficiency, k = n over d, reuse; R, U, D
record Entry : Type 0 where
  G : ℕ
  e : ℕ
  n : ℕ
  d : ℕ
  u : ℕ
  R : ℕ
  U : ℕ
  D : ℕ

abbrev entry : (G e n d u R U D : ℕ) → Entry
entry G e n d u R U D = record { G = G; e = e; n = n; d = d; u = u; R = R; U = U; D = D }

shows : Option Amounts → Entry → Bool
shows (Some a) x = eqb a.generated x.G && (eqb a.removed x.R && (eqb a.reused x.U && eqb a.discharged x.D))
shows None x = false

abbrev right : List Entry → Bool
right [] = true
right (x ∷ xs) = shows (worked_of x.G x.e x.n x.d x.u true) x && right xs

table : List Entry
table =
    entry 0 700 1 1 950 0 0 0
    ∷ entry 1 700 1 1 950 0 0 1
    ∷ entry 10 995 1 3 500 3 3 4
    ∷ entry 1000 700 4000 8000 0 350 0 650
    ∷ entry 1000 950 (900 * parts_per_unit * parts_per_unit) (parts_per_unit / 2 * (3600 * parts_per_unit)) 0 475 0 525
    ∷ entry 1000 1000 1 1 0 1000 0 0
    ∷ entry 1000 700 1 1 1000 700 300 0
    ∷ entry 330_720_000_000 700 1 1 950 231_504_000_000 94_255_200_000 4_960_800_000
    ∷ entry 268_590_000_000 700 1 1 900 188_013_000_000 72_519_300_000 8_057_700_000
    ∷ []

table_right : right table ≡ true
unfolding removed_of reused_of discharged_of admissible table shows
table_right = refl
