-- The used readings of a line: each is taken, or the line is refused.
use Rattle.std.specs.Result.{result_ok}
use Rattle.std.specs.Prelude.{Err, Ok, Result}
use Prim.Native.Nat.{ℕ}
use mathlib.Core.Path.{◌≡◌, refl}
use mathlib.Core.List.{List, ◌∷◌}
use Rattle.std.specs.Prelude.{Option, None, Some}
use Rattle.search.proofs.LawTest.{clash}
use Rattle.amounts.specs.declared.reading.ReadingFault.{ReadingFault}
use Rattle.text.specs.Written.{ahead, all_taken}

-- a reading x, which the rules read as y
module _ (x y : Result ℕ ReadingFault) (readings : List (Result ℕ ReadingFault)) (same : x ≡ y) where
  pub first_taken : (t : ℕ) → Some t ≡ result_ok x → all_taken (y ∷ readings) ≡ ahead t (all_taken readings)
  unfolding all_taken
  first_taken t is = rw (← same) (taken x is)
    where
      taken : (z : Result ℕ ReadingFault) → Some t ≡ result_ok z → all_taken (z ∷ readings) ≡ ahead t (all_taken readings)
      taken (Ok u) e = let n : t ≡ u = cc in rw n refl
      taken (Err fault) e = clash (cc)

  -- over its limit, or bad
  pub first_bad : None ≡ result_ok x → all_taken (y ∷ readings) ≡ None
  unfolding all_taken
  first_bad is = rw (← same) (refused x is)
    where
      refused : (z : Result ℕ ReadingFault) → None ≡ result_ok z → all_taken (z ∷ readings) ≡ None
      refused (Ok t) e = clash (cc)
      refused (Err fault) e = refl

-- where all are taken the first is, and the others are
pub taken_first : {P : Type 0} (first : Result ℕ ReadingFault) (others : List (Result ℕ ReadingFault)) (ts : List ℕ) → all_taken (first ∷ others) ≡ Some ts
    → ((t : ℕ) (rest : List ℕ) → first ≡ Ok t → all_taken others ≡ Some rest → t ∷ rest ≡ ts → P) → P
unfolding all_taken
taken_first (Err fault) others ts h then = clash (cc)
taken_first {P} (Ok t) others ts h then = go (all_taken others) refl h
  where
    go : (o : Option (List ℕ)) → all_taken others ≡ o → ahead t o ≡ Some ts → P
    go None e h = clash (cc)
    go (Some rest) e h = then t rest refl e (cc)
