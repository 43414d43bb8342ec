-- The seven fields that name a row: industry, product, material, process, scale, medium, pollutant.
use Rattle.std.specs.Prelude.{ℕ, ◌+◌, Bool, false, ◌&&◌, ◌||◌, List, [], ◌∷◌, ltb, eqb}
use Rattle.little.specs.Read.{u16_at}
use Rattle.search.specs.Test.{every}
use Rattle.desk.specs.declared.key.Key.{Key}

-- the five codes u16 that a row or a line begins with, and a medium and a pollutant
unfoldable pub key_from : (s : List ℕ) (at medium pollutant : ℕ) → Key
key_from s at medium pollutant =
    record {
      industry = u16_at s at;
      product = u16_at s (at + 2);
      material = u16_at s (at + 4);
      process = u16_at s (at + 6);
      scale = u16_at s (at + 8);
      medium = medium;
      pollutant = pollutant;
    }

abbrev pub key_fields : Key → List ℕ
key_fields k = k.industry ∷ k.product ∷ k.material ∷ k.process ∷ k.scale ∷ k.medium ∷ k.pollutant ∷ []

-- dictionary order: the first fields that differ decide
abbrev pub before : List ℕ → List ℕ → Bool
before [] ys = false
before (x ∷ xs) [] = false
before (x ∷ xs) (y ∷ ys) = ltb x y || eqb x y && before xs ys

unfoldable pub key_less : Key → Key → Bool
key_less a b = before (key_fields a) (key_fields b)

unfoldable pub key_same : Key → Key → Bool
key_same a b =
    every
    (eqb a.industry b.industry
    ∷ eqb a.product b.product
    ∷ eqb a.material b.material
    ∷ eqb a.process b.process
    ∷ eqb a.scale b.scale
    ∷ eqb a.medium b.medium
    ∷ eqb a.pollutant b.pollutant
    ∷ [])

-- the same with scale 0, which stands for all scales
unfoldable pub all_scales : Key → Key
all_scales k =
    record {
      industry = k.industry;
      product = k.product;
      material = k.material;
      process = k.process;
      scale = 0;
      medium = k.medium;
      pollutant = k.pollutant;
    }
