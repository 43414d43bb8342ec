-- Bytes laid into a text at a place. Assumes nothing.
use Rattle.std.specs.Prelude.{ℕ, ◌+◌, ◌≤◌, ◌≡◌, List, length}
use Rattle.std.proofs.lemmas.List.Edits.{sets}

-- the text with the bytes stored one after the other from the place `at` on; what would stand past its end is dropped
unfoldable pub laid : (at : ℕ) (bytes text : List ℕ) → List ℕ
laid at bytes text = sets text at bytes

-- r counts these bytes, of which there are at most so many, and the text afterwards has them laid into it
pub record Lays (bytes : List ℕ) (most at : ℕ) (text : List ℕ) (r : ℕ) (text' : List ℕ) : Type 0 where
  pub counts : r ≡ length bytes
  pub few : r ≤ most
  pub holds : text' ≡ laid at bytes text

-- ---- bytes put one after the other, in places that are not far

-- places lie below this
abbrev pub reach : ℕ
reach = 4_294_967_296

-- r is the place where these bytes end, of which there are at most so many, and the text afterwards has them laid into it
pub record Puts (bytes : List ℕ) (most at : ℕ) (text : List ℕ) (r : ℕ) (text' : List ℕ) : Type 0 where
  pub ends : r ≡ at + length bytes
  pub few : length bytes ≤ most
  pub holds : text' ≡ laid at bytes text
