-- The words of a line are its codes, its amounts, its readings and its grades; words of one size are laid one after the other.
use Prim.Native.Nat.{ℕ, zero, suc, ◌+◌, ◌*◌, ◌<◌, ◌≤◌}
use mathlib.Core.Path.{◌≡◌, refl, sym}
use mathlib.Core.List.{List, [], ◌∷◌, ◌++◌, append_assoc, append-nil}
use native.Mathlib.Nat.{mul-suc}
use native.Mathlib.Numerals.{add-one}
use native.Mathlib.Omega.{arith}
use lib.ListN.{length, take, get_or, replicate}
use lib.Seq.{take-suc, length-take-le}
use Rattle.std.proofs.lemmas.List.{take_all}
use Rattle.numerals.specs.Laid.{Lays, Puts}
use Rattle.numerals.specs.Word.{word}
use Rattle.numerals.proofs.LawPuts.{from_place, more, nothing, then}
use Rattle.text.specs.Typed.{line_width}
use Rattle.text.specs.Binary.{reading_bits, words_of, line_words, line_bytes}
use Rattle.text.specs.Inner.{code_bytes, amount_bytes, reading_bytes, grade_bytes}

pub line_runs : (line : List ℕ) → code_bytes line ++ (amount_bytes line ++ (reading_bytes line ++ grade_bytes line)) ≡ line_bytes line
unfolding code_bytes amount_bytes reading_bytes grade_bytes words_of line_words
line_runs line = simp append_assoc

-- ---- words of one size

abbrev pub alike : (size : ℕ) (numbers : List ℕ) → List ℕ
alike size numbers = words_of (replicate (length numbers) size) numbers

one_word : (size : ℕ) (numbers : List ℕ) (n : ℕ) → alike size (numbers ++ (n ∷ [])) ≡ alike size numbers ++ word size n
unfolding words_of
one_word size [] n = append-nil (word size n)
one_word size (m ∷ numbers) n = rw (one_word size numbers n) (sym (append_assoc (word size m) (alike size numbers) (word size n)))

module _ (size : ℕ) (numbers : List ℕ) (at : ℕ) (sheet : List ℕ) where
  -- so many words are laid
  abbrev pub WordsSoFar : (sheet' : List ℕ) (next j : ℕ) → Type 0
  WordsSoFar sheet' next j = Puts (alike size (take j numbers)) (size * j) at sheet next sheet'

  pub words_start : WordsSoFar sheet at 0
  unfolding words_of
  words_start = more (nothing at sheet) (omega arith)

  pub words_step : (sheet' : List ℕ) (next j : ℕ) → WordsSoFar sheet' next j → j < length numbers → (r : ℕ) (sheet'' : List ℕ)
      → Lays (word size (get_or numbers j 0)) size next sheet' r sheet'' → WordsSoFar sheet'' (next + r) (j + 1)
  words_step sheet' next j so_far inside r sheet'' lays =
      rw (add-one j, take-suc numbers j 0 inside, one_word size (take j numbers) (get_or numbers j 0), mul-suc) (then so_far (from_place lays))

  pub words_done : (sheet' : List ℕ) (next j : ℕ) → WordsSoFar sheet' next j → length numbers ≤ j → j ≤ length numbers
      → Puts (alike size numbers) (size * length numbers) at sheet next sheet'
  words_done sheet' next j so_far all most =
      let last : j ≡ length numbers = omega (arith, all, most) in
      rw (last, take_all (length numbers) numbers (omega arith)) at so_far

-- ---- the first numbers are the codes

codes_are : (line : List ℕ) → length line ≡ line_width → alike 2 (take 7 line) ≡ code_bytes line
unfolding code_bytes words_of line_words
codes_are (a ∷ b ∷ c ∷ d ∷ e ∷ f ∷ g ∷ line) size = refl
codes_are _ size = absurd (omega (arith, size))

pub codes_done : (line : List ℕ) → length line ≡ line_width → (at next j : ℕ) (sheet sheet' : List ℕ)
    → WordsSoFar 2 (take 7 line) at sheet sheet' next j → length (take 7 line) ≤ j → j ≤ length (take 7 line)
    → Puts (code_bytes line) 14 at sheet next sheet'
codes_done line size at next j sheet sheet' so_far all most =
    let seven : length (take 7 line) ≡ 7 = length-take-le 7 line (omega (arith, size)) in
    rw (codes_are line size, seven) at (words_done 2 (take 7 line) at sheet sheet' next j so_far all most)

-- ---- the readings

abbrev pub bits : (line : List ℕ) → List ℕ
bits line = reading_bits line 0 ∷ reading_bits line 1 ∷ reading_bits line 2 ∷ []

bit_is : (line : List ℕ) (r : ℕ) → r < 3 → get_or (bits line) r 0 ≡ reading_bits line r
bit_is line zero h = refl
bit_is line (suc zero) h = refl
bit_is line (suc (suc zero)) h = refl
bit_is line (suc (suc (suc r))) h = absurd (omega arith)

pub readings_step : (line : List ℕ) (at : ℕ) (sheet sheet' : List ℕ) (next r : ℕ) → WordsSoFar 8 (bits line) at sheet sheet' next r → r < 3
    → (q : ℕ) (sheet'' : List ℕ) → Lays (word 8 (reading_bits line r)) 8 next sheet' q sheet'' → WordsSoFar 8 (bits line) at sheet sheet'' (next + q) (r + 1)
readings_step line at sheet sheet' next r so_far more q sheet'' lays =
    words_step 8 (bits line) at sheet sheet' next r so_far more q sheet'' (rw (bit_is line r more) lays)

pub readings_done : (line : List ℕ) (at : ℕ) (sheet sheet' : List ℕ) (next r : ℕ) → WordsSoFar 8 (bits line) at sheet sheet' next r → 3 ≤ r → r ≤ 3
    → Puts (reading_bytes line) 24 at sheet next sheet'
unfolding reading_bytes words_of line_words
readings_done line at sheet sheet' next r so_far all most = words_done 8 (bits line) at sheet sheet' next r so_far all most
