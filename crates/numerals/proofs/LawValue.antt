-- A numeral is read back as its number: each digit more makes ten of what was read, and adds itself. Assumes nothing.
use Prim.Native.Nat.{ℕ, zero, suc, ◌+◌, ◌-◌, ◌*◌, ◌/◌, ◌%◌, ◌^◌, ◌<◌}
use mathlib.Core.Path.{◌≡◌, sym, ◌∙◌}
use mathlib.Core.Bool.{true, false}
use mathlib.Core.List.{List, [], ◌∷◌, ◌++◌}
use native.Mathlib.Nat.{pow-suc}
use native.Mathlib.Omega.{arith}
use lib.Dec.{eqb}
use borrow.Author.Tests.{eqb-true}
use Rattle.search.proofs.LawTest.{either_way}
use Rattle.numerals.specs.Numeral.{most_digits, zero_digit, digit, significant, numeral, value_of}

value_more : (v : ℕ) (xs : List ℕ) (n : ℕ) → value_of v (xs ++ (digit n ∷ [])) ≡ 10 * value_of v xs + n % 10
unfolding value_of
value_more v [] n = omega arith
value_more v (x ∷ xs) n = value_more (10 * v + (x - zero_digit)) xs n

significant_value : (most n : ℕ) → n < 10 ^ most → value_of 0 (significant most n) ≡ n
unfolding significant value_of
significant_value zero n h = omega arith
significant_value (suc most) n h =
    either_way (eqb n 0) (λ (e : eqb n 0 ≡ true). rw e (sym (eqb-true n 0 e)))
    (λ (e : eqb n 0 ≡ false).
    let all : n < 10 ^ most * 10 = rw pow-suc at h in
    let few : n / 10 < 10 ^ most = omega arith in
    rw e (value_more 0 (significant most (n / 10)) n ∙ omega (arith, significant_value most (n / 10) few)))

pub numeral_value : (n : ℕ) → n < 10 ^ most_digits → value_of 0 (numeral n) ≡ n
unfolding numeral value_of
numeral_value n h =
    either_way (eqb n 0) (λ (e : eqb n 0 ≡ true). rw e (sym (eqb-true n 0 e)))
    (λ (e : eqb n 0 ≡ false). rw e (significant_value most_digits n h))
