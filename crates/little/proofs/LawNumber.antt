-- A product is at most the product of its factors' bounds, and that is compared as a numeral. Assumes nothing.
use Prim.Native.Nat.{ℕ, ◌*◌, ◌^◌, ◌≤◌}
use native.Mathlib.Nat.{mul-le-mul, lt_of_le_of_lt}
use lib.Dec.{T, ltb, ltb→lt}
use mir.Syntax.{w64}
use mir.Val.{Fits}

-- a product of two numbers that are at most bounds whose product is below 2 ^ 64
pub product_fits : (m n : ℕ) {a b : ℕ} → a ≤ m → b ≤ n → T (ltb (m * n) (2 ^ 64)) → Fits w64 (a * b)
product_fits m n ha hb t = record { fits = lt_of_le_of_lt (mul-le-mul ha hb) (ltb→lt (m * n) (2 ^ 64) t) }
