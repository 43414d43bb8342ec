-- The fields of a binary64's pattern; which patterns are a NaN's is one comparison without the sign, by the kit's law of NaN patterns.
-- Assumes nothing.
use Rattle.std.proofs.Common.{◌≡◌, ℕ, ◌/◌, ◌%◌, ◌<◌, ◌≤◌, true, false, leb, sym, refl, ◌∙◌, le-ltb, lt-ltb}
use lib.Ieee.{Float, nan, inf, fin, binary64, is_nan, nan_bits, of_fields, of_bits}
use lib.Ieee.Bits.{nan_bits_is, nan_bits_above}

-- the sign's bit, the pattern of infinity, and the first binary digit of a normal number, which its pattern leaves out
abbrev pub sign_bit : ℕ
sign_bit = 0x8000_0000_0000_0000

abbrev pub infinity : ℕ
infinity = 0x7ff0_0000_0000_0000

abbrev pub first_digit : ℕ
first_digit = 0x10_0000_0000_0000

-- the exponent's field where it is full, and where the last of a number's 53 digits counts one
abbrev pub full_field : ℕ
full_field = 2047

abbrev pub ones_field : ℕ
ones_field = 1075

pub by_fields : (b : ℕ) → of_bits binary64 b ≡ of_fields binary64 (leb sign_bit b) (b % sign_bit / first_digit) (b % first_digit)
unfolding of_bits
by_fields b = refl

nan_only : (x : Float) → is_nan x ≡ true → x ≡ nan
unfolding is_nan
nan_only nan h = refl
nan_only (inf s) h = cc
nan_only (fin s m e) h = cc

pub pattern_nan : (n : ℕ) → infinity < n % sign_bit → of_bits binary64 n ≡ nan
pattern_nan n h = nan_only (of_bits binary64 n) (sym (nan_bits_is binary64 n) ∙ nan_bits_above binary64 n ∙ lt-ltb _ _ h)

pub pattern_number : (n : ℕ) → n % sign_bit ≤ infinity → nan_bits binary64 n ≡ false
pattern_number n h = nan_bits_above binary64 n ∙ le-ltb _ _ h
