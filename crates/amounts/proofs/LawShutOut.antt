-- Rules near the paper's: each differs from it at a small case, which the statement names and which is computed. Assumes nothing.
use Rattle.std.proofs.Common.{◌≡◌, ℕ, ◌-◌, ◌*◌, ◌/◌, true, pos, Ok, arith}
use lib.Ieee.{Float, binary64, of_bits, to_bits, of_int, div, round}
use Rattle.amounts.specs.Rounding.{rounded_down, rounded_up}
use Rattle.amounts.specs.Line.{whole_share, removed_of, reused_of, discharged_of, amounts_of, ◌over◌, whole, manual_value, Sound}
use Rattle.amounts.specs.Reading.{taken_of, of_parts, parts_bits}

-- D is within one unit of the exact value: of 2 units with 30 % removed and 40 % reused the rule discharges 2, and the manual 0.84
one_unit : Sound 1 (manual_value (whole 2) (1 over 1) 300 400 true) (amounts_of 2 300 1 1 400 true) → ⊥
unfolding removed_of reused_of discharged_of
one_unit s = omega (arith, s.high)

-- R rounded up: of 10 units at 99.5 % and a third of the time, 3.3 are removed
removed_up : removed_of 10 995 1 3 ≡ rounded_up (10 * 995 * 1) (whole_share * 3) → ⊥
unfolding removed_of
removed_up e = omega (arith, e)

-- D rounded down: of 1 unit of which 95 % are reused 0.05 are discharged
discharged_down : discharged_of 1 950 true ≡ rounded_down (1 * (whole_share - 950)) whole_share → ⊥
unfolding discharged_of
discharged_down e = omega (arith, e)

-- k rounded to a percent: a third of 1000 units
k_to_a_percent : removed_of 1000 whole_share 1 3 ≡ rounded_down (1000 * whole_share * (1 * 100 / 3)) (whole_share * 100) → ⊥
unfolding removed_of
k_to_a_percent e = omega (arith, e)

-- a tie down: 0.5 where a unit has one part
tie_down : taken_of 1 1 (of_bits binary64 0x3fe0_0000_0000_0000) ≡ Ok 0 → ⊥
unfolding taken_of of_bits
tie_down e = let z : ◌≡◌ {A = ℕ} 0 1 = cc in omega arith

-- t parts divided by 10 three times, each time rounded: 7 thousandths
abbrev tenth : Float → Float
tenth x = div binary64 x (of_int binary64 (pos 10))

divided_thrice : parts_bits 7 ≡ to_bits binary64 (tenth (tenth (tenth (of_int binary64 (pos 7))))) → ⊥
unfolding parts_bits of_parts of_int div round to_bits
divided_thrice e = omega (arith, e)
