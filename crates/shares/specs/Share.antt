-- A meter reading, and k = n over d: for which share of the production a treatment ran.
use Rattle.std.specs.Prelude.{ℕ, ◌*◌, Bool, false, ◌||◌, cond, leb, eqb, Float, Result, Ok, Err}
use Rattle.amounts.specs.Reading.{parts_per_unit, taken_of}
use Rattle.amounts.specs.declared.reading.ReadingFault.{ReadingFault}
use Rattle.answers.specs.declared.answer.LineFault.{LineFault}
use Rattle.answers.specs.declared.answer.LineFault.TheVariants.{WrongKind, BadReading, ZeroDivisor, KAboveOne}
use Rattle.shares.specs.declared.share.EnergyReading.{EnergyReading}
use Rattle.shares.specs.declared.share.Reading.{Reading}
use Rattle.shares.specs.declared.share.Reading.TheVariants.{None, Hours, Energy, Throughout}
use Rattle.shares.specs.declared.share.Fraction.{Fraction}

-- hours go with k rule 1, energy with 2, throughout with either, none with none
unfoldable pub goes_with : Reading → ℕ → Bool
goes_with None rule = false
goes_with (Hours run production) rule = eqb rule 1
goes_with (Energy e) rule = eqb rule 2
goes_with Throughout rule = eqb rule 1 || eqb rule 2

-- limits, in whole hours, kW and kWh
abbrev pub most_hours : ℕ
most_hours = 8784

abbrev pub most_kilowatts : ℕ
most_kilowatts = 10000

abbrev pub most_kilowatt_hours : ℕ
most_kilowatt_hours = 10_000_000

-- readings in parts of their unit, each within its limit
abbrev pub hours_of : Float → Result ℕ ReadingFault
hours_of x = taken_of parts_per_unit most_hours x

abbrev pub kw_of : Float → Result ℕ ReadingFault
kw_of x = taken_of parts_per_unit most_kilowatts x

abbrev pub kwh_of : Float → Result ℕ ReadingFault
kwh_of x = taken_of parts_per_unit most_kilowatt_hours x

-- k, or what is wrong
abbrev pub Share : Type 0
Share = Result Fraction LineFault

-- k is n over d
abbrev pub part : (n d : ℕ) → Share
part n d = Ok (record { n = n; d = d })

-- n over d, where there is a divisor and n is not above it; an n above d is answered with `excess`
unfoldable pub ratio : (n d : ℕ) (excess : Share) → Share
ratio n d excess = cond (eqb d 0) (Err ZeroDivisor) (cond (leb n d) (part n d) excess)

-- k is exactly 1
abbrev pub exactly_one : Share
exactly_one = part 1 1

-- k for hours, run / production; run above production hours makes k exactly 1
abbrev pub k_for_hours : (run production : ℕ) → Share
k_for_hours run production = ratio run production exactly_one

-- k for energy, kWh × the parts of a unit / (kW × hours), all in parts; an excess means a wrong rating plate, and is refused (11).
-- The divisor is 0 exactly when kW or hours are
abbrev pub k_for_energy : (kwh kw hours : ℕ) → Share
k_for_energy kwh kw hours = ratio (kwh * parts_per_unit) (kw * hours) (Err KAboveOne)

-- what comes of a reading, unless it is bad or over its limit
unfoldable pub if_taken : Result ℕ ReadingFault → (ℕ → Share) → Share
if_taken (Ok t) f = f t
if_taken (Err e) f = Err BadReading

-- of run and production hours
unfoldable pub hours_share : Float → Float → Share
hours_share run production = if_taken (hours_of run) (λ n. if_taken (hours_of production) (λ d. k_for_hours n d))

-- of the three numbers of an energy reading
unfoldable pub energy_share : EnergyReading → Share
energy_share e =
    if_taken (kwh_of e.kwh) (λ kwh. if_taken (kw_of e.kw) (λ kw. if_taken (hours_of e.hours) (λ hours. k_for_energy kwh kw hours)))

unfoldable pub share_of : Reading → Share
share_of None = Err WrongKind
share_of (Hours run production) = hours_share run production
share_of (Energy e) = energy_share e
share_of Throughout = exactly_one

-- k by a reading of a kind that goes with the k rule
unfoldable pub share_by : (reading : Reading) (rule : ℕ) → Share
share_by reading rule = cond (goes_with reading rule) (share_of reading) (Err WrongKind)
