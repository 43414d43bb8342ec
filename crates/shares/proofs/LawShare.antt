-- k is a fraction of at most 1 whose divisor is small.
use Prim.Native.Nat.{ℕ, ◌*◌, ◌≤◌, ◌<◌}
use mathlib.Core.Path.{◌≡◌, refl, sym, ap, ◌∙◌}
use native.Mathlib.Nat.{mul-le-mul, pos_of_ne-zero}
use native.Mathlib.Omega.{arith}
use lib.Dec.{leb, eqb}
use lib.Ieee.{Float}
use borrow.Author.Tests.{eqb-true, eqb-false, leb-true, leb-false, eq-eqb, ne_eqb, le-leb, lt-leb}
use Rattle.search.proofs.LawTest.{clash, either_way}
use Rattle.std.specs.Prelude.{Result, Ok, Err}
use Rattle.amounts.specs.declared.reading.ReadingFault.{ReadingFault}
use Rattle.amounts.specs.Line.{most_divisor}
use Rattle.amounts.specs.Reading.{parts_per_unit}
use Rattle.amounts.proofs.LawReading.{taken_most}
use Rattle.answers.specs.declared.answer.LineFault.TheVariants.{WrongKind, BadReading, ZeroDivisor, KAboveOne}
use Rattle.shares.specs.Share.{most_hours, most_kilowatts, hours_of, kw_of, kwh_of, Share, part, ratio, exactly_one, if_taken}
use Rattle.shares.specs.Share.{goes_with, hours_share, energy_share, share_of, share_by}
use Rattle.shares.specs.declared.share.EnergyReading.{EnergyReading}
use Rattle.shares.specs.declared.share.Reading.{Reading}
use Rattle.shares.specs.declared.share.Reading.TheVariants.{None, Hours, Energy, Throughout}
use Rattle.answers.specs.declared.answer.LineFault.{LineFault}
use Rattle.shares.specs.Inner.{as_read}

-- ---- a reading

-- taken, with what is made of its parts
pub taken : (y : Result ℕ ReadingFault) (t : ℕ) (f : ℕ → Share) → y ≡ Ok t → if_taken y f ≡ f t
unfolding if_taken
taken y t f e = rw e

-- bad or over its limit
pub not_taken : (x y : Result ℕ ReadingFault) (f : ℕ → Share) → x ≡ y → ((n : ℕ) → x ≡ Ok n → ⊥) → Err BadReading ≡ if_taken y f
unfolding if_taken
not_taken x y f e h = rw (← e) (refused x h)
  where
    refused : (x : Result ℕ ReadingFault) → ((n : ℕ) → x ≡ Ok n → ⊥) → Err BadReading ≡ if_taken x f
    refused (Ok t) h = absurd (h t refl)
    refused (Err b) h = refl

-- a number that was read was taken
pub read_taken : (x : Result ℕ LineFault) (y : Result ℕ ReadingFault) (t : ℕ) → x ≡ as_read y → x ≡ Ok t → y ≡ Ok t
unfolding as_read
read_taken x (Ok u) t e is =
    let same : u ≡ t = cc in
    rw same
read_taken x (Err b) t e is = cc

-- ---- n over d, by its three cases

n_of : Share → ℕ
n_of (Ok k) = k.n
n_of (Err e) = 0

d_of : Share → ℕ
d_of (Ok k) = k.d
d_of (Err e) = 0

pub same_part : (a b n d : ℕ) → part a b ≡ part n d → (a ≡ n) × (b ≡ d)
unfolding n_of d_of
same_part a b n d h = (ap n_of h, ap d_of h)

module _ (n d : ℕ) (excess : Share) where
  pub no_divisor : d ≡ 0 → ratio n d excess ≡ Err ZeroDivisor
  unfolding ratio
  no_divisor none = rw (eq-eqb d 0 none)

  pub within : (d ≡ 0 → ⊥) → n ≤ d → ratio n d excess ≡ part n d
  unfolding ratio
  within some most = rw (ne_eqb d 0 some, le-leb n d most)

  pub beyond : (d ≡ 0 → ⊥) → d < n → ratio n d excess ≡ excess
  unfolding ratio
  beyond some above = rw (ne_eqb d 0 some, lt-leb n d above)

  -- there are no others
  pub by_case : {P : Type 0} → (ratio n d excess ≡ Err ZeroDivisor → P) → ((d ≡ 0 → ⊥) → n ≤ d → ratio n d excess ≡ part n d → P)
      → (d < n → ratio n d excess ≡ excess → P) → P
  by_case none part more =
      either_way (eqb d 0)
      (λ z. none (no_divisor (eqb-true d 0 z)))
      (λ z. either_way (leb n d)
      (λ l. part (eqb-false d 0 z) (leb-true n d l) (within (eqb-false d 0 z) (leb-true n d l)))
      (λ l. more (leb-false n d l) (beyond (eqb-false d 0 z) (leb-false n d l))))

-- ---- a share is fair

pub record Fair (n d : ℕ) : Type 0 where
  pub fraction : n ≤ d
  pub divisor : 0 < d
  pub size : d ≤ most_divisor

one_fair : (n d : ℕ) → exactly_one ≡ part n d → Fair n d
one_fair n d h =
    let e = same_part 1 1 n d h in
    record { fraction = omega arith; divisor = omega arith; size = omega arith }

ratio_fair : (a b n d : ℕ) (excess : Share) → b ≤ most_divisor → (excess ≡ part n d → Fair n d) → ratio a b excess ≡ part n d → Fair n d
ratio_fair a b n d excess small fair h =
    by_case a b excess
    (λ e. let r : Err ZeroDivisor ≡ part n d = sym e ∙ h in clash (cc))
    (λ some most e.
    let same = same_part a b n d (sym e ∙ h) in
    record { fraction = omega arith; divisor = omega (arith, pos_of_ne-zero some); size = omega arith })
    (λ above e. fair (sym e ∙ h))

-- where a share comes out, the reading was taken
pub part_taken : {P : Type 0} (x : Result ℕ ReadingFault) (f : ℕ → Share) (n d : ℕ) → if_taken x f ≡ part n d → ((t : ℕ) → x ≡ Ok t → f t ≡ part n d → P) → P
unfolding if_taken
part_taken (Ok t) f n d h go = go t refl h
part_taken (Err e) f n d h go = clash (cc)

of_fair : (reading : Reading) (n d : ℕ) → share_of reading ≡ part n d → Fair n d
unfolding share_of hours_share energy_share
of_fair None n d h = clash (cc)
of_fair (Hours run production) n d h =
    part_taken (hours_of run) _ n d h
    (λ a p g. part_taken (hours_of production) _ n d g
    (λ b q r. ratio_fair a b n d exactly_one (omega (arith, taken_most parts_per_unit most_hours b production q)) (one_fair n d) r))
of_fair (Energy e) n d h =
    part_taken (kwh_of e.kwh) _ n d h
    (λ kwh p g. part_taken (kw_of e.kw) _ n d g
    (λ kw q r. part_taken (hours_of e.hours) _ n d r
    (λ hours s v.
    let most : kw * hours ≤ parts_per_unit * most_kilowatts * (parts_per_unit * most_hours) =
    mul-le-mul (taken_most parts_per_unit most_kilowatts kw e.kw q) (taken_most parts_per_unit most_hours hours e.hours s) in
    let refused : Err KAboveOne ≡ part n d → Fair n d = λ w. clash (cc) in
    ratio_fair (kwh * parts_per_unit) (kw * hours) n d (Err KAboveOne) (omega arith) refused v)))
of_fair Throughout n d h = one_fair n d h

pub share_fair : (reading : Reading) (rule n d : ℕ) → share_by reading rule ≡ part n d → Fair n d
unfolding share_by
share_fair reading rule n d h =
    either_way (goes_with reading rule)
    (λ g. of_fair reading n d (rw g at h))
    (λ g. let r : Err WrongKind ≡ part n d = rw g at h in clash (cc))

-- ---- k depends on a reading only through its kind and what its numbers are taken as

pub hours_alike : (run production run' production' : Float) → hours_of run ≡ hours_of run' → hours_of production ≡ hours_of production'
    → (rule : ℕ) → share_by (Hours run production) rule ≡ share_by (Hours run' production') rule
unfolding share_by goes_with share_of hours_share
hours_alike run production run' production' p q rule = rw (p, q)

pub energy_alike : (e e' : EnergyReading) → kwh_of e.kwh ≡ kwh_of e'.kwh → kw_of e.kw ≡ kw_of e'.kw → hours_of e.hours ≡ hours_of e'.hours
    → (rule : ℕ) → share_by (Energy e) rule ≡ share_by (Energy e') rule
unfolding share_by goes_with share_of energy_share
energy_alike e e' p q r rule = rw (p, q, r)
