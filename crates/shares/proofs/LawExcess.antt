-- What comes of a treatment that is said to have done more than the whole: hours above the production count as all of it, and energy
-- above the rating is refused.
use Prim.Native.Nat.{ℕ, ◌*◌, ◌≤◌, ◌<◌}
use mathlib.Core.Bool.{Bool}
use mathlib.Core.Path.{◌≡◌, sym, ◌∙◌}
use native.Mathlib.Omega.{arith}
use lib.Ieee.{Float}
use Rattle.search.proofs.LawTest.{clash, either_way}
use Rattle.std.specs.Prelude.{Result, Ok, Err}
use Rattle.amounts.specs.declared.reading.ReadingFault.{ReadingFault}
use Rattle.amounts.specs.declared.reading.ReadingFault.TheVariants.{Over}
use Rattle.amounts.specs.Line.{amounts_of}
use Rattle.amounts.specs.Reading.{parts_per_unit}
use Rattle.amounts.proofs.LawLine.{amounts_of_all}
use Rattle.answers.specs.declared.answer.LineFault.TheVariants.{WrongKind, BadReading, ZeroDivisor, KAboveOne}
use Rattle.shares.specs.Share.{hours_of, part, exactly_one, k_for_hours, k_for_energy, if_taken}
use Rattle.shares.specs.Share.{goes_with, hours_share, share_of, share_by}
use Rattle.shares.specs.declared.share.Reading.TheVariants.{Hours, Throughout}
use Rattle.shares.proofs.LawShare.{same_part, taken, part_taken, no_divisor, beyond, by_case}

-- ---- hours

pub outran : (run production : ℕ) → 0 < production → production < run → k_for_hours run production ≡ exactly_one
outran run production some above = beyond run production exactly_one (λ z. omega arith) above

-- so the reading is as good as one that says 'ran throughout'
pub outran_as_throughout : (run production : Float) (n d : ℕ) → hours_of run ≡ Ok n → hours_of production ≡ Ok d → 0 < d → d < n
    → share_by (Hours run production) 1 ≡ share_by Throughout 1
unfolding share_by goes_with share_of hours_share
outran_as_throughout run production n d p q some above =
    taken (hours_of run) n _ p ∙ taken (hours_of production) d _ q ∙ outran n d some above

-- at the production hours and above them the amounts are the same: those of all the hours
pub all_hours_alike : (G e run production u n d : ℕ) (water : Bool) → 0 < production → production ≤ run → k_for_hours run production ≡ part n d
    → amounts_of G e n d u water ≡ amounts_of G e 1 1 u water
all_hours_alike G e run production u n d water some all h =
    by_case run production exactly_one
    (λ k. let r : Err ZeroDivisor ≡ part n d = sym k ∙ h in clash (cc))
    (λ z most k.
    let same = same_part run production n d (sym k ∙ h) in
    let p : production ≡ n = omega arith in
    let q : production ≡ d = same.1 in
    rw (← p, ← q) (amounts_of_all G e production u water some))
    (λ above k.
    let same = same_part 1 1 n d (sym k ∙ h) in
    rw (← same.0, ← same.1))

-- rule 11 is not for hours
never_above : (x y : Result ℕ ReadingFault) → if_taken x (λ n. if_taken y (λ d. k_for_hours n d)) ≡ Err KAboveOne → ⊥
unfolding if_taken
never_above (Err e) y h = clash (cc)
never_above (Ok n) (Err e) h = clash (cc)
never_above (Ok n) (Ok d) h =
    by_case n d exactly_one
    (λ k. let r : Err ZeroDivisor ≡ Err KAboveOne = sym k ∙ h in clash (cc))
    (λ some most k. let r : part n d ≡ Err KAboveOne = sym k ∙ h in clash (cc))
    (λ above k. let r : exactly_one ≡ Err KAboveOne = sym k ∙ h in clash (cc))

pub hours_never_above_one : (run production : Float) (rule : ℕ) → share_by (Hours run production) rule ≡ Err KAboveOne → ⊥
unfolding share_by share_of hours_share
hours_never_above_one run production rule h =
    either_way (goes_with (Hours run production) rule)
    (λ g. never_above (hours_of run) (hours_of production) (rw g at h))
    (λ g. let r : Err WrongKind ≡ Err KAboveOne = rw g at h in clash (cc))

-- rules 9 and 10 come before: where k comes out of hours, both were read and are within their limit, and the production is not 0
pub hours_taken : {P : Type 0} (run production : Float) (rule n d : ℕ) → share_by (Hours run production) rule ≡ part n d
    → ((a b : ℕ) → hours_of run ≡ Ok a → hours_of production ≡ Ok b → (b ≡ 0 → ⊥) → P) → P
unfolding share_by share_of hours_share
hours_taken run production rule n d h go =
    either_way (goes_with (Hours run production) rule)
    (λ g. part_taken (hours_of run) _ n d (rw g at h)
    (λ a p v. part_taken (hours_of production) _ n d v
    (λ b q w. go a b p q (λ z. let r : Err ZeroDivisor ≡ part n d = sym (no_divisor a b exactly_one z) ∙ w in clash (cc)))))
    (λ g. let r : Err WrongKind ≡ part n d = rw g at h in clash (cc))

-- so run hours over their limit are refused with 9, whatever the production
pub limit_first : (run production : Float) → hours_of run ≡ Err Over → share_by (Hours run production) 1 ≡ Err BadReading
unfolding share_by goes_with share_of hours_share if_taken
limit_first run production h = rw h

-- ---- energy

pub over_rating : (kwh kw hours : ℕ) → 0 < kw * hours → kw * hours < kwh * parts_per_unit → k_for_energy kwh kw hours ≡ Err KAboveOne
over_rating kwh kw hours some above = beyond (kwh * parts_per_unit) (kw * hours) (Err KAboveOne) (λ z. omega arith) above
