-- Two outcomes that a promise allows are equal: the answer is one of the definition, and every lent cell is said. Two steps from one table that
-- keep the sentences are one step, and two counts of it one number.
use mathlib.Core.Path.{◌≡◌, sym, ap, ◌∙◌}
use mathlib.Core.List.{List}
use Prim.Native.Nat.{ℕ, ◌<◌}
use native.Mathlib.Decide.{ℕ_discrete, dec_lt}
use native.Mathlib.Omega.{arith}
use lib.ListN.{length, take-append-drop}
use Rattle.std.specs.Prelude.{Result}
use Rattle.settle.specs.declared.Grid.{Grid}
use Rattle.settle.proofs.LawLine.{by_dec}
use Rattle.answers.specs.Step.{step_number}
use Rattle.answers.specs.declared.step.Stepped.{Stepped}
use Rattle.answers.specs.declared.step.StepFault.{StepFault}
use Rattle.answers.specs.declared.step.TableOff.{TableOff}
use Rattle.steps.specs.Step.{SettlingStep, TakesStep}
use Rattle.steps.specs.Count.{StepCount, CountsSteps}

pub one_settling_step : {g : Grid} {t x y : List ℕ} → SettlingStep g t x → SettlingStep g t y → x ≡ y
one_settling_step p h = p.fixed ∙ sym h.fixed

-- the count is where the steps stop to change anything
pub one_count : {g : Grid} {t : List ℕ} {n m : ℕ} → StepCount g t n → StepCount g t m → n ≡ m
one_count {n = n} {m = m} p h =
    by_dec (dec_lt n m)
    (λ (l : n < m). absurd (h.changing n l (p.ended n (omega arith))))
    (λ q. by_dec (dec_lt m n) (λ (l : m < n). absurd (p.changing m l (h.ended m (omega arith)))) (λ z. omega arith))

pub one_step : {unit : ℕ} {t lent x y : List ℕ} {r q : Result Stepped StepFault} → TakesStep unit t lent r x → TakesStep unit t lent q y
    → (r ≡ q) × (x ≡ y)
one_step {unit} {t} {lent} {x} {y} {r} {q} p h =
    let e = p.answer ∙ sym h.answer in (
      e,
      by_dec (ℕ_discrete (step_number r) 0)
          (λ z.
          let w = ap step_number (sym e) ∙ z in
          let front = one_settling_step (p.settling z) (h.settling w) in
          let past = p.past_kept z ∙ sym (h.past_kept w) in
          sym (take-append-drop (length t) x) ∙ rw (front, past) (take-append-drop (length t) y))
          (λ z. p.refused_zero z ∙ sym (h.refused_zero (λ w. z (ap step_number e ∙ w)))),
    )

pub one_counting : {unit : ℕ} {t : List ℕ} {r q : Result ℕ TableOff} → CountsSteps unit t r → CountsSteps unit t q → r ≡ q
one_counting p h = p.answer ∙ sym h.answer
