-- What the answers for the table being settled tell: 1, 0, 22 or 3 times 65,536, each for its case alone; a count is below 65,536, so that it is
-- no refusal. And two outcomes that a promise allows are equal.
use Prim.Native.Nat.{ℕ, ◌*◌, ◌<◌}
use mathlib.Core.Path.{◌≡◌, sym, ap, ◌∙◌}
use mathlib.Core.List.{List}
use native.Mathlib.Omega.{arith}
use lib.ListN.{length}
use Rattle.answers.specs.Answer.{number_unit}
use Rattle.answers.specs.Step.{step_code, count_code}
use Rattle.std.specs.Prelude.{Result, Ok, Err}
use Rattle.answers.specs.declared.step.Stepped.{Stepped}
use Rattle.answers.specs.declared.step.StepFault.{StepFault}
use Rattle.answers.proofs.LawCode.{step_code_tells}
use Rattle.steps.specs.Step.{step_answer}
use Rattle.steps.specs.Count.{count_answer}
use Rattle.steps.proofs.LawAnswer.{count_few}
use Rattle.steps.proofs.LawOnce.{one_step}
use Rattle.checkraven_c.specs.StepCode.{StepsCode, CountsCode}

-- the number tells the answer
pub step_told : (unit : ℕ) (table next : List ℕ) (r : ℕ) (next' : List ℕ) → StepsCode unit table next r next' → (o : Result Stepped StepFault)
    → r ≡ step_code o → step_answer unit table (length next) ≡ o
step_told unit table next r next' p o e = step_code_tells (step_answer unit table (length next)) o (sym p.answer ∙ e)

pub steps_code_once : (unit : ℕ) (table next : List ℕ) (r q : ℕ) (x y : List ℕ) → StepsCode unit table next r x → StepsCode unit table next q y
    → (r ≡ q) × (x ≡ y)
steps_code_once unit table next r q x y p h = (p.answer ∙ sym h.answer, (one_step p.taken h.taken).1)

pub counts_code_once : (unit : ℕ) (table : List ℕ) (r q : ℕ) → CountsCode unit table r → CountsCode unit table q → r ≡ q
counts_code_once unit table r q p h = p.answer ∙ sym h.answer

-- a count
pub count_small : (unit : ℕ) (table : List ℕ) (r n : ℕ) → CountsCode unit table r → count_answer unit table ≡ Ok n → (r ≡ n) × (n < number_unit)
count_small unit table r n p e = (p.answer ∙ ap count_code e, omega (arith, count_few unit table n e))

pub count_refused : (unit : ℕ) (table : List ℕ) (r : ℕ) → CountsCode unit table r → count_answer unit table ≡ Err (record {}) → r ≡ 22 * number_unit
count_refused unit table r p e = p.answer ∙ ap count_code e
