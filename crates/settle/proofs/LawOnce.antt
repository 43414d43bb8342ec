-- The answer is one of the definition, and the lent cells are computed from it: so two outcomes that a promise allows are equal.
use mathlib.Core.Path.{◌≡◌, sym, ap, ◌∙◌}
use mathlib.Core.List.{List}
use Rattle.std.specs.declared.result.Result.{Result}
use Prim.Native.Nat.{ℕ}
use Rattle.settle.specs.Grid.{Grid}
use Rattle.settle.specs.Answer.{result, Answers}
use Rattle.settle.specs.declared.Unsettled.{Unsettled}

pub answers_once : {g : Grid} {times : ℕ} {t table lent x y : List ℕ} {r q : Result ℕ Unsettled} →
    Answers g times t table lent x r → Answers g times t table lent y q → (r ≡ q) × (x ≡ y)
answers_once {table = table} {lent = lent} p h =
    let e = p.is ∙ sym h.is in
    (e, p.cells ∙ ap (λ (o : Result ℕ Unsettled). result o table lent) e ∙ sym h.cells)
