-- Two outcomes that one promise of the desk allows are equal.
use mathlib.Core.Path.{◌≡◌, refl, sym, ap, ◌∙◌}
use mathlib.Core.List.{List, [], ◌∷◌}
use mathlib.Core.Logic.{◌≢◌}
use Prim.Native.Nat.{ℕ}
use native.Mathlib.Nat.{mul-one}
use Rattle.std.specs.Prelude.{⊤, Result, Ok, Err}
use Rattle.search.proofs.LawTest.{clash}
use Rattle.little.specs.Part.{part_of}
use Rattle.little.proofs.LawPart.{runs_decide}
use Rattle.answers.specs.Answer.{code_of}
use Rattle.answers.specs.declared.bundle.BundleFault.{BundleFault}
use Rattle.bundle.specs.Bundle.{sheet_count, cells_per_sheet}
use Rattle.desk.specs.Lent.{Sources, Lent}
use Rattle.headers.specs.Sheet.{line_count}
use Rattle.desk.specs.Account.{line_outcome}
use Rattle.desk.specs.Table.{cells_after, ExactTable}
use Rattle.desk.specs.Declare.{shown_after, Declared}
use Rattle.desk.specs.Works.{Results, run_of, AsAlone, SheetBySheet, AllZero, BundleDeclared}
use Rattle.answers.specs.declared.answer.Refusal.{Refusal}

pub exact_table_once : (f : Lent) (cells : List ℕ) (r q : Result ⊤ Refusal) (x y : List ℕ) → ExactTable f cells r x → ExactTable f cells q y
    → (r ≡ q) × (x ≡ y)
exact_table_once f cells r q x y p h =
    let e : r ≡ q = p.answer ∙ sym h.answer in
    (e, p.table ∙ ap (λ (o : Result ⊤ Refusal). cells_after o (line_count f.sheet) (line_outcome f) cells) e ∙ sym h.table)

pub declared_once : (f : Lent) (exact shown : List ℕ) (r q : Result ⊤ Refusal) (x x' y y' : List ℕ) → Declared f exact shown r x y
    → Declared f exact shown q x' y' → (r ≡ q) × (x ≡ x') × (y ≡ y')
declared_once f exact shown r q x x' y y' p h =
    let e : r ≡ q = p.demand1.answer ∙ sym h.demand1.answer in
    let table = ap (λ (o : Result ⊤ Refusal). cells_after o (line_count f.sheet) (line_outcome f) exact) e in
    let shows = ap (λ (o : Result ⊤ Refusal). shown_after o f shown) e in
    (e, p.tables.table ∙ table ∙ sym h.tables.table, p.tables.shows ∙ shows ∙ sym h.tables.shows)

-- ---- a whole works: by every sheet's runs and outcome, and what lies past them

same_results : (x y : Results) → x.exact ≡ y.exact → x.shown ≡ y.shown → x.outcomes ≡ y.outcomes → x ≡ y
same_results x y e s o = rw (e, s, o) refl

module _ (from : Sources) (bundle : List ℕ) (before : Results) where
  sheet_once : (i : ℕ) (x y : Results) → AsAlone from bundle before x i → AsAlone from bundle before y i
      → (run_of bundle i x.exact ≡ run_of bundle i y.exact) × (run_of bundle i x.shown ≡ run_of bundle i y.shown)
      × (part_of x.outcomes i 1 ≡ part_of y.outcomes i 1)
  sheet_once i x y p q =
      let same = declared_once _ _ _ _ _ _ _ _ _ p.declared q.declared in
      (same.1, same.2, p.outcome ∙ ap (λ (o : Result ⊤ Refusal). code_of o ∷ []) same.0 ∙ sym q.outcome)

  taken_once : (x y : Results) → SheetBySheet from bundle before x → SheetBySheet from bundle before y → x ≡ y
  taken_once x y p q =
      let n = sheet_count bundle in
      let c = cells_per_sheet bundle in
      same_results x y
      (runs_decide c n x.exact y.exact (λ i h. (sheet_once i x y (p.sheets i h) (q.sheets i h)).0) (p.exact_past ∙ sym q.exact_past))
      (runs_decide c n x.shown y.shown (λ i h. (sheet_once i x y (p.sheets i h) (q.sheets i h)).1) (p.shown_past ∙ sym q.shown_past))
      (runs_decide 1 n x.outcomes y.outcomes (λ i h. rw (mul-one i) (sheet_once i x y (p.sheets i h) (q.sheets i h)).2) (rw (mul-one n) (p.outcomes_past ∙ sym q.outcomes_past)))

  zeros_once : (x y : Results) → AllZero before x → AllZero before y → x ≡ y
  zeros_once x y p q = same_results x y (p.exact ∙ sym q.exact) (p.shown ∙ sym q.shown) (p.outcomes ∙ sym q.outcomes)

  module _ (x y : Results) where
    cells_once : (r : Result ⊤ BundleFault) → BundleDeclared from bundle before r x → BundleDeclared from bundle before r y → x ≡ y
    cells_once (Ok _) p q = taken_once x y (p.taken refl) (q.taken refl)
    cells_once (Err fault) p q =
        let no : ◌≢◌ {A = Result ⊤ BundleFault} (Err fault) (Ok tt) = λ e. clash (cc) in
        zeros_once x y (p.refused no) (q.refused no)

    pub bundle_declared_once : (r q : Result ⊤ BundleFault) → BundleDeclared from bundle before r x → BundleDeclared from bundle before q y
        → (r ≡ q) × (x ≡ y)
    bundle_declared_once r q p h =
        let e : q ≡ r = h.answer ∙ sym p.answer in
        (sym e, cells_once r p (rw e at h))
