-- A fan that ran longer than its furnace: the line is accounted for as one that ran throughout, and demand 2 reads its k as exactly 1.
use Prim.Native.Nat.{ℕ, ◌+◌, ◌<◌}
use mathlib.Core.Path.{◌≡◌, sym, ◌∙◌}
use mathlib.Core.List.{List}
use lib.Ieee.{Float}
use borrow.Author.Tests.{ne_eqb}
use Rattle.std.specs.Prelude.{Option, Some, None, Ok}
use Rattle.search.proofs.LawTest.{clash}
use Rattle.headers.specs.Book.{technique_block}
use Rattle.shares.specs.Share.{hours_of, goes_with, share_of, share_by}
use Rattle.shares.specs.declared.share.Reading.TheVariants.{Hours, Throughout}
use Rattle.shares.proofs.LawExcess.{outran_as_throughout}
use Rattle.desk.specs.Lent.{Sources}
use Rattle.desk.specs.Book.{technique_efficiency}
use Rattle.desk.specs.Row.{Hit, row_of}
use Rattle.desk.specs.Books.{book_for}
use Rattle.desk.specs.Technique.{technique_index}
use Rattle.desk.specs.Account.{treats, by_technique, treatment_of, account_of}
use Rattle.desk.specs.Demands.{LineDemand}
use Rattle.desk.specs.declared.line.Line.{Line}
use Rattle.desk.specs.declared.row.Row.{Row}
use Rattle.desk.specs.declared.account.Treatment.{Treatment}
use Rattle.desk.proofs.LawAccount.{treats_parts}
use Rattle.desk.proofs.LawAlike.{with_reading, technique_alike, account_alike}

-- of a row by hours, 'ran throughout' makes k exactly 1
throughout_k : (t : List ℕ) (row : Row) (place : Option ℕ) (e n d : ℕ) → row.rule ≡ 1 → by_technique t row Throughout place ≡ treats e n d
    → (n ≡ 1) × (d ≡ 1)
unfolding share_by goes_with share_of
throughout_k t row None e n d by-hours h = clash (cc)
throughout_k t row (Some j) e n d by-hours h =
    let k : Treatment = record { efficiency = technique_efficiency t (row.first + j); ran = record { n = 1; d = 1 } } in
    let same = treats_parts k e n d (rw by-hours at h) in
    (sym same.1, sym same.2)

-- run and production hours that are read as so many parts, the run above the production
module _ (run production : Float) (more most : ℕ) (ran : hours_of run ≡ Ok more) (produced : hours_of production ≡ Ok most) (some : 0 < most)
    (above : most < more) where
  alike : (row : Row) → row.rule ≡ 1 → share_by (Hours run production) row.rule ≡ share_by Throughout row.rule
  alike row by-hours = rw by-hours (outran_as_throughout run production more most ran produced some above)

  pub outran_line : (from : Sources) (line : Line) (row : Row) → row_of (book_for from line.key) line.key ≡ Hit row → row.rule ≡ 1
      → account_of from (with_reading line (Hours run production)) ≡ account_of from (with_reading line Throughout)
  outran_line from line row hit by-hours =
      account_alike from line (Hours run production) Throughout
      (λ found there treated. let same : row ≡ found = cc in rw (← same) (alike row by-hours))

  -- k of the exact value that D is held to
  pub outran_demand : (from : Sources) (line : Line) (G R U D F : ℕ) (demand : LineDemand from line G R U D F) → demand.row.rule ≡ 1
      → (line.technique ≡ 0 → ⊥) → line.reading ≡ Hours run production → (demand.n ≡ 1) × (demand.d ≡ 1)
  unfolding treatment_of
  outran_demand from line G R U D F demand by-hours treated reading =
      let t = technique_block (book_for from line.key) in
      let row = demand.row in
      let place = technique_index t row.first row.techniques line.technique in
      let as-hours : by_technique t row (Hours run production) place ≡ treats demand.efficiency demand.n demand.d =
      rw (ne_eqb line.technique 0 treated, reading) at demand.treated in
      throughout_k t row place _ _ _ by-hours (sym (technique_alike t row (Hours run production) Throughout (alike row by-hours) place) ∙ as-hours)
