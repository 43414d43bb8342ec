use Prim.Native.Nat.{ℕ, ◌+◌, ◌*◌, ◌-◌, ◌/◌, ◌≤◌, ◌<◌}
use mathlib.Core.List.{List}
use mathlib.Core.Path.{◌≡◌, sym, ◌∙◌}
use native.Mathlib.Omega.{arith}
use lib.ListN.{length-set}
use Rattle.little.proofs.LawRead.{u16_past}
use Rattle.headers.specs.Book.{technique_size}
use Rattle.desk.specs.Book.{technique_code, technique_efficiency}
use Rattle.desk.specs.InnerRun.{runs_apart, run_of, run_from}
use Rattle.desk.proofs.LawRun.{run_most, run_by_codes, run_next, run_none, filled_kept, filled_between}
use borrow.Author.Rules.{rules}
use Rattle.desk.proofs.run.fill_runs.Goals as goal

-- the run that is written, at the place before k
run_here : (t : List ℕ) (size k next run code efficiency : ℕ) → code ≡ technique_code t (k - 1) → efficiency ≡ technique_efficiency t (k - 1)
    → next ≡ technique_code t k → run ≡ run_of t (size - k) k → 0 < k → k ≤ size
    → run_from code efficiency next run ≡ run_of t (size - (k - 1)) (k - 1)
run_here t size k next run code efficiency p q r e h l =
    let up : k ≡ k - 1 + 1 = omega arith in
    run_by_codes t (k - 1) run p q (rw up at r) ∙ run_next t size k run h l e

pub loop-k-init : goal.loop-k-init
loop-k-init c =
    (omega arith, run_none _ _ _ (omega arith), sym (u16_past c.args.t.now (technique_size * c.args.size) (omega arith)), search rules, search rules, λ j l m. absurd (omega arith))

pub run_before-run-requires : goal.run_before-run-requires
run_before-run-requires c =
    let l = c.loop-k in
    omega (arith, run_most c.args.t.now (c.args.size - l.k) l.k)

pub overflow_cast-runs : goal.overflow_cast-runs
overflow_cast-runs c =
    let l = c.loop-k in
    let here : c.run_before-run.result ≡ run_of c.args.t.now (c.args.size - (l.k - 1)) (l.k - 1) =
    c.run_before-run.ensures ∙ run_here _ _ l.k _ _ _ _ c.code_in-code.ensures.eq c.efficiency_in.ensures.eq l.invariant.2 l.invariant.1 c.loop-k-test.true l.invariant.0 in
    omega (arith, here, run_most c.args.t.now (c.args.size - (l.k - 1)) (l.k - 1))

pub loop-k-preserved-then-k-eq0 : goal.loop-k-preserved-then-k-eq0
loop-k-preserved-then-k-eq0 c =
    let l = c.loop-k in
    let here : c.run_before-run.result ≡ run_of c.args.t.now (c.args.size - (l.k - 1)) (l.k - 1) =
    c.run_before-run.ensures ∙ run_here _ _ l.k _ _ _ _ c.code_in-code.ensures.eq c.efficiency_in.ensures.eq l.invariant.2 l.invariant.1 c.loop-k-test.true l.invariant.0 in
    let up : l.k ≡ l.k - 1 + 1 = omega arith in
    let same = length-set l.runs ((l.k - 1) / runs_apart) c.run_before-run.result in
    let filled = filled_kept _ _ (l.k - 1) l.runs (rw up at l.invariant.5) _ c.if-k-eq0.true (omega arith) here in
    (omega arith, here, c.code_in-code.ensures.eq, same ∙ l.invariant.3, omega arith, filled)

pub loop-k-preserved : goal.loop-k-preserved
loop-k-preserved c =
    let l = c.loop-k in
    let here : c.run_before-run.result ≡ run_of c.args.t.now (c.args.size - (l.k - 1)) (l.k - 1) =
    c.run_before-run.ensures ∙ run_here _ _ l.k _ _ _ _ c.code_in-code.ensures.eq c.efficiency_in.ensures.eq l.invariant.2 l.invariant.1 c.loop-k-test.true l.invariant.0 in
    let up : l.k ≡ l.k - 1 + 1 = omega arith in
    let filled = filled_between _ _ (l.k - 1) l.runs (rw up at l.invariant.5) c.if-k-eq0.false in
    (omega arith, here, c.code_in-code.ensures.eq, l.invariant.3, l.invariant.4, filled)

pub returns : goal.returns
returns c = record { long = c.loop-k.invariant.4; at = λ m l. c.loop-k.invariant.5 m (omega arith) l }
