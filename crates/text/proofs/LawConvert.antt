-- A conversion ends: what was laid has room, or all is cleared; or it is refused, and all is cleared.
use Rattle.std.specs.Prelude.{Err, Ok, Result}
use Prim.Native.Nat.{ℕ, ◌≤◌}
use mathlib.Core.Path.{◌≡◌, refl, sym, ap, ◌∙◌}
use mathlib.Core.Bool.{true, false}
use mathlib.Core.List.{List}
use native.Mathlib.Omega.{arith}
use lib.Dec.{leb}
use lib.ListN.{length, drop}
use lib.Seq.{take_at}
use borrow.Author.Tests.{le-leb, leb-true, leb-false}
use Rattle.search.proofs.LawTest.{either_way, clash}
use Rattle.little.specs.Part.{part_of}
use Rattle.answers.specs.declared.answer.FileFault.TheVariants.{ResultTooShort}
use Rattle.answers.specs.declared.answer.Refusal.{Refusal}
use Rattle.answers.specs.declared.answer.Refusal.TheVariants.{File}
use Rattle.numerals.specs.Laid.{laid}
use Rattle.numerals.proofs.LawLaid.{laid_is, length_laid}
use Rattle.answers.specs.declared.answer.Refusal.{Refusal}
use Rattle.text.specs.Convert.{Made, Gives, Refuses, by_room, bytes_after, Converts}
use Rattle.text.specs.Inner.{RefusedAll, Finished}

module _ (made : Made) (bytes bytes' : List ℕ) (r : Result ℕ Refusal) (left : List ℕ) where
  -- the bytes that it gives were laid at the start
  pub all_laid : (given : List ℕ) (end : ℕ) → made ≡ Gives given → bytes' ≡ laid 0 given bytes → end ≡ length given → Finished end bytes' r left
      → Converts made bytes r left
  all_laid given end is put ends f =
      let size : length bytes' ≡ length bytes = ap length put ∙ length_laid 0 given bytes in
      let asked : r ≡ by_room (Gives given) (length bytes) = f.answer ∙ rw (ends, size) refl in
      rw is (record { answer = asked; holds = either_way (leb (length given) (length bytes)) (roomy size asked) (short size asked) })
    where
      roomy : length bytes' ≡ length bytes → r ≡ by_room (Gives given) (length bytes) → leb (length given) (length bytes) ≡ true
          → left ≡ bytes_after r (Gives given) bytes
      roomy size asked l =
          let fits : length given ≤ length bytes = leb-true (length given) (length bytes) l in
          let is-bytes : r ≡ Ok (length given) = asked ∙ rw l refl in
          rw is-bytes (f.all (omega (arith, fits, size, ends)) ∙ put ∙ laid_is given bytes fits)

      short : length bytes' ≡ length bytes → r ≡ by_room (Gives given) (length bytes) → leb (length given) (length bytes) ≡ false
          → left ≡ bytes_after r (Gives given) bytes
      short size asked l =
          let none = leb-false (length given) (length bytes) l in
          let is_short : r ≡ Err (File ResultTooShort) = asked ∙ rw l refl in
          rw is_short (f.none (omega (arith, none, size, ends)) ∙ rw size refl)

  pub all_cleared : (refusal : Refusal) → made ≡ Refuses refusal → length bytes' ≡ length bytes → RefusedAll refusal bytes' r left
      → Converts made bytes r left
  all_cleared refusal is size f =
      rw is (record { answer = f.answer; holds = rw f.answer (f.zero ∙ rw size refl) })

-- ---- what a conversion that ended so says

module _ (made : Made) (bytes : List ℕ) (r : Result ℕ Refusal) (left : List ℕ) (p : Converts made bytes r left) where
  -- the first bytes are those that it gives
  pub gave : (n : ℕ) → r ≡ Ok n → (given : List ℕ) × ((made ≡ Gives given) × (part_of left 0 n ≡ given))
  gave n is = go made refl p.answer p.holds
    where
      go : (m : Made) → made ≡ m → r ≡ by_room m (length bytes) → left ≡ bytes_after r m bytes
          → (given : List ℕ) × ((made ≡ Gives given) × (part_of left 0 n ≡ given))
      go (Refuses o) same a h = let z : Ok n ≡ Err o = sym is ∙ a in clash (cc)
      go (Gives given) same a h =
          either_way (leb (length given) (length bytes))
          (λ l.
          let count : length given ≡ n = (let z : Ok (length given) ≡ Ok n = sym (a ∙ rw l refl) ∙ is in cc) in
          (given, (same, rw (h, is) (take_at given (drop (length given) bytes) n count))))
          (λ l. let z : Ok n ≡ Err (File ResultTooShort) = sym is ∙ a ∙ rw l refl in clash (cc))

  -- where there was room for all that it could give, a refusal is its own
  pub refused_is : ((given : List ℕ) → made ≡ Gives given → length given ≤ length bytes) → (refusal : Refusal) → r ≡ Err refusal
      → made ≡ Refuses refusal
  refused_is roomy refusal is = go made refl p.answer
    where
      go : (m : Made) → made ≡ m → r ≡ by_room m (length bytes) → made ≡ Refuses refusal
      go (Refuses o) same a = let z : Err o ≡ Err refusal = sym a ∙ is in same ∙ cc
      go (Gives given) same a =
          let z : Ok (length given) ≡ Err refusal = sym (a ∙ rw (le-leb (length given) (length bytes) (roomy given same)) refl) ∙ is in
          clash (cc)

-- ---- two outcomes that the promise allows are equal

pub one_conversion : (made : Made) (bytes : List ℕ) (r s : Result ℕ Refusal) (left other : List ℕ) → Converts made bytes r left
    → Converts made bytes s other → (r ≡ s) × (left ≡ other)
one_conversion made bytes r s left other p q =
    let same : r ≡ s = p.answer ∙ sym q.answer in
    (same, p.holds ∙ ap (λ (x : Result ℕ Refusal). bytes_after x made bytes) same ∙ sym q.holds)
