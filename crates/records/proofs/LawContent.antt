-- When a field stands in quotes, and what it then holds. Assumes nothing.
use Prim.Native.Nat.{ℕ, ◌-◌, ◌≤◌, ◌<◌}
use mathlib.Core.Path.{◌≡◌}
use mathlib.Core.Bool.{true, false, ◌&&◌, and-false}
use mathlib.Core.List.{List}
use lib.Dec.{eqb}
use lib.ListN.{length, take, drop}
use borrow.Author.Tests.{le-leb, lt-leb, leb-true, eq-eqb, ne_eqb}
use native.Mathlib.Omega.{arith}
use Rattle.little.specs.Read.{byte_at}
use Rattle.search.specs.Test.{every}
use Rattle.search.proofs.LawTest.{every_at}
use Rattle.records.specs.Records.{quote, is_quoted, content_of}

module _ (field : List ℕ) where
  pub too_short : length field < 2 → false ≡ is_quoted field
  unfolding is_quoted every
  too_short h = rw (lt-leb 2 (length field) h)

  -- so it holds itself
  pub short_whole : length field < 2 → field ≡ content_of field
  unfolding content_of
  short_whole h = rw (← too_short h)

  pub by_ends : 2 ≤ length field → (eqb (byte_at field 0) quote && eqb (byte_at field (length field - 1)) quote) ≡ is_quoted field
  unfolding is_quoted every
  by_ends h = rw (le-leb 2 (length field) h)

  pub quoted_long : is_quoted field ≡ true → 2 ≤ length field
  unfolding is_quoted
  quoted_long q = leb-true 2 (length field) (every_at _ q 0)

  module _ (long : 2 ≤ length field) where
    pub between_quotes : byte_at field 0 ≡ quote → byte_at field (length field - 1) ≡ quote
        → take (length field - 1 - 1) (drop 1 field) ≡ content_of field
    unfolding content_of
    between_quotes p q =
        let size : length field - 1 - 1 ≡ length field - 2 = omega arith in
        rw (size, ← by_ends long, eq-eqb (byte_at field 0) quote p, eq-eqb (byte_at field (length field - 1)) quote q)

    pub no_first_quote : (byte_at field 0 ≡ quote → ⊥) → field ≡ content_of field
    unfolding content_of
    no_first_quote n = rw (← by_ends long, ne_eqb (byte_at field 0) quote n)

    pub no_last_quote : (byte_at field (length field - 1) ≡ quote → ⊥) → field ≡ content_of field
    unfolding content_of
    no_last_quote n = rw (← by_ends long, ne_eqb (byte_at field (length field - 1)) quote n, and-false)
