-- By whether a grade is given, and then by what the search finds.
use mathlib.Core.Path.{refl, sym, ◌∙◌}
use native.Mathlib.Omega.{arith}
use Rattle.desk.specs.Dust.{dust_of}
use Rattle.desk.proofs.LawAccount.{graded_key}
use Rattle.desk.proofs.dust.dust_of.Goals as goal

pub entry_index-requires : goal.entry_index-requires
entry_index-requires c =
    graded_key c.args.line (sym c.is_given.ensures ∙ c.if-not-is_given.false) c.requires.0

pub returns-then-not-is_given : goal.returns-then-not-is_given
unfolding dust_of
returns-then-not-is_given c = rw (← c.is_given.ensures, c.if-not-is_given.true) (record { eq = refl; small = omega arith })

pub returns-in_err-i : goal.returns-in_err-i
unfolding dust_of
returns-in_err-i c =
    let found = sym c.entry_index.ensures.eq ∙ c.in_err-i.was in
    rw (c.from_residual.ensures, ← c.is_given.ensures, c.if-not-is_given.false, found) (record { eq = refl; small = tt })

pub returns : goal.returns
unfolding dust_of
returns c =
    let found = sym c.entry_index.ensures.eq ∙ c.in_ok-i.was in
    rw (← c.is_given.ensures, c.if-not-is_given.false, found) c.dust_by.ensures
