-- A field of fewer than two bytes is not quoted; of more, both its ends are looked at.
use native.Mathlib.Omega.{arith}
use Rattle.records.proofs.LawContent.{short_whole, between_quotes, no_first_quote, no_last_quote}
use Rattle.records.proofs.field.content.Goals as goal

pub returns-in-34 : goal.returns-in-34
returns-in-34 c = between_quotes c.args.field.now c.in-34.len_at_least (omega arith) (omega arith)

pub returns-in_default : goal.returns-in_default
returns-in_default c = short_whole c.args.field.now c.in_default.len_below

pub returns-in_default-2 : goal.returns-in_default-2
returns-in_default-2 c = no_last_quote c.args.field.now c.in_default.len_at_least (λ e. omega arith)

pub returns-in_default-3 : goal.returns-in_default-3
returns-in_default-3 c = no_first_quote c.args.field.now c.in_default.len_at_least (λ e. omega arith)
