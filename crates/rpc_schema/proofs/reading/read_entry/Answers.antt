-- The line is that of an entry, or refused at its place.
use Rattle.std.proofs.Common.{refl, ap, subst, ◌∙◌, ◌-◌, [], length, Err}
use Rattle.rpc_schema.specs.LineAnswers.{TakesOne}
use Rattle.rpc_schema.specs.SchemaLines.{IsLineOf, SchemaLineRefused}
use Rattle.rpc_schema.proofs.GoodLines.{line_ends}
use Rattle.rpc_schema.proofs.reading.read_entry.Goals as goal

pub returns-in-Ok-clause-spelled : goal.returns-in-Ok-clause-spelled
returns-in-Ok-clause-spelled c =
    subst (λ s. IsLineOf c.args.number c.in-Ok.entry s []) c.new-line.ensures
    (subst (λ u. IsLineOf c.args.number c.in-Ok.entry c.new-line.result u)
    (line_ends c.args.number c.in-Ok.entry c.new-line.result c.entry_at.new.line c.in-Ok.ensures.takes) c.in-Ok.ensures.takes)

pub returns-in-Err-Refused-clause-refused : goal.returns-in-Err-Refused-clause-refused
returns-in-Err-Refused-clause-refused c = (
  refl,
  (
    c.entry_at.new.line,
    subst (λ s. SchemaLineRefused s c.entry_at.new.line) c.new-line.ensures
        (subst (λ e. TakesOne (IsLineOf c.args.number) SchemaLineRefused c.new-line.result c.entry_at.new.line (Err e)) c.in-Err-Refused.field-0-is
        c.in-Err-Refused.ensures.takes),
    c.saturating_sub.ensures ∙ ap (λ r. length c.args.bytes.now - length r) c.rest.ensures,
  ),
)
