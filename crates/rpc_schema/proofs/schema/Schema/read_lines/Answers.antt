-- Lines have one list of entries, and are then refused only for want of memory.
use Rattle.std.proofs.Common.{◌≡◌, sym, subst, Err, rules}
use Rattle.rpc_schema.specs.TextLines.{lines_kept}
use Rattle.rpc_schema.specs.Reading.{slices}
use Rattle.rpc_schema.specs.SchemaTexts.{GivesSchema}
use Rattle.rpc_schema.proofs.TextLaws.{schema_once, refuses_none}
use Rattle.rpc_schema.proofs.schema.Schema.read_lines.Goals as goal

pub returns-in_err-read_entries-clause-only : goal.returns-in_err-read_entries-clause-only
returns-in_err-read_entries-clause-only c = λ es good.
    let is : c.from_residual.result ≡ Err c.in_err-read_entries.field-0.0 = search rules in
    subst (λ r. GivesSchema es r) (sym is)
    (refuses_none (lines_kept 1 (slices c.args.lines.now)) c.in_err-read_entries.field-0.0 es c.in_err-read_entries.ensures.refused good)

pub returns-clause-only : goal.returns-clause-only
returns-clause-only c = λ es good.
    schema_once c.in_ok-read_entries.field-0.items es (lines_kept 1 (slices c.args.lines.now)) c.in_ok-read_entries.ensures.spelled good
