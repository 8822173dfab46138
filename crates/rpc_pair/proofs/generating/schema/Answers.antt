-- The lines are those of the entries, so these are given, and no line is refused.
use Rattle.std.proofs.Common.{subst, Err}
use Rattle.rpc_schema.specs.declared.error.SchemaError.{SchemaError}
use Rattle.rpc_schema.specs.SchemaTexts.{GivesSchema}
use Rattle.rpc_pair.specs.Generated.{generated_entries}
use Rattle.rpc_pair.proofs.GeneratedSchema.{generated_schema}
use Rattle.rpc_pair.proofs.generating.schema.Goals as goal

pub returns-in-Ok : goal.returns-in-Ok
returns-in-Ok c = c.in-Ok.ensures.only generated_entries generated_schema

pub unreachable-requires : goal.unreachable-requires
unreachable-requires c =
    subst (λ (e : SchemaError). GivesSchema generated_entries (Err e)) c.in-Err-BadLine.field-0-is
    (c.in-Err-BadLine.ensures.only generated_entries generated_schema)

pub unreachable-requires-in-Err-Twice : goal.unreachable-requires-in-Err-Twice
unreachable-requires-in-Err-Twice c =
    subst (λ (e : SchemaError). GivesSchema generated_entries (Err e)) c.in-Err-Twice.field-0-is
    (c.in-Err-Twice.ensures.only generated_entries generated_schema)
