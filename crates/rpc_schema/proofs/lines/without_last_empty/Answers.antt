-- The last part is left out where it is empty.
use Rattle.std.proofs.lemmas.Bool.{eqb-true, eqb-false}
use Rattle.std.proofs.Common.{sym, ◌∙◌}
use Rattle.rpc_schema.proofs.TextParts.{slices_cut, slices_whole}
use Rattle.rpc_schema.proofs.lines.without_last_empty.Goals as goal

pub returns-then-is_empty : goal.returns-then-is_empty
returns-then-is_empty c =
    slices_cut c.args.parts.now _ c.in-len1-up.len_at_least
    (eqb-true _ _ (sym c.is_empty.ensures ∙ c.if-is_empty.true))

pub returns-else-is_empty : goal.returns-else-is_empty
returns-else-is_empty c =
    slices_whole c.args.parts.now _ c.in-len1-up.len_at_least
    (eqb-false _ _ (sym c.is_empty.ensures ∙ c.if-is_empty.false))
