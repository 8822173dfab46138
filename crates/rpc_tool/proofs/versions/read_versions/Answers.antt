-- One part more is a version, or one part is none.
use Rattle.std.proofs.Common.{◌+◌, ◌++◌, ◌∷◌, [], take, sym, ap, ◌∙◌, subst}
use Rattle.std.specs.List.{AllZip}
use Rattle.rpc_schema.specs.SchemaLines.{SpellsVersion}
use Rattle.rpc_schema.specs.Reading.{slices}
use Rattle.rpc_tool.proofs.MenuTexts.{no_versions, version_back, versions_more}
use Rattle.rpc_tool.proofs.versions.read_versions.Goals as goal

pub loop-part-preserved : goal.loop-part-preserved
loop-part-preserved c =
    let parts = c.as_slice-part-items.result.now in
    let version = c.in-Some.version in
    let pushed = c.in_ok-push-in-Some.ensures.items ∙ ap (λ v. c.loop-part.own.items ++ v ∷ []) (version_back version _ c.in-Some.ensures) in
    subst (λ own. AllZip SpellsVersion own (take (c.loop-part.part-index + 1) (slices parts))) (sym pushed)
    (versions_more parts c.loop-part.part-index _ c.loop-part-test.true c.loop-part.own.items version c.loop-part.invariant c.in-Some.ensures)

pub returns-in-None : goal.returns-in-None
returns-in-None c = λ own all.
    no_versions c.as_slice-part-items.result.now c.loop-part.part-index _ c.loop-part-test.true c.in-None.ensures own
    (subst (AllZip SpellsVersion own) (sym (ap slices c.as_slice-part-items.ensures.value ∙ c.in_ok-parts.ensures)) all)
