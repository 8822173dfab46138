-- The word stands for a version, or for none.
use Rattle.std.proofs.Common.{subst, ℤ}
use Rattle.std.specs.Option.{MatchOption}
use Rattle.rpc_schema.specs.SchemaLines.{SpellsVersion}
use Rattle.rpc_schema.proofs.PartLaws.{word_takes}
use Rattle.rpc_schema.proofs.heads.take_version.Goals as goal

pub returns : goal.returns
returns c =
    word_takes SpellsVersion c.read_version-version.result c.args.line.now c.take_word.new.self c.take_word.result
    (subst (λ w. MatchOption c.read_version-version.result ((v : ℤ) → SpellsVersion v w → ⊥) (λ v. SpellsVersion v w)) c.word.ensures
    c.read_version-version.ensures)
    c.take_word.ensures
