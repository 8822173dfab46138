-- The bytes of the mark stand in front.
use Rattle.std.proofs.Common.{◌≡◌, ◌≢◌, subst, List, ℕ, ◌++◌}
use Rattle.std.specs.Option.{MatchOption}
use Rattle.std.proofs.lemmas.Bool.Decides.{Decides-eqb}
use Rattle.std.proofs.lemmas.Slice.Eq.{strip_prefix_is}
use Rattle.rpc_schema.proofs.line.behind_mark.Goals as goal

pub returns : goal.returns
returns c =
    subst (λ s. MatchOption c.strip_prefix.result ((rest : List ℕ) → s ≢ c.args.mark.now ++ rest) (λ rest. s ≡ c.args.mark.now ++ rest.now))
    c.after_blanks.ensures (strip_prefix_is Decides-eqb _ c.args.mark.now c.strip_prefix.result c.strip_prefix.ensures.cases)
