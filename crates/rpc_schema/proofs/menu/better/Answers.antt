-- The entry is no candidate, or not above the choice so far, or it is the choice.
use Rattle.std.proofs.Common.{sym, subst, rules, ◌++◌, ◌∷◌, []}
use Rattle.rpc_schema.specs.Choice.{IsChoice}
use Rattle.rpc_schema.proofs.Choices.{choice_same, choice_at_least, choice_new}
use Rattle.rpc_schema.proofs.menu.better.Goals as goal

pub returns-then-not-is_candidate : goal.returns-then-not-is_candidate
returns-then-not-is_candidate c = λ before is.
    choice_same c.args.own.now before c.args.listing.now c.args.name.now c.args.best
    (λ candidate. search (rules, c.is_candidate.ensures.1 candidate)) is

pub returns-then-is_at_least : goal.returns-then-is_at_least
returns-then-is_at_least c = λ before is.
    choice_at_least c.args.own.now before c.args.listing.now c.args.name.now c.args.best (c.is_at_least.ensures.0 c.if-is_at_least.true) is

pub returns : goal.returns
returns c = λ before is.
    subst (λ o. IsChoice c.args.own.now (before ++ c.args.listing.now ∷ []) c.args.name.now o) (sym c.version_of.ensures)
    (choice_new c.args.own.now before c.args.listing.now c.args.name.now c.args.best (c.is_candidate.ensures.0 (search rules))
    (λ least. search (rules, c.is_at_least.ensures.1 least)) is)
