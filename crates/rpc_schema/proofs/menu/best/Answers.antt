-- One entry more, and all of them.
use Rattle.std.proofs.Common.{◌≤◌, subst, length, rules, arith}
use Rattle.std.proofs.lemmas.List.{take_all, take_more}
use Rattle.rpc_schema.specs.Choice.{IsChoice}
use Rattle.rpc_schema.proofs.menu.best.Goals as goal

pub loop-listing-preserved : goal.loop-listing-preserved
loop-listing-preserved c =
    subst (λ ls. IsChoice c.args.own.now ls c.args.name.now c.better-best.result) (search (rules, take_more))
    (c.better-best.ensures _ c.loop-listing.invariant)

pub returns : goal.returns
returns c =
    let past : length c.as_slice-listing-items.result.now ≤ c.loop-listing.listing-index = omega (arith, c.loop-listing-test.false) in
    subst (λ ls. IsChoice c.args.own.now ls c.args.name.now c.loop-listing.best) (search (rules, take_all)) c.loop-listing.invariant
