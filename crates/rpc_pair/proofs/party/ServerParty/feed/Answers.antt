use Rattle.rpc_pair.proofs.party.ServerParty.feed.Goals as goal

pub returns-in-Ok-clause-took : goal.returns-in-Ok-clause-took
returns-in-Ok-clause-took c = (c.in-Ok.fed.arrival, c.in-Ok.ensures.fed)
