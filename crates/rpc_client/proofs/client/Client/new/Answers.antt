use Rattle.std.proofs.Common.{rules, ◌≡◌, sym, subst, []}
use Rattle.rpc_client.specs.Kept.{HasGot}
use Rattle.rpc_client.proofs.Gots.{start_got}
use Rattle.rpc_client.proofs.client.Client.new.Goals as goal

pub returns-clause-got : goal.returns-clause-got
returns-clause-got c = subst (λ x. HasGot x []) (search rules) (start_got c.args.limits c.args.now c.requires)
