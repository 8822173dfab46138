use Rattle.std.proofs.Common.{rules, ◌≡◌}
use Rattle.rpc_client.specs.Clients.{IsLong}
use Rattle.rpc_client.proofs.Queries.{data_long, err_is}
use Rattle.rpc_client.proofs.client.Client.ask.Goals as goal

pub returns-in_err-data-clause-err : goal.returns-in_err-data-clause-err
returns-in_err-data-clause-err c =
    err_is c.from_residual.result c.in_err-data.field-0.0 (IsLong c.args.self.now c.args.desc.now c.args.query.now) c.from_residual.ensures.1
    (data_long c.args.self.now c.args.desc.now c.args.query.now c.self.inside.limits.max_message c.in_err-data.field-0.0 (search rules) c.in_err-data.ensures.err)
