use Rattle.std.proofs.Common.{ap, ◌∙◌, ◌++◌}
use Rattle.bp_grammar.specs.Written.{written}
use Rattle.bp_value.specs.Form.{form_of}
use Rattle.rpc_client.proofs.Queries.{ok_is, stream_data}
use Rattle.rpc_client.proofs.asking.query_data.Goals as goal

pub returns-clause-ok : goal.returns-clause-ok
returns-clause-ok c =
    ok_is c.spelled-2.result _ _
    (ap (λ head. head ++ written (form_of c.args.desc.now.query) c.args.query.now) c.in_ok-query_head.ensures
    ∙ stream_data c.args.desc.now c.args.query.now c.in-Some.count (rw c.if-not-is_stream.false at c.is_stream.ensures) c.in-Some.ensures.exact)
    c.spelled-2.ensures.ok
