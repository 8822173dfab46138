use Rattle.bp_value.specs.Form.{form_of}
use Rattle.rpc_server.proofs.AskLaws.{is_abort_by}
use Rattle.rpc_server.proofs.asking.is_abort.Goals as goal

pub returns : goal.returns
returns c =
    let d = c.args.desc.now in
    rw c.is_end.ensures
    (is_abort_by c.args.max d.kind (form_of d.query) c.args.body.now c.in_ok-query.query c.requires.stream c.in_ok-query.ensures)
