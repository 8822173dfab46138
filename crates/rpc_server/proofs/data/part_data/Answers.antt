use Rattle.std.proofs.Common.{ap, ◌∙◌, ◌++◌}
use Rattle.bp_grammar.specs.Written.{written_bytes}
use Rattle.rpc_server.proofs.DataBytes.{item_bytes}
use Rattle.rpc_server.proofs.data.part_data.Goals as goal

pub returns-in-Ok : goal.returns-in-Ok
returns-in-Ok c =
    let item = c.args.item.now in
    rw (item_bytes item) (c.from_vec.ensures ∙ (c.in-Ok.ensures.0 ∙ ap (λ s. s ++ written_bytes item) c.in_ok-data.ensures.items))
