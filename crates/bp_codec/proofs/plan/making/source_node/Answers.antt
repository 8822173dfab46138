-- The arguments stand after what stood there.
use Rattle.std.proofs.Common.{map, refl}
use Rattle.bp_value.specs.Form.{form_of, parts}
use Rattle.bp_codec.specs.declared.plan.Node.TheVariants as node
use Rattle.bp_codec.specs.Sources.{args, children, own_tags, node_at}
use Rattle.bp_codec.proofs.Placed.{expands, shape_count}
use Rattle.bp_codec.proofs.plan.making.source_node.Goals as goal

pub returns-in_ok-place_shapes-in-Args : goal.returns-in_ok-place_shapes-in-Args
unfolding children own_tags node_at
returns-in_ok-place_shapes-in-Args c = rw c.in-Args.is
    (expands (args (parts (map form_of c.in-Args.args.now))) _ _ _ refl _ _ c.in_ok-place_shapes-in-Args.ensures
    (λ at i. node.Args c.in_ok-place_shapes-in-Args.field-0 (shape_count c.in-Args.args.now i)))
