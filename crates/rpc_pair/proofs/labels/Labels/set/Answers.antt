use Rattle.std.proofs.Common.{subst, List, ℕ}
use Rattle.std.specs.Prelude.{Some}
use Rattle.rpc_pair.specs.Labels.{Sets}
use Rattle.rpc_pair.specs.declared.labels.Labels.{Labels}
use Rattle.rpc_pair.proofs.LabelSets.{sets_label}
use Rattle.rpc_pair.proofs.labels.Labels.set.Goals as goal

pub returns-clause-set : goal.returns-clause-set
returns-clause-set c =
    let new : Labels = record { places = c.insert.new.self } in
    subst (λ (l : List ℕ). Sets c.args.self.now l (Some c.args.place) new) c.in_ok-from_slice.ensures.items
    (sets_label c.args.self.now.places c.insert.new.self c.in_ok-from_slice.field-0.items (Some c.args.place) c.in_ok-insert.ensures.updates)
