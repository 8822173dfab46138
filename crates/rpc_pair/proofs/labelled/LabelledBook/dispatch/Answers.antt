use Rattle.std.proofs.Common.{◌≡◌, rules, ap, length, true, false}
use Rattle.std.specs.Prelude.{Some, None}
use Rattle.std.specs.Result.{is_err}
use Rattle.rpc_meeting.specs.Deeds.{find_label}
use Rattle.rpc_book.specs.Books.{BookState}
use Rattle.rpc_book.specs.Calls.{IsBooked}
use Rattle.rpc_pair.specs.Labels.{Sets}
use Rattle.rpc_pair.specs.Made.{dispatches_of}
use Rattle.rpc_pair.proofs.LabelPlaces.{booked_labels, refused_labels}
use Rattle.rpc_pair.proofs.labelled.LabelledBook.dispatch.Goals as goal

pub invariant_of-self-then-is_err : goal.invariant_of-self-then-is_err
invariant_of-self-then-is_err c =
    let b : BookState = c.self.inside.book in
    let free : find_label c.args.label.now (dispatches_of b) ≡ None = search (rules, c.requires.free) in
    let sets : Sets c.self.inside.labels c.args.label.now (Some (length c.made-place.result.now)) c.set.new.self = search (rules, c.in_ok-set.ensures.set) in
    let unsets : Sets c.set.new.self c.args.label.now None c.unset.new.self = search (rules, c.unset.ensures) in
    let booked : IsBooked b c.args.label.now c.args.desc.now c.args.query.now c.dispatch-booked.result c.dispatch-booked.new.self = search (rules, c.dispatch-booked.ensures) in
    let err : is_err c.dispatch-booked.result ≡ true = search rules in
    refused_labels c.self.inside.labels c.set.new.self b c.dispatch-booked.new.self c.args.label.now (length c.made-place.result.now) c.self.invariant free sets c.args.desc.now c.args.query.now
    c.unset.new.self unsets c.dispatch-booked.result err booked

pub invariant_of-self-else-is_err : goal.invariant_of-self-else-is_err
invariant_of-self-else-is_err c =
    let b : BookState = c.self.inside.book in
    let free : find_label c.args.label.now (dispatches_of b) ≡ None = search (rules, c.requires.free) in
    let sets : Sets c.self.inside.labels c.args.label.now (Some (length c.made-place.result.now)) c.set.new.self = search (rules, c.in_ok-set.ensures.set) in
    let booked : IsBooked b c.args.label.now c.args.desc.now c.args.query.now c.dispatch-booked.result c.dispatch-booked.new.self = search (rules, c.dispatch-booked.ensures) in
    let ok : is_err c.dispatch-booked.result ≡ false = search rules in
    booked_labels c.self.inside.labels c.set.new.self b c.dispatch-booked.new.self c.args.label.now (length c.made-place.result.now) c.self.invariant free sets c.args.desc.now c.args.query.now
    (ap length c.made-place.ensures.made) c.dispatch-booked.result ok booked
