use Rattle.std.proofs.Common.{subst, ℕ, length, List, Ok, Err, arith}
use Rattle.readers.specs.Keys.{key_at}
use Rattle.readers.proofs.Keys.{grows_keys}
use Rattle.bp_num.specs.declared.number.Why.TheVariants.{Tag}
use Rattle.bp_codec.specs.declared.plan.Node.TheVariants as node
use Rattle.bp_codec.specs.Keeping.{Gives}
use Rattle.bp_codec.specs.Plan.{Reading, case_at, keys_in, keys_from}
use Rattle.bp_codec.proofs.Moving.{node_stops, node_enters}
use Rattle.bp_codec.proofs.NodeSteps.{on_ok, poly_is, tag_within}
use Rattle.bp_codec.proofs.open.Open.take_poly.Goals as goal

pub overflow_add-first : goal.overflow_add-first
overflow_add-first c = omega (arith, tag_within c.args.tags.now c.args.rest.now.now c.tag_at.new.rest.now c.in-Ok.place c.in-Ok.ensures.0, c.requires.cases.0)

pub overflow_cast-place : goal.overflow_cast-place
overflow_cast-place c = omega (arith, tag_within c.args.tags.now c.args.rest.now.now c.tag_at.new.rest.now c.in-Ok.place c.in-Ok.ensures.0, c.requires.few)

pub take_case-requires-clause-within : goal.take_case-requires-clause-within
take_case-requires-clause-within c = omega (arith, tag_within c.args.tags.now c.args.rest.now.now c.tag_at.new.rest.now c.in-Ok.place c.in-Ok.ensures.0, c.requires.cases.0)

pub take_case-requires-clause-is_case : goal.take_case-requires-clause-is_case
take_case-requires-clause-is_case c = c.requires.cases.1 c.in-Ok.place (tag_within c.args.tags.now c.args.rest.now.now c.tag_at.new.rest.now c.in-Ok.place c.in-Ok.ensures.0)

pub returns-in-Ok : goal.returns-in-Ok
returns-in-Ok c = λ max at is comes reach.
    let ns = c.args.plan.now.nodes.items in
    let tags = c.args.plan.now.tags.items in
    let n = length c.args.tags.now in
    let first = c.args.first in
    let place = c.in-Ok.place in
    node_enters (key_at Tag 4 (keys_from tags at n)) (grows_keys Tag 4 (keys_from tags at n)) (λ (reading : ℕ → Reading). case_at ns reading first) ns tags max
    (node.Poly first n at) c.args.self.now c.args.rest.now.now c.tag_at.new.rest.now (poly_is max ns tags first n at) comes reach
    place c.take_case.new.self c.take_case.result (subst (λ (ws : List ℕ). Gives (key_at Tag 4 (keys_in 0 ws)) c.args.rest.now.now c.tag_at.new.rest.now (Ok place)) is c.in-Ok.ensures)
    (on_ok c.take_case.result (λ f. f max) c.take_case.ensures.ok) c.take_case.ensures.only

pub returns-in-Err : goal.returns-in-Err
returns-in-Err c = λ max at is comes reach.
    let ns = c.args.plan.now.nodes.items in
    let tags = c.args.plan.now.tags.items in
    let n = length c.args.tags.now in
    let first = c.args.first in
    node_stops (key_at Tag 4 (keys_from tags at n)) (grows_keys Tag 4 (keys_from tags at n)) (λ (reading : ℕ → Reading). case_at ns reading first) ns tags max
    (node.Poly first n at) c.args.self.now c.args.rest.now.now c.tag_at.new.rest.now (poly_is max ns tags first n at) comes reach
    c.in-Err.stop (subst (λ (ws : List ℕ). Gives (key_at Tag 4 (keys_in 0 ws)) c.args.rest.now.now c.tag_at.new.rest.now (Err c.in-Err.stop)) is c.in-Err.ensures)
