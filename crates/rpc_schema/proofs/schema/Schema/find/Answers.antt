-- The entry stands there, or at no place so far.
use Rattle.std.proofs.Common.{◌≡◌, ℕ, subst, rules, w64, arith}
use Rattle.std.proofs.lemmas.Int.{to_z-of_z}
use Rattle.rpc_schema.specs.Choice.{StandsAt}
use Rattle.rpc_schema.proofs.Choices.{stands_here, stands_later, stands_nowhere}
use Rattle.rpc_schema.proofs.schema.Schema.find.Goals as goal

pub returns-then-is_sought : goal.returns-then-is_sought
returns-then-is_sought c =
    let same : c.deref-entry-items.result.now ≡ c.args.self.now = search rules in
    subst (λ es. StandsAt es c.args.name.now c.args.version c.args.side c.loop-place.place) same
    (stands_here c.deref-entry-items.result.now c.loop-place.place c.entry-item.result c.args.name.now c.args.version _ c.args.side
    c.loop-place-test.true c.entry-item.is (to_z-of_z w64 c.args.version c.ranges.version) (c.is_sought.ensures.0 c.if-is_sought.true))

pub loop-place-preserved : goal.loop-place-preserved
loop-place-preserved c =
    stands_later c.deref-entry-items.result.now c.loop-place.place c.entry-item.result c.args.name.now _ c.args.side
    c.loop-place-test.true c.entry-item.is (λ sought. search (rules, c.is_sought.ensures.1 sought)) c.loop-place.invariant

pub returns : goal.returns
returns c =
    let same : c.deref-entry-items.result.now ≡ c.args.self.now = search rules in
    subst (λ es. (q : ℕ) → StandsAt es c.args.name.now c.args.version c.args.side q → ⊥) same
    (stands_nowhere c.deref-entry-items.result.now c.loop-place.place c.args.name.now c.args.version _ c.args.side (omega (arith, c.loop-place-test.false))
    (to_z-of_z w64 c.args.version c.ranges.version) c.loop-place.invariant)
