use Rattle.std.proofs.Common.{◌≡◌, sym, ap, ◌∙◌, subst, ◌^◌, ◌≤◌}
use Rattle.std.specs.Prelude.{None}
use Rattle.readers.specs.Reader.{IsProperFront}
use Rattle.rpc_frame.specs.Frames.{IsFrame}
use Rattle.rpc_end.specs.Ends.{EndState}
use Rattle.rpc_end.specs.Taking.{CanPutBack, IsFedBy, IsReadNext}
use Rattle.rpc_end.proofs.Keeping.{can_put_back, next_read, read_some}
use Rattle.rpc_end.proofs.end.End.next.Goals as goal

pub read-requires : goal.read-requires
read-requires c =
    let old = c.args.self.now in
    let fed = subst (λ o. IsFedBy old c.args.piece.now o c.in-Ok.fed.used c.take.new.self) c.in-Some-frame.is c.in-Ok.ensures in
    let limit = subst (λ (e : EndState). e.max ≤ 2 ^ 30) c.self.view_is c.self.invariant.1.limit in
    let front = subst (λ (e : EndState). IsProperFront (IsFrame e.max) e.held) c.self.view_is c.self.invariant.1.front in
    let going = subst (λ (e : EndState). e.cause ≡ None) c.self.view_is c.in_default.is in
    subst (λ b. CanPutBack c.take.new.self b c.in-Ok.fed.used) (sym c.in-Some-frame.body-is)
    (can_put_back old c.take.new.self c.args.piece.now c.in-Some-frame.body c.in-Ok.fed.used going limit front fed)

pub returns-in-Some-frame-clause-took : goal.returns-in-Some-frame-clause-took
returns-in-Some-frame-clause-took c =
    let old = c.args.self.now in
    let fed = subst (λ o. IsFedBy old c.args.piece.now o c.in-Ok.fed.used c.take.new.self) c.in-Some-frame.is c.in-Ok.ensures in
    let limit = subst (λ (e : EndState). e.max ≤ 2 ^ 30) c.self.view_is c.self.invariant.1.limit in
    let front = subst (λ (e : EndState). IsProperFront (IsFrame e.max) e.held) c.self.view_is c.self.invariant.1.front in
    let going = subst (λ (e : EndState). e.cause ≡ None) c.self.view_is c.in_default.is in
    let place = c.place-place.ensures.place ∙ ap (λ (e : EndState). e.place) c.self.view_is in
    let read = subst (λ b. IsReadNext c.take.new.self b c.in-Ok.fed.used c.place-place.result c.args.now c.read.result c.read.new.self) c.in-Some-frame.body-is c.read.ensures in
    next_read old c.take.new.self c.args.piece.now c.in-Some-frame.body c.in-Ok.fed.used going limit front fed c.args.now c.read.result c.read.new.self
    (subst (λ p. IsReadNext c.take.new.self c.in-Some-frame.body c.in-Ok.fed.used p c.args.now c.read.result c.read.new.self) place read)

pub returns-in-Some-frame-clause-some : goal.returns-in-Some-frame-clause-some
returns-in-Some-frame-clause-some c =
    let old = c.args.self.now in
    let fed = subst (λ o. IsFedBy old c.args.piece.now o c.in-Ok.fed.used c.take.new.self) c.in-Some-frame.is c.in-Ok.ensures in
    let limit = subst (λ (e : EndState). e.max ≤ 2 ^ 30) c.self.view_is c.self.invariant.1.limit in
    let front = subst (λ (e : EndState). IsProperFront (IsFrame e.max) e.held) c.self.view_is c.self.invariant.1.front in
    let going = subst (λ (e : EndState). e.cause ≡ None) c.self.view_is c.in_default.is in
    let read = subst (λ b. IsReadNext c.take.new.self b c.in-Ok.fed.used c.place-place.result c.args.now c.read.result c.read.new.self) c.in-Some-frame.body-is c.read.ensures in
    read_some old c.take.new.self c.args.piece.now c.in-Some-frame.body c.in-Ok.fed.used going limit front fed c.args.now c.place-place.result c.read.result c.read.new.self read
