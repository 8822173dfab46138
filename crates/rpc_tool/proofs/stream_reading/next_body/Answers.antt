use Rattle.std.proofs.Common.{◌∙◌, List, ℕ, refl, sym, ap, subst, Some}
use Rattle.rpc_frame.specs.Feeding.{FedGives}
use Rattle.rpc_tool.specs.StreamReads.{IsThis}
use Rattle.rpc_tool.proofs.StreamSteps.{body_taken, not_fed}
use Rattle.rpc_tool.proofs.stream_reading.next_body.Goals as goal

pub returns-in_err-fed : goal.returns-in_err-fed
returns-in_err-fed c =
    not_fed c.args.rest.now.now c.args.reader.now c.requires IsThis c.feed.new.self c.args.rest.now.now c.in_err-fed.field-0.0 _ _ c.in_err-fed.ensures refl
    c.from_residual.ensures.1

pub returns-in-Some : goal.returns-in-Some
returns-in-Some c =
    let s = c.args.rest.now.now in
    let fed = c.in_ok-fed.fed in
    let is = c.in-Some.is ∙ ap (λ (b : List ℕ). Some b) (sym c.in-Some.body-is) in
    body_taken s c.args.reader.now c.requires c.feed.new.self _ fed.used (subst (λ f. FedGives c.args.reader.now s f fed.used c.feed.new.self) is c.in_ok-fed.ensures.1)
