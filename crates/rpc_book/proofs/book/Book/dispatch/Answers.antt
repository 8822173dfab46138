use Rattle.std.proofs.Common.{rules, ◌≡◌, sym, subst, [], ◌∷◌, ◌++◌}
use Rattle.std.specs.Prelude.{Ok, Err}
use Rattle.std.specs.Result.{IsErrAnd}
use Rattle.rpc_client.specs.Clients.{IsDispatched as IsClientDispatched}
use Rattle.rpc_book.specs.Calls.{IsBooked}
use Rattle.rpc_book.specs.Inside.{IsBook, book_of}
use Rattle.rpc_book.proofs.Dispatched.{dispatch_book, dispatch_kept, dispatch_refused, made_as}
use Rattle.rpc_book.proofs.Refused.{err_to}
use Rattle.rpc_book.proofs.book.Book.dispatch.Goals as goal

pub returns-in_err-ticket : goal.returns-in_err-ticket
returns-in_err-ticket c =
    let why = c.in_err-ticket.field-0.0 in
    let old = book_of c.self.inside.client c.self.inside.made.items c.self.inside.got.items in
    let new = c.dispatch.new.self in
    let did : IsClientDispatched c.self.inside.client c.args.desc.now c.args.query.now (Err why) new = c.in_err-ticket.ensures.did in
    let passed : IsErrAnd c.from_residual-in_err-ticket.result (λ x. x ≡ why) = c.from_residual-in_err-ticket.ensures.1 in
    err_to c.from_residual-in_err-ticket.result why (λ r. IsBooked c.args.self.now c.args.label c.args.desc.now c.args.query.now r (book_of new c.prepare.new.made.items c.self.inside.got.items)) passed
    (subst (λ ms. IsBooked c.args.self.now c.args.label c.args.desc.now c.args.query.now (Err why) (book_of new ms c.self.inside.got.items)) (sym c.prepare.ensures.items)
    (subst (λ b. IsBooked b c.args.label c.args.desc.now c.args.query.now (Err why) (book_of new c.self.inside.made.items c.self.inside.got.items)) c.self.view_is
    (dispatch_refused c.self.inside.client c.self.inside.made.items c.self.inside.got.items c.self.invariant c.args.desc.now c.args.query.now c.args.label why new did)))

pub invariant_of-self-2 : goal.invariant_of-self-2
invariant_of-self-2 c =
    let ticket = c.in_ok-ticket.ticket in
    let new = c.dispatch.new.self in
    let did : IsClientDispatched c.self.inside.client c.args.desc.now c.args.query.now (Ok ticket) new = c.in_ok-ticket.ensures.did in
    let items : c.push_reserved.new.self.items ≡ c.self.inside.made.items ++ made_as c.args.label ticket.id c.args.desc.now ∷ [] = search rules in
    subst (λ ms. IsBook new ms c.self.inside.got.items) (sym items)
    (dispatch_kept c.self.inside.client c.self.inside.made.items c.self.inside.got.items c.self.invariant c.args.desc.now c.args.query.now c.args.label ticket new did c.dispatch.ensures.got)

pub returns : goal.returns
returns c =
    let ticket = c.in_ok-ticket.ticket in
    let new = c.dispatch.new.self in
    let did : IsClientDispatched c.self.inside.client c.args.desc.now c.args.query.now (Ok ticket) new = c.in_ok-ticket.ensures.did in
    let items : c.push_reserved.new.self.items ≡ c.self.inside.made.items ++ made_as c.args.label ticket.id c.args.desc.now ∷ [] = search rules in
    subst (λ ms. IsBooked c.args.self.now c.args.label c.args.desc.now c.args.query.now (Ok ticket) (book_of new ms c.self.inside.got.items)) (sym items)
    (subst (λ b. IsBooked b c.args.label c.args.desc.now c.args.query.now (Ok ticket) (book_of new (c.self.inside.made.items ++ made_as c.args.label ticket.id c.args.desc.now ∷ []) c.self.inside.got.items)) c.self.view_is
    (dispatch_book c.self.inside.client c.self.inside.made.items c.self.inside.got.items c.self.invariant c.args.desc.now c.args.query.now c.args.label ticket new did))
