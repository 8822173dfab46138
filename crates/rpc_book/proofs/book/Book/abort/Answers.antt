use Rattle.std.proofs.Common.{rules, ◌≡◌, sym, subst, w64}
use Rattle.std.specs.Prelude.{Ok, Err}
use Rattle.std.specs.Result.{IsErrAnd}
use mir.Val.{SFits}
use Rattle.bp_codec.proofs.Ranges.{number_back}
use Rattle.rpc_client.specs.Clients.{IsAborted}
use Rattle.rpc_book.specs.Books.{changed}
use Rattle.rpc_book.specs.Calls.{IsAbortedAt}
use Rattle.rpc_book.specs.Inside.{IsBook, book_of, cut_behind, has_made_id}
use Rattle.rpc_book.proofs.Aborts.{abort_book, abort_kept, abort_refused, cut_few}
use Rattle.rpc_book.proofs.Refused.{err_to}
use Rattle.rpc_book.proofs.book.Book.abort.Goals as goal

pub returns-in_err-abort : goal.returns-in_err-abort
returns-in_err-abort c =
    let id = c.args.ticket.now.id in
    let why = c.in_err-abort.field-0.0 in
    let did : IsAborted c.self.inside.client id (Err why) c.abort.new.self = c.in_err-abort.ensures.did in
    let passed : IsErrAnd c.from_residual.result (λ x. x ≡ why) = c.from_residual.ensures.1 in
    err_to c.from_residual.result why (λ r. IsAbortedAt c.args.self.now id r (book_of c.abort.new.self c.self.inside.made.items c.self.inside.got.items)) passed
    (subst (λ b. IsAbortedAt b id (Err why) (book_of c.abort.new.self c.self.inside.made.items c.self.inside.got.items)) c.self.view_is
    (abort_refused c.self.inside.client c.self.inside.made.items c.self.inside.got.items c.self.invariant id why c.abort.new.self did))

pub cut-requires : goal.cut-requires
cut-requires c =
    let id = c.args.ticket.now.id in
    let fits : SFits w64 id = search rules in
    let did : IsAborted c.self.inside.client id (Ok tt) c.abort.new.self = c.in_ok-abort.ensures.did in
    rw (number_back id fits)
    (cut_few c.self.inside.client c.self.inside.made.items c.self.inside.got.items c.self.invariant id c.count_waiting-waiting.result c.count_waiting-waiting.ensures did.1.0)

pub invariant_of-self-2 : goal.invariant_of-self-2
invariant_of-self-2 c =
    let id = c.args.ticket.now.id in
    let fits : SFits w64 id = search rules in
    let waiting = c.count_waiting-waiting.result in
    let did : IsAborted c.self.inside.client id (Ok tt) c.abort.new.self = c.in_ok-abort.ensures.did in
    let made : c.cut.new.made.items ≡ changed (has_made_id id) (cut_behind waiting) c.self.inside.made.items = rw (number_back id fits) at c.cut.ensures in
    subst (λ ms. IsBook c.abort.new.self ms c.self.inside.got.items) (sym made)
    (abort_kept c.self.inside.client c.self.inside.made.items c.self.inside.got.items c.self.invariant id waiting c.abort.new.self c.count_waiting-waiting.ensures did c.abort.ensures.got)

pub returns : goal.returns
returns c =
    let id = c.args.ticket.now.id in
    let fits : SFits w64 id = search rules in
    let waiting = c.count_waiting-waiting.result in
    let did : IsAborted c.self.inside.client id (Ok tt) c.abort.new.self = c.in_ok-abort.ensures.did in
    let made : c.cut.new.made.items ≡ changed (has_made_id id) (cut_behind waiting) c.self.inside.made.items = rw (number_back id fits) at c.cut.ensures in
    subst (λ b. IsAbortedAt b id (Ok tt) (book_of c.abort.new.self c.cut.new.made.items c.self.inside.got.items)) c.self.view_is
    (subst (λ ms. IsAbortedAt (book_of c.self.inside.client c.self.inside.made.items c.self.inside.got.items) id (Ok tt) (book_of c.abort.new.self ms c.self.inside.got.items)) (sym made)
    (abort_book c.self.inside.client c.self.inside.made.items c.self.inside.got.items c.self.invariant id waiting c.abort.new.self c.count_waiting-waiting.ensures did))
