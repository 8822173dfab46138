use Rattle.std.proofs.Common.{rules, ◌≡◌, sym, subst, w64}
use mir.Val.{SFits}
use Rattle.bp_codec.proofs.Ranges.{number_back}
use Rattle.rpc_book.specs.Books.{changed}
use Rattle.rpc_book.specs.Calls.{IsTakenOf, with_count}
use Rattle.rpc_book.specs.Inside.{IsBook, book_of, has_made_id}
use Rattle.rpc_book.proofs.Takes.{take_book, take_kept, taken_few}
use Rattle.rpc_book.proofs.book.Book.take.Goals as goal

pub count_taken-requires : goal.count_taken-requires
count_taken-requires c =
    let id = c.args.ticket.now.id in
    let fits : SFits w64 id = search rules in
    rw (number_back id fits) (taken_few c.self.inside.client c.self.inside.made.items c.self.inside.got.items c.self.invariant id)

pub invariant_of-self : goal.invariant_of-self
invariant_of-self c =
    let id = c.args.ticket.now.id in
    let fits : SFits w64 id = search rules in
    let made : c.count_taken.new.made.items ≡ changed (has_made_id id) (with_count c.take-took.result) c.self.inside.made.items = rw (number_back id fits) at c.count_taken.ensures in
    let did = c.take-took.ensures.did in
    subst (λ ms. IsBook c.take-took.new.self ms c.self.inside.got.items) (sym made)
    (take_kept c.self.inside.client c.self.inside.made.items c.self.inside.got.items c.self.invariant id c.take-took.result c.take-took.new.self did.0 did.1 c.take-took.ensures.got)

pub returns : goal.returns
returns c =
    let id = c.args.ticket.now.id in
    let fits : SFits w64 id = search rules in
    let made : c.count_taken.new.made.items ≡ changed (has_made_id id) (with_count c.take-took.result) c.self.inside.made.items = rw (number_back id fits) at c.count_taken.ensures in
    let did = c.take-took.ensures.did in
    subst (λ b. IsTakenOf b id c.take-took.result (book_of c.take-took.new.self c.count_taken.new.made.items c.self.inside.got.items)) c.self.view_is
    (subst (λ ms. IsTakenOf (book_of c.self.inside.client c.self.inside.made.items c.self.inside.got.items) id c.take-took.result (book_of c.take-took.new.self ms c.self.inside.got.items)) (sym made)
    (take_book c.self.inside.client c.self.inside.made.items c.self.inside.got.items c.self.invariant id c.take-took.result c.take-took.new.self did.0 did.1 c.take-took.ensures.held))
