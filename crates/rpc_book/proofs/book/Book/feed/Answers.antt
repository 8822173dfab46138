use Rattle.std.proofs.Common.{rules, ◌≡◌, sym, subst, ◌+◌, ◌<◌, ◌≤◌, ◌^◌, length, take, arith}
use Rattle.std.specs.Prelude.{None}
use Rattle.bp_num.proofs.Payloads.{bytes_are}
use Rattle.rpc_end.specs.Ends.{WouldTakeOf}
use Rattle.rpc_book.specs.Feeds.{FeedCloses, IsBookFed}
use Rattle.rpc_msg.specs.declared.shared.CloseCause.TheVariants as cause
use Rattle.rpc_book.specs.Inside.{IsBook, book_of, kept_behind}
use Rattle.rpc_book.proofs.Feeding.{fed_book, full_book}
use Rattle.rpc_book.proofs.Once.{count_within}
use Rattle.rpc_book.proofs.Saying.{fed_says}
use Rattle.rpc_book.proofs.book.Book.feed.Goals as goal

pub returns-then-count-len-clause-did : goal.returns-then-count-len-clause-did
returns-then-count-len-clause-did c =
    let open_ : c.self.inside.client.link.cause ≡ None = c.in_default.ensures in
    let takes : WouldTakeOf c.self.inside.client.link c.args.piece.now None c.would_take-count.result =
    subst (λ o. WouldTakeOf c.self.inside.client.link c.args.piece.now o c.would_take-count.result) open_ c.would_take-count.ensures in
    let long : c.len.result ≡ length c.self.inside.got.items = search rules in
    let count : c.len-got.result ≡ length c.self.inside.got.items = search rules in
    let full : 2 ^ 30 < length c.self.inside.got.items + c.would_take-count.result = omega arith in
    subst (λ b. FeedCloses b c.args.piece.now c.args.now (cause.JournalFull c.len-got.result) (book_of c.shut.new.self c.self.inside.made.items c.self.inside.got.items)) c.self.view_is
    (full_book c.self.inside.client c.shut.new.self c.self.inside.made.items c.self.inside.got.items c.args.piece.now c.args.now c.would_take-count.result c.len-got.result count open_ takes full
    c.shut.ensures.did)

pub feed_kept-requires-clause-within : goal.feed_kept-requires-clause-within
feed_kept-requires-clause-within c =
    let open_ : c.self.inside.client.link.cause ≡ None = c.in_default.ensures in
    count_within c.self.inside.client.link c.args.piece.now c.would_take-count.result
    (subst (λ o. WouldTakeOf c.self.inside.client.link c.args.piece.now o c.would_take-count.result) open_ c.would_take-count.ensures)

pub invariant_of-self-2 : goal.invariant_of-self-2
invariant_of-self-2 c =
    let open_ : c.self.inside.client.link.cause ≡ None = c.in_default.ensures in
    let takes : WouldTakeOf c.self.inside.client.link c.args.piece.now None c.would_take-count.result =
    subst (λ o. WouldTakeOf c.self.inside.client.link c.args.piece.now o c.would_take-count.result) open_ c.would_take-count.ensures in
    let long : c.len.result ≡ length c.self.inside.got.items = search rules in
    let was = c.self.invariant.room in
    let room : length c.self.inside.got.items + c.would_take-count.result ≤ 2 ^ 30 = omega arith in
    let kept : c.feed_kept.new.got.items ≡ kept_behind c.self.inside.got.items (take c.would_take-count.result c.args.piece.now) c.feed_kept.result = search rules in
    subst (λ bs. IsBook c.feed_kept.new.client c.self.inside.made.items bs) (sym kept)
    (fed_book c.self.inside.client c.self.inside.made.items c.self.inside.got.items c.self.invariant c.args.piece.now c.args.now c.would_take-count.result
    (bytes_are c.args.piece.now c.type_inv.piece) open_ takes room c.feed_kept.result c.feed_kept.new.client c.feed_kept.ensures.did).0

pub returns-clause-did : goal.returns-clause-did
returns-clause-did c =
    let open_ : c.self.inside.client.link.cause ≡ None = c.in_default.ensures in
    let takes : WouldTakeOf c.self.inside.client.link c.args.piece.now None c.would_take-count.result =
    subst (λ o. WouldTakeOf c.self.inside.client.link c.args.piece.now o c.would_take-count.result) open_ c.would_take-count.ensures in
    let long : c.len.result ≡ length c.self.inside.got.items = search rules in
    let was = c.self.invariant.room in
    let room : length c.self.inside.got.items + c.would_take-count.result ≤ 2 ^ 30 = omega arith in
    let kept : c.feed_kept.new.got.items ≡ kept_behind c.self.inside.got.items (take c.would_take-count.result c.args.piece.now) c.feed_kept.result = search rules in
    subst (λ b. IsBookFed b c.args.piece.now c.args.now c.feed_kept.result (book_of c.feed_kept.new.client c.self.inside.made.items c.feed_kept.new.got.items)) c.self.view_is
    (subst (λ bs. IsBookFed (book_of c.self.inside.client c.self.inside.made.items c.self.inside.got.items) c.args.piece.now c.args.now c.feed_kept.result
    (book_of c.feed_kept.new.client c.self.inside.made.items bs)) (sym kept)
    (fed_book c.self.inside.client c.self.inside.made.items c.self.inside.got.items c.self.invariant c.args.piece.now c.args.now c.would_take-count.result
    (bytes_are c.args.piece.now c.type_inv.piece) open_ takes room c.feed_kept.result c.feed_kept.new.client c.feed_kept.ensures.did).1)

pub returns-clause-says : goal.returns-clause-says
returns-clause-says c = fed_says c.args.self.now c.args.piece.now c.args.now c.feed_kept.result (book_of c.feed_kept.new.client c.self.inside.made.items c.feed_kept.new.got.items) (returns-clause-did c)
