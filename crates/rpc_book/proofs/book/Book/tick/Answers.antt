use Rattle.std.proofs.Common.{subst}
use Rattle.rpc_book.specs.Books.{BookState}
use Rattle.rpc_book.specs.Feeds.{SaysByItself}
use Rattle.rpc_book.proofs.Saying.{ticked_says}
use Rattle.rpc_book.proofs.book.Book.tick.Goals as goal

pub returns-clause-says : goal.returns-clause-says
returns-clause-says c =
    subst (λ (b : BookState). SaysByItself b.link c.tick.new.self.link) c.self.view_is
    (ticked_says c.tick.result c.self.inside.client c.tick.new.self c.args.now c.tick.ensures.ok c.tick.ensures.err)
