use Rattle.std.proofs.Common.{subst}
use Rattle.rpc_book.specs.Books.{IsSound}
use Rattle.rpc_book.proofs.Sounds.{sound}
use Rattle.rpc_book.proofs.book.Book.cause.Goals as goal

pub returns-clause-sound : goal.returns-clause-sound
returns-clause-sound c = subst IsSound c.self.view_is (sound c.self.inside.client c.self.inside.made.items c.self.inside.got.items c.self.invariant)
