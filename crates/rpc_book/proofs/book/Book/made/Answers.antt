use Rattle.std.proofs.Common.{sym, ap, ◌∙◌, map, subst}
use Rattle.rpc_book.specs.Books.{IsSound}
use Rattle.rpc_book.proofs.Sounds.{sound}
use Rattle.rpc_book.specs.Books.{BookState}
use Rattle.rpc_book.proofs.Ties.{made_both}
use Rattle.rpc_book.proofs.book.Book.made.Goals as goal

pub returns-clause-made : goal.returns-clause-made
returns-clause-made c =
    c.as_slice.ensures.value
    ∙ (sym (made_both c.self.inside.made.items c.self.inside.client.rows c.self.invariant.dispatches) ∙ ap (λ (b : BookState). map (λ d. d.made) b.made) c.self.view_is)

pub returns-clause-sound : goal.returns-clause-sound
returns-clause-sound c = subst IsSound c.self.view_is (sound c.self.inside.client c.self.inside.made.items c.self.inside.got.items c.self.invariant)
