-- What a movement makes of a book, by all bytes that came to it.
use Rattle.std.proofs.Common.{◌≡◌, refl, sym, ◌∙◌, subst, ℕ, List, [], ◌++◌, append_assoc, inl}
use Rattle.std.specs.Prelude.{None}
use Rattle.std.proofs.lemmas.List.{append-nil}
use Rattle.readers.specs.Reader.{Each, IsByte}
use Rattle.readers.proofs.Readers.{each-join}
use Rattle.rpc_msg.specs.declared.shared.Limits.{Limits}
use Rattle.rpc_book.specs.Books.{BookState}
use Rattle.rpc_pair.specs.Feeds.{BookCloses, BookTakes}
use Rattle.rpc_pair.specs.Pairs.{BookMoves, Came, is_book_closed}
use Rattle.rpc_pair.proofs.SeenFeeds.{closes_took, takes_all}
use Rattle.rpc_pair.proofs.SeenPieces.{Kept, move_kept}
use Rattle.rpc_pair.proofs.SeenTook.{IsOwnCause, Took, TookAll, going_open, open_all}

-- a book came to another, to which these are all bytes that came
pub record TookOn (b : BookState) (given : List ℕ) (bytes : List ℕ) (new : BookState) : Type 0 where
  pub took : Took (given ++ bytes) new
  pub limits : new.limits ≡ b.limits
  pub bytes_are : Each IsByte bytes

-- nothing came
pub took_none : (b : BookState) (given : List ℕ) (new : BookState) → new.limits ≡ b.limits → Took given new → TookOn b given [] new
took_none b given new limits took = record { took = subst (λ g. Took g new) (sym (append-nil given)) took; limits = limits; bytes_are = tt }

-- one behind the other
pub took_along : (a b c : BookState) (given one two : List ℕ) → TookOn a given one b → TookOn b (given ++ one) two c → TookOn a given (one ++ two) c
took_along a b c given one two first second = record {
  took = subst (λ g. Took g c) (append_assoc given one two) second.took;
  limits = second.limits ∙ first.limits;
  bytes_are = each-join IsByte one two first.bytes_are second.bytes_are;
}

module _ (now : ℕ) (l : Limits) where
  -- with its limits; and while it goes on it took all
  abbrev HasTook : List ℕ → BookState → Type 0
  HasTook given b = Took given b × (b.limits ≡ l)

  abbrev TakesAll : List ℕ → BookState → Type 0
  TakesAll given b = TookAll given b × (b.link.cause ≡ None) × (b.limits ≡ l)

  book_kept : Kept is_book_closed (BookTakes now) (BookCloses now) HasTook TakesAll
  book_kept = record {
    goes = λ given b open_ took. let going = going_open b.link open_ in (open_all given b going took.0, going, took.1);
    holds = λ given b all. (inl (all.0, subst IsOwnCause (sym all.1) tt), all.2);
    takes = λ given b piece n new bytes all fed. let on = takes_all given b all.0 piece now new n fed.1 in (on.0, on.1, on.2 ∙ all.2);
    closes = λ given b piece new bytes all fed. let on = closes_took given b all.0 piece now new fed.0 all.1 fed.1 in (on.0, on.1 ∙ all.2);
  }

-- A movement: the book took what it could of all that came with it.
pub book_moves : (now count by : ℕ) (given : List ℕ) (b : BookState) (came : Came) (new : BookState) → Took given b → BookMoves now count by b came new
    → TookOn b given came.bytes new
book_moves now count by given b came new took moved =
    let (on, bytes) = move_kept is_book_closed (BookTakes now) (BookCloses now) (HasTook now b.limits) (TakesAll now b.limits) (book_kept now b.limits) count by given b
    came.bytes came.short new (took, refl) moved in
    record { took = on.0; limits = on.1; bytes_are = bytes }
