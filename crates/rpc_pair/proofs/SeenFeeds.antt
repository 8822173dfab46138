-- What a feed makes of a book, by all bytes that came to it.
use Rattle.std.proofs.Common.{◌≡◌, sym, ap, ◌∙◌, ℕ, List, ◌++◌, length, take, drop, append_assoc, arith, inl, inr, ◌⊎◌}
use Rattle.std.specs.Prelude.{Some, None}
use Rattle.std.proofs.lemmas.List.{length-append, take-append-drop}
use Rattle.rpc_msg.specs.declared.shared.CloseCause.{CloseCause}
use Rattle.rpc_msg.specs.declared.shared.CloseCause.TheVariants as cause
use Rattle.rpc_end.specs.Ends.{EndState, shut, shut_by}
use Rattle.rpc_book.specs.Books.{BookState, fault_of, with_connection}
use Rattle.rpc_book.specs.Feeds.{ClosesAt, FeedCloses, HearsMessage, IsFull, PassesFault, PassesPart, TakesOn, end_heard, with_bytes}
use Rattle.rpc_book.proofs.Once.{count_within}
use Rattle.rpc_pair.proofs.SeenTook.{Took, TookAll, TookFault, TookFull, no_cause}

-- a book got these bytes more
abbrev pub Gets : BookState → List ℕ → BookState → Type 0
Gets b bytes new = (e : EndState) × (new ≡ with_bytes b bytes e)

part_gets : (b : BookState) (piece : List ℕ) (now n : ℕ) (new : BookState) → PassesPart b piece now n new ⊎ HearsMessage b piece now n None new → Gets b (take n piece) new
part_gets b piece now n new (inl (part, is)) = (new.link, is)
part_gets b piece now n new (inr hears) = (end_heard b hears.behind now hears.got.message, hears.new_is)

fault_gets : (b : BookState) (piece : List ℕ) (now n : ℕ) (why : CloseCause) (new : BookState)
    → PassesFault b piece n why new ⊎ HearsMessage b piece now n (Some why) new → Gets b (take n piece) new
fault_gets b piece now n why new (inl (part, is)) = (new.link, is)
fault_gets b piece now n why new (inr hears) = (end_heard b hears.behind now hears.got.message, hears.new_is)

module _ (given : List ℕ) (b : BookState) (all : TookAll given b) (piece : List ℕ) (now : ℕ) (new : BookState) where
  -- it took all that came with these bytes, and goes on
  pub takes_all : (n : ℕ) → TakesOn b piece now n new → TookAll (given ++ take n piece) new × (new.link.cause ≡ None) × (new.limits ≡ b.limits)
  takes_all n takes =
      let (e, is) = part_gets b piece now n new takes.did in (
        record { all = ap (λ g. g ++ take n piece) all.all ∙ sym (ap (λ (x : BookState). x.got) is); calm = takes.fault },
        takes.calm,
        ap (λ (x : BookState). x.limits) is,
      )

  -- it closes at a fault
  faults : (why : CloseCause) (n : ℕ) → ClosesAt b piece now why new n → TookFault (given ++ piece) new why × (new.limits ≡ b.limits)
  faults why n closes =
      let (e, is) = fault_gets b piece now n why new closes.did in (
        record {
          closed = closes.stops.closed;
          left = drop n piece;
          front = ap (λ g. g ++ piece) all.all ∙ (ap (λ p. b.got ++ p) (sym (take-append-drop n piece)) ∙ (sym (append_assoc b.got (take n piece) (drop n piece))
              ∙ ap (λ g. g ++ drop n piece) (sym (ap (λ (x : BookState). x.got) is))));
          fault = closes.stops.fault;
        },
        ap (λ (x : BookState). x.limits) is,
      )

  -- or where it has no room
  fills : (why : CloseCause) → b.link.cause ≡ None → IsFull b piece → why ≡ cause.JournalFull (length b.got) → new ≡ with_connection b (shut b.link why)
      → TookFull (given ++ piece) new × (new.limits ≡ b.limits)
  fills why open_ (n, takes, over) is_why is =
      let got : new.got ≡ b.got = ap (λ (x : BookState). x.got) is in (
        record {
          closed = ap (λ (x : BookState). x.link.cause) is ∙ (ap (λ o. (shut_by b.link why o).cause) open_
              ∙ (ap (λ x. Some x) is_why ∙ ap (λ (g : List ℕ). Some (cause.JournalFull (length g))) (sym got)));
          left = piece;
          front = ap (λ g. g ++ piece) (all.all ∙ sym got);
          calm = ap fault_of is ∙ all.calm;
          over = omega (arith, over, count_within b.link piece n takes, length-append given piece, ap length all.all);
        },
        ap (λ (x : BookState). x.limits) is,
      )

  -- a feed that closes it: it took what it could of all that came with the piece
  pub closes_took : (why : CloseCause) → b.link.cause ≡ None → FeedCloses b piece now why new → Took (given ++ piece) new × (new.limits ≡ b.limits)
  closes_took why open_ (inl (closed, same)) = absurd (no_cause b.link.cause why open_ closed)
  closes_took why open_ (inr (inl (going, full, is_why, is))) = let (took, same) = fills why open_ full is_why is in (inr (inr took), same)
  closes_took why open_ (inr (inr (going, (n, closes)))) = let (took, same) = faults why n closes in (inr (inl (why, took)), same)
