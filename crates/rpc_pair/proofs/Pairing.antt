-- What every pair keeps, over a change of an end and of its buffer.
use Rattle.std.proofs.Common.{◌≡◌, ap, ◌∙◌, ℕ, ◌++◌, List, length, take, drop, arith}
use Rattle.std.proofs.lemmas.List.{length-append, length-drop, length-take}
use Rattle.rpc_msg.specs.declared.shared.Limits.{Limits}
use Rattle.rpc_server.specs.Rules.{Rules}
use Rattle.rpc_server.specs.Servers.{ServerState}
use Rattle.rpc_book.specs.Books.{BookState}
use Rattle.rpc_pair.specs.Kept.{BookKeeps, IsPair, most_piece}

-- the buffer is as long as before
pub still_room : (n m : ℕ) (xs ys : List ℕ) → n ≡ length ys → length ys ≡ m → length xs ≡ length ys → length (take n (xs ++ drop (length xs) ys)) ≡ m
still_room n m xs ys all long same =
    omega (arith, all, long, same, length-take n (xs ++ drop (length xs) ys), length-append xs (drop (length xs) ys), length-drop (length xs) ys)

pub still_pair : (b new : BookState) (s next : ServerState) (limits : Limits) (buffer other : List ℕ) → IsPair b s limits buffer → BookKeeps b new → next.rules ≡ s.rules
    → length other ≡ most_piece → IsPair new next limits other
still_pair b new s next limits buffer other is keeps rules room = record {
  ranges = is.ranges;
  client_limits = keeps.limits ∙ is.client_limits;
  server_limits = ap (λ (r : Rules). r.limits) rules ∙ is.server_limits;
  room = room;
  kept = keeps.kept is.kept;
}
