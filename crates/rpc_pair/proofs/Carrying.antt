-- Pieces that a wire gave, and the last that came short.
use Rattle.std.proofs.Common.{◌≡◌, sym, ap, ◌∙◌, ℕ, List, [], ◌∷◌, ◌++◌, length, append_assoc, arith}
use Rattle.std.specs.Prelude.{Option, Some, None}
use Rattle.std.specs.List.{concat}
use Rattle.std.specs.Io.KnownBytes.{append_known}
use Rattle.std.proofs.lemmas.List.{append-nil, length-append}
use Rattle.bp_base.specs.Moves.{GotAll, in_flight}
use Rattle.bp_base.specs.declared.wire.Got.TheVariants as got
use Rattle.rpc_pair.specs.Moving.{IsSpent}

-- one piece more
pub concat_more : (pieces : List (List ℕ)) (piece : List ℕ) → concat (pieces ++ piece ∷ []) ≡ concat pieces ++ piece
concat_more [] piece = append-nil piece
concat_more (x ∷ pieces) piece = ap (λ l. x ++ l) (concat_more pieces piece) ∙ sym (append_assoc x (concat pieces) piece)

-- behind a get that gave less than was asked for nothing is in flight
pub spent_short : (sent given : Option (List ℕ)) (less room : ℕ) (piece : List ℕ) → GotAll (got.Less less) (in_flight sent given) room → length piece ≡ less
    → IsSpent (in_flight sent (append_known given piece))
spent_short None given less room piece all long = tt
spent_short (Some s) None less room piece all long = tt
spent_short (Some s) (Some g) less room piece all long = omega (arith, all, long, length-append g piece)
