-- What is to go out of an end, taken in one piece or in two.
use Rattle.std.specs.Prelude.{◌≡◌, ℕ, ◌+◌, List}
use Rattle.std.proofs.Common.{ap}
use Rattle.std.proofs.lemmas.List.{drop-drop}
use Rattle.rpc_end.specs.Ends.{EndState, taken_out}

pub out_twice : (e : EndState) (n m : ℕ) → taken_out (taken_out e n) m ≡ taken_out e (n + m)
out_twice e n m = ap (λ (out : List ℕ). record e { output = out }) (drop-drop m n e.output)
