-- Parts that are appended one after another.
use Rattle.std.proofs.Common.{ap, ◌∙◌, ℕ, List, ◌++◌, Result, Ok, Err, append_assoc}
use Rattle.bp_value.specs.declared.memory.OutOfMemory.{OutOfMemory}
use Rattle.rpc_msg.specs.Adds.{Adds}

-- one part, and then what is left
pub adds_then : (a b old mid new : List ℕ) (r : Result (Unit {0}) OutOfMemory) → Adds a old mid (Ok tt) → Adds b mid new r → Adds (a ++ b) old new r
adds_then a b old mid new (Ok u) first second = second ∙ (ap (λ s. s ++ b) first ∙ append_assoc old a b)
adds_then a b old mid new (Err e) first second =
    (a ++ second.0, second.1 ∙ (ap (λ s. s ++ second.0) first ∙ append_assoc old a second.0))
