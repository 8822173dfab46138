-- Steps one after the other, and one more.
use Rattle.std.proofs.Common.{refl, sym, subst, List, [], ◌∷◌, ◌++◌}
use Rattle.rpc_pair.specs.Runs.{Leads}

pub leads_more : {S A : Type 0} (Step : S → A → S → Type 0) (from mid to : S) (done : List A) (a : A) → Leads Step from done mid → Step mid a to → Leads Step from (done ++ a ∷ []) to
leads_more Step from mid to [] a same step = (to, subst (λ x. Step x a to) (sym same) step, refl)
leads_more Step from mid to (b ∷ done) a (next, first, later) step = (next, first, leads_more Step next mid to done a later step)
