-- What holds of an error that was passed on.
use Rattle.std.proofs.Common.{◌≡◌, sym, subst}
use Rattle.std.specs.Prelude.{Result, Ok, Err}
use Rattle.std.specs.Result.{IsErrAnd}

pub err_to : {A E : Type 0} (r : Result A E) (e : E) (P : Result A E → Type 0) → IsErrAnd r (λ x. x ≡ e) → P (Err e) → P r
err_to (Ok a) e P is holds = absurd is
err_to (Err x) e P is holds = subst (λ y. P (Err y)) (sym is) holds
