-- The last of some values, and S-expressions of values.
use Rattle.std.proofs.Common.{◌≡◌, refl, ap, List, [], ◌∷◌, ◌++◌, map}
use Rattle.bp_value.specs.declared.value.Value.{Value}
use Rattle.bp_codec.specs.Levels.{last_of}

pub last_of-append : (vs : List Value) (v : Value) → last_of (vs ++ v ∷ []) ≡ v
last_of-append [] v = refl
last_of-append (w ∷ []) v = refl
last_of-append (w ∷ x ∷ vs) v = last_of-append (x ∷ vs) v

pub map_append : {A B : Type 0} (f : A → B) (xs : List A) (x : A) → map f (xs ++ x ∷ []) ≡ map f xs ++ f x ∷ []
map_append f [] x = refl
map_append f (y ∷ xs) x = ap (λ zs. f y ∷ zs) (map_append f xs x)
