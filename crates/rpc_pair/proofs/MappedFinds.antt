-- What is found among changed things.
use Rattle.std.proofs.Common.{◌≡◌, refl, Bool, true, false, List, [], ◌∷◌, map, if◌then◌else◌}
use Rattle.std.specs.Prelude.{Some, option_map}
use Rattle.std.specs.List.{find}

pub find_map : {X Y : Type 0} (f : X → Y) (q : Y → Bool) (xs : List X) → find q (map f xs) ≡ option_map f (find (λ x. q (f x)) xs)
find_map f q [] = refl
find_map f q (x ∷ xs) = by (q (f x)) (find_map f q xs)
  where
    by : (b : Bool) → find q (map f xs) ≡ option_map f (find (λ x. q (f x)) xs)
        → (if b then Some (f x) else find q (map f xs)) ≡ option_map f (if b then Some x else find (λ x. q (f x)) xs)
    by true same = refl
    by false same = same
