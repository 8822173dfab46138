-- What was copied out of a list from some place on.
use Rattle.std.proofs.Common.{◌≡◌, ℕ, ◌-◌, List, length, take, drop, sym, ap, ◌∙◌, arith, length-drop}
use Rattle.std.proofs.lemmas.List.{take_all}

-- what was copied from the slice behind a place are the list's next bytes
pub front_copied : (count at : ℕ) (slice items into : List ℕ) → slice ≡ items
    → take count into ≡ take count (take (length slice - at) (drop at slice))
    → take count (drop at items) ≡ take count into
front_copied count at slice items into is copied =
    let rest = take_all (length slice - at) (drop at slice) (omega (arith, length-drop at slice)) in
    ap (λ l. take count (drop at l)) (sym is) ∙ ap (take count) (sym rest) ∙ sym copied
