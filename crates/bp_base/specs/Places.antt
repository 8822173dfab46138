-- Pieces of bytes, cut at a place: so many whole pieces, and so many bytes of the next one.
use Rattle.std.specs.Prelude.{ℕ, zero, suc, List, [], ◌∷◌, ◌++◌, Vec, take, drop}
use Rattle.std.specs.List.{flat_map}
use Rattle.std.specs.declared.alloc.Global.{Global}

abbrev pub Parts : Type 0
Parts = List (Vec ℕ Global)

-- all bytes of the pieces
abbrev pub joined : Parts → List ℕ
joined pieces = flat_map (λ piece. piece.items) pieces

-- the bytes before the place
abbrev pub bytes_before : Parts → ℕ → ℕ → List ℕ
bytes_before [] whole at = []
bytes_before (piece ∷ pieces) zero at = take at piece.items
bytes_before (piece ∷ pieces) (suc whole) at = piece.items ++ bytes_before pieces whole at

-- the bytes from the place on
abbrev pub bytes_from : Parts → ℕ → ℕ → List ℕ
bytes_from [] whole at = []
bytes_from (piece ∷ pieces) zero at = drop at piece.items ++ joined pieces
bytes_from (piece ∷ pieces) (suc whole) at = bytes_from pieces whole at

-- a list, or where it is empty another
abbrev pub or_else : List ℕ → List ℕ → List ℕ
or_else [] other = other
or_else (x ∷ xs) other = x ∷ xs

-- what is left of the first piece that has a byte from the place on
abbrev pub next_piece : Parts → ℕ → ℕ → List ℕ
next_piece [] whole at = []
next_piece (piece ∷ pieces) zero at = or_else (drop at piece.items) (next_piece pieces 0 0)
next_piece (piece ∷ pieces) (suc whole) at = next_piece pieces whole at
