-- How the bytes before a place and those from it on change as the place moves on.
use Rattle.std.proofs.Common.{◌≡◌, ℕ, zero, suc, ◌+◌, ◌<◌, ◌≤◌, List, [], ◌∷◌, ◌++◌, Vec, min, length, get_or, slice_get, Some, take, drop, refl, sym, ap, ◌∙◌, subst, arith, append_assoc, length-append, length-drop, inl, inr, take-add, take-append-drop}
use Rattle.std.proofs.lemmas.List.{append-nil, take_all, drop_all, drop-drop}
use Rattle.std.proofs.lemmas.Bool.{cases_lt}
use Rattle.std.specs.declared.alloc.Global.{Global}
use Rattle.bp_base.specs.Faults.{last_count}
use Rattle.bp_base.specs.Places.{Parts, joined, bytes_before, bytes_from, or_else, next_piece}

-- From the first place to the second only pieces that were given whole were passed, and the buffer
-- stayed.
pub record Passes (first : Parts) (first_whole first_at : ℕ) (first_into : List ℕ)
    (now : Parts) (whole at : ℕ) (into : List ℕ) : Type 0 where
  pub before : bytes_before now whole at ≡ bytes_before first first_whole first_at
  pub left : bytes_from now whole at ≡ bytes_from first first_whole first_at
  pub next : next_piece now whole at ≡ next_piece first first_whole first_at
  pub into_same : into ≡ first_into

pub bytes_before_start : (pieces : Parts) → bytes_before pieces 0 0 ≡ []
bytes_before_start [] = refl
bytes_before_start (piece ∷ pieces) = refl

pub bytes_from_start : (pieces : Parts) → bytes_from pieces 0 0 ≡ joined pieces
bytes_from_start [] = refl
bytes_from_start (piece ∷ pieces) = refl

-- past the last piece no byte is left
pub bytes_from_end : (pieces : Parts) (whole at : ℕ) → length pieces ≤ whole
    → bytes_from pieces whole at ≡ []
bytes_from_end [] whole at past = refl
bytes_from_end (piece ∷ pieces) zero at past = absurd (omega arith)
bytes_from_end (piece ∷ pieces) (suc whole) at past = bytes_from_end pieces whole at (omega arith)

-- what an index gives stands there
pub slice_get_index : {X : Type 0} (xs : List X) (i : ℕ) (x : X) → i < length xs
    → x ≡ get_or xs i x → slice_get xs i ≡ Some x
slice_get_index [] i x within is = absurd (omega arith)
slice_get_index (y ∷ xs) zero x within is = ap Some (sym is)
slice_get_index (y ∷ xs) (suc i) x within is = slice_get_index xs i x (omega arith) is

-- behind its last byte a piece was given whole
pub bytes_before_next : (pieces : Parts) (whole at : ℕ) (piece : Vec ℕ Global)
    → slice_get pieces whole ≡ Some piece → length piece.items ≤ at
    → bytes_before pieces (suc whole) 0 ≡ bytes_before pieces whole at
bytes_before_next [] whole at piece is past = refl
bytes_before_next (first ∷ pieces) zero at piece is past =
    let same : first ≡ piece = cc in
    let short : length first.items ≤ at =
    subst (λ (p : Vec ℕ Global). length p.items ≤ at) (sym same) past in
    ap (λ l. first.items ++ l) (bytes_before_start pieces)
    ∙ append-nil first.items ∙ sym (take_all at first.items short)
bytes_before_next (first ∷ pieces) (suc whole) at piece is past =
    ap (λ l. first.items ++ l) (bytes_before_next pieces whole at piece is past)

pub bytes_from_next : (pieces : Parts) (whole at : ℕ) (piece : Vec ℕ Global)
    → slice_get pieces whole ≡ Some piece → length piece.items ≤ at
    → bytes_from pieces (suc whole) 0 ≡ bytes_from pieces whole at
bytes_from_next [] whole at piece is past = refl
bytes_from_next (first ∷ pieces) zero at piece is past =
    let same : first ≡ piece = cc in
    let short : length first.items ≤ at =
    subst (λ (p : Vec ℕ Global). length p.items ≤ at) (sym same) past in
    bytes_from_start pieces ∙ sym (ap (λ l. l ++ joined pieces) (drop_all at first.items short))
bytes_from_next (first ∷ pieces) (suc whole) at piece is past =
    bytes_from_next pieces whole at piece is past

pub next_piece_next : (pieces : Parts) (whole at : ℕ) (piece : Vec ℕ Global)
    → slice_get pieces whole ≡ Some piece → length piece.items ≤ at
    → next_piece pieces (suc whole) 0 ≡ next_piece pieces whole at
next_piece_next [] whole at piece is past = refl
next_piece_next (first ∷ pieces) zero at piece is past =
    let same : first ≡ piece = cc in
    let short : length first.items ≤ at =
    subst (λ (p : Vec ℕ Global). length p.items ≤ at) (sym same) past in
    sym (ap (λ l. or_else l (next_piece pieces 0 0)) (drop_all at first.items short))
next_piece_next (first ∷ pieces) (suc whole) at piece is past =
    next_piece_next pieces whole at piece is past

-- the piece at the place is the next one where a byte of it is left
pub next_piece_here : (pieces : Parts) (whole at : ℕ) (piece : Vec ℕ Global)
    → slice_get pieces whole ≡ Some piece → at < length piece.items
    → next_piece pieces whole at ≡ drop at piece.items
next_piece_here [] whole at piece is some = let none : ⊥ = cc in absurd none
next_piece_here (first ∷ pieces) zero at piece is some =
    let same : first ≡ piece = cc in
    let more : 0 < length (drop at piece.items) = omega (arith, length-drop at piece.items) in
    ap (λ (p : Vec ℕ Global). or_else (drop at p.items) (next_piece pieces 0 0)) same
    ∙ or_else_some (drop at piece.items) (next_piece pieces 0 0) more
  where
    or_else_some : (xs ys : List ℕ) → 0 < length xs → or_else xs ys ≡ xs
    or_else_some [] ys more = absurd (omega arith)
    or_else_some (x ∷ xs) ys more = refl
next_piece_here (first ∷ pieces) (suc whole) at piece is some =
    next_piece_here pieces whole at piece is some

pub next_piece_end : (pieces : Parts) (whole at : ℕ) → length pieces ≤ whole
    → next_piece pieces whole at ≡ []
next_piece_end [] whole at past = refl
next_piece_end (piece ∷ pieces) zero at past = absurd (omega arith)
next_piece_end (piece ∷ pieces) (suc whole) at past = next_piece_end pieces whole at (omega arith)

-- as much of a list as fits
pub take_fitting : (xs : List ℕ) (count room : ℕ) → count ≡ min (length xs) room
    → take count xs ≡ take room xs
take_fitting xs count room is =
    elim (cases_lt room (length xs)) [
      | inl less ↦ let same : count ≡ room = omega arith in ap (λ n. take n xs) same
      | inr fits ↦
          take_all count xs (omega arith) ∙ sym (take_all room xs (omega arith))
    ]

-- more bytes of the piece
pub bytes_before_more : (pieces : Parts) (whole at count : ℕ) (piece : Vec ℕ Global)
    → slice_get pieces whole ≡ Some piece
    → bytes_before pieces whole (at + count)
    ≡ bytes_before pieces whole at ++ take count (drop at piece.items)
bytes_before_more [] whole at count piece is = let none : ⊥ = cc in absurd none
bytes_before_more (first ∷ pieces) zero at count piece is =
    let same : first ≡ piece = cc in
    take-add at count first.items
    ∙ ap (λ (p : Vec ℕ Global). take at first.items ++ take count (drop at p.items)) same
bytes_before_more (first ∷ pieces) (suc whole) at count piece is =
    ap (λ l. first.items ++ l) (bytes_before_more pieces whole at count piece is)
    ∙ sym (append_assoc first.items (bytes_before pieces whole at)
    (take count (drop at piece.items)))

pub bytes_from_more : (pieces : Parts) (whole at count : ℕ) (piece : Vec ℕ Global)
    → slice_get pieces whole ≡ Some piece
    → bytes_from pieces whole at
    ≡ take count (drop at piece.items) ++ bytes_from pieces whole (at + count)
bytes_from_more [] whole at count piece is = let none : ⊥ = cc in absurd none
bytes_from_more (first ∷ pieces) zero at count piece is =
    let same : first ≡ piece = cc in
    let rest = drop count (drop at first.items) in
    ap (λ l. l ++ joined pieces) (sym (take-append-drop count (drop at first.items)))
    ∙ append_assoc (take count (drop at first.items)) rest (joined pieces)
    ∙ ap (λ (p : Vec ℕ Global). take count (drop at p.items) ++ (rest ++ joined pieces)) same
    ∙ ap (λ l. take count (drop at piece.items) ++ (l ++ joined pieces))
    (drop-drop count at first.items)
bytes_from_more (first ∷ pieces) (suc whole) at count piece is =
    bytes_from_more pieces whole at count piece is

-- how many bytes were given, once more were
pub counted_more : (given count : ℕ) (before more now : List ℕ)
    → given ≡ min (length before) last_count → now ≡ before ++ more → length more ≡ count
    → min (given + count) last_count ≡ min (length now) last_count
counted_more given count before more now is grown long =
    let long_now = ap length grown ∙ length-append before more in omega arith
