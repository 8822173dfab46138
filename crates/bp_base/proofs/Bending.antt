-- What a get gives once a byte of it was changed.
use Rattle.std.proofs.Common.{◌≡◌, ◌≤◌, ℕ, List, [], ◌++◌, length, take, drop, slice_set, sym, ap, ◌∙◌, arith, length-take}
use Rattle.std.proofs.lemmas.List.{take_at, take_all, drop_all, append-nil}
use Rattle.bp_base.specs.Moves.{got_bytes, GotFits}
use Rattle.bp_base.specs.declared.wire.Got.{Got}
use Rattle.bp_base.specs.declared.wire.Got.TheVariants.{Exact, Less, Failed}

-- The bytes given were changed as the front of what the buffer holds, and stand after those given
-- before.
pub given_bent : (got : Got) (before into bent : List ℕ) (count at byte : ℕ)
    → GotFits got (length into) → count ≡ length (got_bytes got into)
    → length bent ≡ length (take count into)
    → slice_set (before ++ take count into) at byte ≡ slice_set before at byte ++ bent
    → slice_set (before ++ got_bytes got into) at byte
    ≡ slice_set before at byte ++ got_bytes got (bent ++ drop count into)
given_bent Exact before into bent count at byte fits counted long bends =
    let all : length into ≤ count = omega (arith, counted) in
    ap (λ l. slice_set (before ++ l) at byte) (sym (take_all count into all))
    ∙ bends
    ∙ ap (λ l. slice_set before at byte ++ l)
    (sym (append-nil bent) ∙ ap (λ l. bent ++ l) (sym (drop_all count into all)))
given_bent (Less k) before into bent count at byte fits counted long bends =
    let same : count ≡ k = omega (arith, counted, length-take k into, fits) in
    let long_k : length bent ≡ k = omega (arith, long, same, length-take count into, fits) in
    ap (λ n. slice_set (before ++ take n into) at byte) (sym same)
    ∙ bends
    ∙ ap (λ l. slice_set before at byte ++ l) (sym (take_at bent (drop count into) k long_k))
given_bent Failed before into bent count at byte fits counted long bends =
    let none : length bent ≡ 0 = omega (arith, long, counted, length-take count into) in
    ap (λ n. slice_set (before ++ take n into) at byte) (sym counted)
    ∙ bends
    ∙ ap (λ l. slice_set before at byte ++ l) (nothing bent none)
  where
    nothing : (l : List ℕ) → length l ≡ 0 → l ≡ []
    nothing l none = sym (take_all 0 l (omega (arith, none)))
