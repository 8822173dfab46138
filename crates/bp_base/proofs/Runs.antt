-- What holds of a source or a sink in the middle of a run of its calls.
use Rattle.std.proofs.Common.{◌≡◌, ℕ, ◌+◌, ◌-◌, ◌≤◌, Bool, List, [], ◌++◌, length, take, drop, sym, ap, ◌∙◌, subst, arith, length-drop, take-add}
use Rattle.std.proofs.lemmas.List.{take_all}
use Rattle.std.specs.declared.option.Option.{Option}
use Rattle.bp_base.specs.Told.{Gains, Loses}
use Rattle.bp_base.specs.Whole.{Came}
use Rattle.bp_base.proofs.Telling.{Gains-nil, Gains-trans, Loses-nil, Loses-trans}

-- these bytes were read so far, and are not too many
pub record ReadSoFar {S : Type 0} (given left : S → Option (List ℕ)) (ended : S → Bool)
    (faults : S → ℕ) (old now : S) (max : ℕ) (bytes : List ℕ) : Type 0 where
  pub came : Came given left old now bytes
  pub ended_same : ended now ≡ ended old
  pub steady : faults now ≡ faults old
  pub fits : length bytes ≤ max

-- so many bytes of the piece were written so far
pub record WrittenSoFar {K : Type 0} (put : K → Option (List ℕ)) (faults : K → ℕ) (old now : K)
    (piece : List ℕ) (written : ℕ) : Type 0 where
  pub taken : Gains put old now (take written piece)
  pub steady : faults now ≡ faults old
  pub within : written ≤ length piece

-- no byte came
pub Came-nil : {S : Type 0} (given left : S → Option (List ℕ)) (now : S)
    → Came given left now now []
Came-nil given left now = record { given = Gains-nil given now; left = Loses-nil left now }

-- more bytes came
pub Came_more : {S : Type 0} (given left : S → Option (List ℕ)) (first before now : S)
    (bytes more : List ℕ) → Came given left first before bytes → Gains given before now more
    → Loses left before now more → Came given left first now (bytes ++ more)
Came_more given left first before now bytes more came gains loses = record {
  given = Gains-trans given first before now bytes more came.given gains;
  left = Loses-trans left first before now bytes more came.left loses;
}

-- a write behind the bytes that were written
pub Gains_written : {K : Type 0} (put : K → Option (List ℕ)) (first before now : K)
    (piece : List ℕ) (written count : ℕ) → Gains put first before (take written piece)
    → Gains put before now (take count (take (length piece - written) (drop written piece)))
    → Gains put first now (take (written + count) piece)
Gains_written put first before now piece written count so_far taken =
    let behind = take (length piece - written) (drop written piece) in
    let rest : behind ≡ drop written piece =
    take_all (length piece - written) (drop written piece)
    (omega (arith, length-drop written piece)) in
    let whole : take written piece ++ take count behind ≡ take (written + count) piece =
    ap (λ l. take written piece ++ take count l) rest ∙ sym (take-add written count piece) in
    subst (λ l. Gains put first now l) whole
    (Gains-trans put first before now (take written piece) (take count behind) so_far taken)
