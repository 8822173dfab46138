-- A movement in pieces of no bytes moves nothing.
use Rattle.std.proofs.Common.{◌≡◌, ◌≢◌, refl, sym, ap, ◌∙◌, subst, ℕ, Bool, List, [], ◌∷◌, ◌++◌, arith, inl, inr, ◌⊎◌}
use Rattle.std.specs.List.{concat}
use Rattle.std.proofs.lemmas.List.{nil_from_length}
use Rattle.rpc_pair.specs.Moving.{IsFeed, IsMove, Moving, TakesPiece, Taking}
use Rattle.rpc_pair.specs.Runs.{Leads}

module _ {S : Type 0} (closed : S → Bool) (Feeds : S → List ℕ → ℕ → S → Type 0) (Closes : S → List ℕ → S → Type 0) where
  -- an end that takes no bytes is as it was
  taken_none : (old new : S) → TakesPiece Feeds Closes old [] new → new ≡ old
  taken_none old new takes = by takes.counts takes.fed takes.ends
    where
      by : (counts : List ℕ) → Leads (IsFeed Feeds) (record { at = old; piece = [] }) counts takes.behind
          → ((takes.behind.piece ≡ []) × (new ≡ takes.behind.at)) ⊎ ((takes.behind.piece ≢ []) × Closes takes.behind.at takes.behind.piece new) → new ≡ old
      by [] same (inl (none, is)) = is ∙ sym (ap (λ (x : Taking S). x.at) same)
      by [] same (inr (some, closes)) = absurd (some (sym (ap (λ (x : Taking S). x.piece) same)))
      by (n ∷ counts) (next, fed, later) ends = absurd (fed.some refl)

  moving_same : (one two : Moving S) → one.at ≡ two.at → one.left ≡ two.left → one ≡ two
  moving_same one two at left = ap (λ (x : S). record { at = x; left = one.left }) at ∙ ap (λ (k : ℕ). record { at = two.at; left = k }) left

  pub none_moves : (pieces : List (List ℕ)) (from behind : Moving S) → Leads (IsMove closed (TakesPiece Feeds Closes) 0) from pieces behind → (behind ≡ from) × (concat pieces ≡ [])
  none_moves [] from behind same = (sym same, refl)
  none_moves (piece ∷ pieces) from behind (next, move, later) =
      let none : piece ≡ [] = nil_from_length piece (omega (arith, move.size)) in
      let at : next.at ≡ from.at = taken_none from.at next.at (subst (λ p. TakesPiece Feeds Closes from.at p next.at) none move.takes) in
      let left : next.left ≡ from.left = omega (arith, move.left, move.size) in
      let same : next ≡ from = moving_same next from at left in
      let (rest, bytes) = none_moves pieces next behind later in
      (rest ∙ same, ap (λ p. p ++ concat pieces) none ∙ bytes)
