-- Values up to a closing symbol, with no separator between them.
use Rattle.std.specs.Prelude.{◌≡◌, ℕ, zero, suc, Bool, true, if◌then◌else◌, List, [], ◌∷◌, ◌++◌, length}
use Rattle.readers.specs.Reader.{Outcome, whole, bad, after, mapped, first, Follows, IsNot}

-- texts of the values, one after the other, and then a closing symbol
abbrev pub Until : {S A : Type 0} → (S → Bool) → (A → List S → Type 0) → List A → List S → Type 0
Until {S = S} close L [] s = (c : S) × (close c ≡ true) × (s ≡ c ∷ [])
Until {S = S} close L (v ∷ vs) s = (t : List S) × (u : List S) × (s ≡ t ++ u) × L v t × Until close L vs u

-- b is at fault after texts of the values and symbols of one more: those and b begin with no closing symbol, and R is the reason
abbrev pub UntilWhyAfter : {S W A : Type 0} → (S → Bool) → (A → List S → Type 0) → (List S → S → W → Type 0) → List A
    → List S → S → W → Type 0
UntilWhyAfter close L R [] p b w = Follows (IsNot close) (p ++ b ∷ []) × R p b w
UntilWhyAfter {S = S} close L R (v ∷ vs) p b w = (t : List S) × (q : List S) × (p ≡ t ++ q) × L v t × UntilWhyAfter close L R vs q b w

-- the same after texts of some values
abbrev pub UntilWhy : {S W A : Type 0} → (S → Bool) → (A → List S → Type 0) → (List S → S → W → Type 0) → List S → S → W → Type 0
UntilWhy {A = A} close L R p b w = (vs : List A) × UntilWhyAfter close L R vs p b w

-- The reading of it, for at most k values. One more is at fault for w, and there is none where k is the number of symbols.
unfoldable pub until : {S W A : Type 0} → (S → Bool) → W → (List S → Outcome S W A) → ℕ → List S → Outcome S W (List A)
until close w r zero s = first (λ c t. if close c then whole [] t else bad (length (c ∷ t)) w) s
until close w r (suc k) s =
    first (λ c t. if close c then whole [] t else after (r (c ∷ t)) (λ v u. mapped (λ vs. v ∷ vs) (until close w r k u))) s
