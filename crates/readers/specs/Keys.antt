-- Keys of one length, each at a place: what a text names, symbol by symbol.
use Rattle.std.specs.Prelude.{◌≡◌, ℕ, zero, suc, ◌<◌, nat_eq, if◌then◌else◌, List, [], ◌∷◌, length, ◌⊎◌}
use Rattle.readers.specs.Reader.{Outcome, whole, bad, first}

-- s is the key of the place
abbrev pub Keyed : List (ℕ × List ℕ) → ℕ → List ℕ → Type 0
Keyed [] place s = ⊥
Keyed (k ∷ ks) place s = ((place ≡ k.0) × (s ≡ k.1)) ⊎ Keyed ks place s

-- all keys have n symbols
abbrev pub AllLong : ℕ → List (ℕ × List ℕ) → Type 0
AllLong n [] = Unit {0}
AllLong n (k ∷ ks) = (length k.1 ≡ n) × AllLong n ks

-- no two places have one key
abbrev pub AreApart : List (ℕ × List ℕ) → Type 0
AreApart ks = (p q : ℕ) (s : List ℕ) → Keyed ks p s → Keyed ks q s → p ≡ q

-- with the symbols before it, a symbol begins no key of n symbols
abbrev pub KeyWhy : {W : Type 0} → ℕ → W → List ℕ → ℕ → W → Type 0
KeyWhy n w p b x = (x ≡ w) × (length p < n)

-- what is left of the keys that begin with a symbol
abbrev pub tail_if : ℕ → ℕ → List ℕ → List (ℕ × List ℕ) → List (ℕ × List ℕ)
tail_if b place [] ks = ks
tail_if b place (c ∷ t) ks = if nat_eq c b then (place, t) ∷ ks else ks

abbrev pub next : ℕ → List (ℕ × List ℕ) → List (ℕ × List ℕ)
next b [] = []
next b (k ∷ ks) = tail_if b k.0 k.1 (next b ks)

abbrev pub first_key : {W : Type 0} → W → List (ℕ × List ℕ) → List ℕ → Outcome ℕ W ℕ
first_key w [] s = bad (length s) w
first_key w (k ∷ ks) s = whole k.0 s

-- reading goes on with the keys that are left, if there are some
abbrev pub some_left : {W : Type 0} → W → (List (ℕ × List ℕ) → List ℕ → Outcome ℕ W ℕ) → List (ℕ × List ℕ) → ℕ → List ℕ → Outcome ℕ W ℕ
some_left w r [] b t = bad (length (b ∷ t)) w
some_left w r (k ∷ ks) b t = r (k ∷ ks) t

-- the place of the key of n symbols in front
abbrev pub key_at : {W : Type 0} → W → ℕ → List (ℕ × List ℕ) → List ℕ → Outcome ℕ W ℕ
key_at w zero ks s = first_key w ks s
key_at w (suc n) ks s = first (λ b t. some_left w (key_at w n) (next b ks) b t) s
