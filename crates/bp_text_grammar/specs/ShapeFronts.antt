-- The longest front of some tokens that begins a text, and the reading of it: for a shape in a longer line.
use Rattle.std.specs.Prelude.{◌≡◌, ℕ, ◌-◌, List, [], ◌∷◌, ◌++◌, length, take, drop}
use Rattle.readers.specs.Reader.{Outcome, whole, more, bad, Front}
use Rattle.bp_value.specs.declared.shape.Shape.{Shape}
use Rattle.bp_text_grammar.specs.Tokens.{Token}
use Rattle.bp_text_grammar.specs.Texts.{Why}
use Rattle.bp_text_grammar.specs.ShapeTexts.{shape_at}

-- t is the part of s that is taken: it begins some text, and with one token more of s it begins none; u is left
pub record IsLongestFront {S A : Type 0} (L : A → List S → Type 0) (s t u : List S) : Type 0 where
  pub cut : s ≡ t ++ u
  pub front : Front L t
  pub longest : (b : S) (x : List S) → u ≡ b ∷ x → Front L (t ++ b ∷ []) → ⊥

-- the symbols before a fault, where they are a whole text; and else the fault
abbrev pub before : {S W A : Type 0} → Outcome S W A → List S → ℕ → W → Outcome S W A
before (whole a []) u n w = whole a u
before _ u n w = bad n w

-- what an outcome says of the longest front
abbrev pub taken : {S W A : Type 0} → (List S → Outcome S W A) → List S → Outcome S W A → Outcome S W A
taken r s (whole a u) = whole a u
taken r s more = more
taken r s (bad n w) = before (r (take (length s - n) s)) (drop (length s - n) s) n w

-- the value of the longest front of s, and what stands after it
abbrev pub front_at : {S W A : Type 0} → (List S → Outcome S W A) → List S → Outcome S W A
front_at r s = taken r s (r s)

-- the shape in front of some tokens
unfoldable pub shape_front_at : List Token → Outcome Token Why Shape
shape_front_at ts = front_at shape_at ts
