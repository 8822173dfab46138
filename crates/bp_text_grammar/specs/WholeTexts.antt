-- Texts of values and of shapes over their bytes, and the places where others are refused.
use Rattle.std.specs.Prelude.{◌≡◌, ℕ, ◌+◌, ◌≤◌, Bool, true, false, ◌||◌, List, [], ◌∷◌, ◌++◌, length, take, map, ◌⊎◌}
use Rattle.readers.specs.Reader.{Front}
use Rattle.bp_value.specs.declared.value.Value.{Value}
use Rattle.bp_value.specs.declared.shape.Shape.{Shape}
use Rattle.bp_value.specs.Form.{Form}
use Rattle.bp_text_grammar.specs.Tokens.{Token, Text, Char, OpenText, OpenChar}
use Rattle.bp_text_grammar.specs.Lexing.{blank, Stamped, Lexes}
use Rattle.bp_text_grammar.specs.Texts.{Why, BadText, IsValueFault}
use Rattle.bp_text_grammar.specs.ValueTexts.{IsValueTokens}
use Rattle.bp_text_grammar.specs.ShapeTexts.{IsShapeTokens, IsShapeFault}
use Rattle.bp_text_grammar.specs.ShapeFronts.{IsLongestFront}

-- ---- a text that its end leaves open

abbrev pub is_open : Token → Bool
is_open OpenText = true
is_open OpenChar = true
is_open _ = false

abbrev pub has_open : List Stamped → Bool
has_open [] = false
has_open (t ∷ ts) = is_open t.token || has_open ts

-- While the grammar reads, what is left open counts as a text or a char: so a fault before it is found first.
abbrev pub seen : Token → Token
seen OpenText = Text []
seen OpenChar = Char 0
seen t = t

abbrev pub kinds : List Stamped → List Token
kinds ts = map (λ t. seen t.token) ts

-- ---- whole texts of a language over tokens

-- the bytes are a text of the value: their tokens are one, and none is left open
pub record IsTextOf {A : Type 0} (L : A → List Token → Type 0) (a : A) (s : List ℕ) : Type 0 where
  pub tokens : List Stamped
  pub lexed : Lexes tokens s
  pub closed : has_open tokens ≡ false
  pub spelled : L a (kinds tokens)

-- the token b after the tokens p is the first that cannot stand there, for the reason w; it begins at the place k
pub record IsWrongAt {A : Type 0} (L : A → List Token → Type 0) (R : List Token → Token → Why → Type 0) (s : List ℕ) (k : ℕ) (w : Why) : Type 0 where
  pub before : List Stamped
  pub wrong : Stamped
  pub behind : List Stamped
  pub lexed : Lexes (before ++ wrong ∷ behind) s
  pub front : Front L (kinds before)
  pub no_front : Front L (kinds before ++ seen wrong.token ∷ []) → ⊥
  pub why : R (kinds before) (seen wrong.token) w
  pub place : k + wrong.left ≡ length s

-- all tokens begin a text, and the bytes end before they are one
pub record IsShortOf {A : Type 0} (L : A → List Token → Type 0) (s : List ℕ) : Type 0 where
  pub tokens : List Stamped
  pub lexed : Lexes tokens s
  pub front : Front L (kinds tokens)
  pub unfinished : (a : A) → has_open tokens ≡ false → L a (kinds tokens) → ⊥

-- the place where a text is refused, and why: at the first token that cannot stand there, or at its end
abbrev pub IsRefusedText : {A : Type 0} → (A → List Token → Type 0) → (List Token → Token → Why → Type 0) → List ℕ → ℕ → Why → Type 0
IsRefusedText L R s k w = IsWrongAt L R s k w ⊎ ((k ≡ length s) × (w ≡ BadText) × IsShortOf L s)

-- ---- values and shapes

abbrev pub IsValueText : Form → Value → List ℕ → Type 0
IsValueText f v s = IsTextOf (IsValueTokens f) v s

abbrev pub IsValueRefused : Form → List ℕ → ℕ → Type 0
IsValueRefused f s k = IsRefusedText (IsValueTokens f) IsValueFault s k BadText

abbrev pub IsShapeText : Shape → List ℕ → Type 0
IsShapeText shape s = IsTextOf IsShapeTokens shape s

abbrev pub IsShapeRefused : List ℕ → ℕ → Why → Type 0
IsShapeRefused s k w = IsRefusedText IsShapeTokens IsShapeFault s k w

-- ---- a shape in front of a longer text

-- the first so many bytes hold the tokens p whole, and end with the last of them
pub record HoldsJust (s : List ℕ) (used : ℕ) (p : List Token) : Type 0 where
  pub within : used ≤ length s
  pub tokens : List Stamped
  pub lexed : Lexes tokens (take used s)
  pub just : kinds tokens ≡ p
  pub last : (u : List ℕ) → take used s ≡ u ++ blank ∷ [] → ⊥

-- The tokens of s are taken as long as they begin some text of a shape; they are one of this shape, and end after so many bytes.
pub record IsShapeFront (s : List ℕ) (shape : Shape) (used : ℕ) : Type 0 where
  pub all : List Stamped
  pub lexed : Lexes all s
  pub taken : List Token
  pub left : List Token
  pub longest : IsLongestFront IsShapeTokens (kinds all) taken left
  pub spelled : IsShapeTokens shape taken
  pub place : HoldsJust s used taken

-- the tokens that are taken are no text, and the one after them is at fault; or all are taken, and the bytes end too early
abbrev pub IsNoShapeFront : List ℕ → ℕ → Why → Type 0
IsNoShapeFront s k w =
    ((bad : IsWrongAt IsShapeTokens IsShapeFault s k w) × ((shape : Shape) → IsShapeTokens shape (kinds bad.before) → ⊥))
    ⊎ ((k ≡ length s) × (w ≡ BadText) × IsShortOf IsShapeTokens s)
