-- Tokens as they are printed: which of them have a blank before them, and their bytes.
use Rattle.std.specs.Prelude.{◌≡◌, ℕ, ℤ, Bool, true, false, ◌||◌, nat_eq, if◌then◌else◌, List, [], ◌∷◌, ◌++◌, map}
use Rattle.std.specs.List.{flat_map}
use Rattle.bp_value.specs.Names.{IsShapeName}
use Rattle.bp_value.specs.Fits.{InRange}
use Rattle.bp_text_grammar.specs.Tokens.{Token, Word, Number, Text, Char, Mark}
use Rattle.bp_text_grammar.specs.Texts.{round_open, round_close, star, comma, colon, semicolon, equals, square_open, square_close, backtick, curly_open, bar, curly_close}

-- a token, and whether a blank stands before it
abbrev pub Piece : Type 0
Piece = Bool × Token

abbrev pub tight : Token → Piece
tight t = (false, t)

abbrev pub spaced : Token → Piece
spaced t = (true, t)

-- the same with a blank before all
abbrev pub after_blank : List Piece → List Piece
after_blank [] = []
after_blank (p ∷ ps) = (true, p.1) ∷ ps

abbrev pub tokens_of : List Piece → List Token
tokens_of ps = map (λ p. p.1) ps

-- ---- lists

-- more of a list after one: each after a separator, which may have a blank before it, and a blank; and the closing mark
abbrev pub more_pieces : {A : Type 0} → Piece → ℕ → (A → List Piece) → List A → List Piece
more_pieces sep close w [] = tight (Mark close) ∷ []
more_pieces sep close w (v ∷ vs) = sep ∷ after_blank (w v) ++ more_pieces sep close w vs

abbrev pub list_pieces : {A : Type 0} → Piece → ℕ → (A → List Piece) → List A → List Piece
list_pieces sep close w [] = tight (Mark close) ∷ []
list_pieces sep close w (v ∷ vs) = w v ++ more_pieces sep close w vs

-- ---- bytes

-- the bytes of a token, by those of texts and chars in quotes and of decimals; of a token that is never printed none
abbrev pub token_bytes : (List ℕ → List ℕ) → (ℕ → List ℕ) → (ℤ → List ℕ) → Token → List ℕ
token_bytes quoted_text quoted_char decimal_text (Word w) = w
token_bytes quoted_text quoted_char decimal_text (Number n) = decimal_text n
token_bytes quoted_text quoted_char decimal_text (Text t) = quoted_text t
token_bytes quoted_text quoted_char decimal_text (Char b) = quoted_char b
token_bytes quoted_text quoted_char decimal_text (Mark b) = b ∷ []
token_bytes quoted_text quoted_char decimal_text _ = []

abbrev pub blank_if : Bool → List ℕ
blank_if b = if b then 32 ∷ [] else []

-- the bytes of pieces, one after the other
abbrev pub bytes_of : (List ℕ → List ℕ) → (ℕ → List ℕ) → (ℤ → List ℕ) → List Piece → List ℕ
bytes_of quoted_text quoted_char decimal_text ps =
    flat_map (λ p. blank_if p.0 ++ token_bytes quoted_text quoted_char decimal_text p.1) ps

-- ---- when each token is one of its own in the bytes

-- the marks that are printed
abbrev pub marks : List ℕ
marks =
    round_open ∷ round_close ∷ star ∷ comma ∷ colon ∷ semicolon ∷ equals ∷ square_open ∷ square_close ∷ backtick ∷ curly_open ∷ bar
    ∷ curly_close ∷ []

abbrev pub among : ℕ → List ℕ → Bool
among m [] = false
among m (n ∷ ns) = nat_eq m n || among m ns

-- a token that has bytes; Q says which texts and chars in quotes may come
abbrev pub IsWritten : (Token → Type 0) → Token → Type 0
IsWritten Q (Word w) = IsShapeName w
IsWritten Q (Number n) = InRange 63 n
IsWritten Q (Text t) = Q (Text t)
IsWritten Q (Char b) = Q (Char b)
IsWritten Q (Mark m) = among m marks ≡ true
IsWritten Q _ = ⊥

-- a word or a number, which goes on with what may go on it
abbrev pub MayGoOn : Token → Type 0
MayGoOn (Word w) = Unit {0}
MayGoOn (Number n) = Unit {0}
MayGoOn _ = ⊥

-- what goes on nothing: a mark, what has a blank before it, and the end
abbrev pub IsApart : List Piece → Type 0
IsApart [] = Unit {0}
IsApart ((true, t) ∷ ps) = Unit {0}
IsApart ((false, Mark m) ∷ ps) = Unit {0}
IsApart _ = ⊥

-- each token has bytes, and the next does not go on it
abbrev pub AreLaid : (Token → Type 0) → List Piece → Type 0
AreLaid Q [] = Unit {0}
AreLaid Q (p ∷ ps) = IsWritten Q p.1 × (MayGoOn p.1 → IsApart ps) × AreLaid Q ps
