-- The words of the grammars of texts: what one token is, and why one is at fault.
use Rattle.std.specs.Prelude.{Option, Some, None, ◌≡◌, ℕ, Bool, true, false, ◌&&◌, nat_eq, if◌then◌else◌, List, [], ◌∷◌}
use Rattle.readers.specs.Reader.{Outcome, after, mapped, Then, Mapped, One, one}
use Rattle.bp_text_grammar.specs.Tokens.{Token, Word, Mark}

-- why a token is at fault: it is the word `float` where a base of a shape may stand, or it is another that cannot stand
pub data Why : Type 0 where
  Float : Why
  BadText : Why

-- in texts of values no token has a reason of its own
abbrev pub IsValueFault : List Token → Token → Why → Type 0
IsValueFault p t w = w ≡ BadText

-- ---- the marks

abbrev pub round_open : ℕ
round_open = 40

abbrev pub round_close : ℕ
round_close = 41

abbrev pub star : ℕ
star = 42

abbrev pub comma : ℕ
comma = 44

abbrev pub colon : ℕ
colon = 58

abbrev pub semicolon : ℕ
semicolon = 59

abbrev pub equals : ℕ
equals = 61

abbrev pub square_open : ℕ
square_open = 91

abbrev pub square_close : ℕ
square_close = 93

abbrev pub backtick : ℕ
backtick = 96

abbrev pub curly_open : ℕ
curly_open = 123

abbrev pub bar : ℕ
bar = 124

abbrev pub curly_close : ℕ
curly_close = 125

-- ---- tests of a token

-- whether two names have the same bytes
abbrev pub same : List ℕ → List ℕ → Bool
same [] [] = true
same [] (b ∷ t) = false
same (a ∷ s) [] = false
same (a ∷ s) (b ∷ t) = nat_eq a b && same s t

abbrev pub is_mark : ℕ → Token → Bool
is_mark m (Mark b) = nat_eq b m
is_mark m _ = false

abbrev pub is_word : List ℕ → Token → Bool
is_word w (Word x) = same x w
is_word w _ = false

-- ---- one token

abbrev pub when : {A : Type 0} → Bool → A → Option A
when b a = if b then Some a else None

abbrev pub mark : ℕ → Token → Option (Unit {0})
mark m t = when (is_mark m t) tt

-- a word that stands for a value
abbrev pub word_for : {A : Type 0} → List ℕ → A → Token → Option A
word_for w a t = when (is_word w t) a

abbrev pub ThisMark : ℕ → Unit {0} → List Token → Type 0
ThisMark m u ts = One (mark m) u ts

abbrev pub mark_at : ℕ → List Token → Outcome Token Why (Unit {0})
mark_at m ts = one (mark m) BadText ts

abbrev pub ThisWord : List ℕ → Unit {0} → List Token → Type 0
ThisWord w u ts = One (word_for w tt) u ts

abbrev pub word_at : List ℕ → List Token → Outcome Token Why (Unit {0})
word_at w ts = one (word_for w tt) BadText ts

-- ---- lists

-- a closing mark, and no value
abbrev pub Closed : {A : Type 0} → ℕ → List A → List Token → Type 0
Closed close vs ts = Mapped (λ u. []) (ThisMark close) vs ts

abbrev pub closed_at : {A : Type 0} → ℕ → List Token → Outcome Token Why (List A)
closed_at close ts = mapped (λ u. []) (mark_at close ts)

-- a value, and then more values
abbrev pub Onto : {A : Type 0} → (A → List Token → Type 0) → (List A → List Token → Type 0) → List A → List Token → Type 0
Onto L M vs ts = Then L (λ v. Mapped (λ us. v ∷ us) M) vs ts

abbrev pub onto_at : {A : Type 0} → (List Token → Outcome Token Why A) → (List Token → Outcome Token Why (List A)) → List Token → Outcome Token Why (List A)
onto_at r q ts = after (r ts) (λ v us. mapped (λ vs. v ∷ vs) (q us))
