-- What a cursor over the tokens of a text has left, and what a reading of tokens from there gives.
use Rattle.std.specs.Prelude.{Option, Some, None, ◌≡◌, ℕ, Bool, false, List, [], ◌∷◌, ◌++◌, length, Result, Ok, Err, ◌⊎◌}
use Rattle.std.specs.Borrow.{Bor}
use Rattle.readers.specs.Reader.{Outcome, whole, more, bad, one}
use Rattle.bp_text_grammar.specs.Tokens as grammar
use Rattle.bp_text_grammar.specs.Lexing.{Stamped, AreBlanks, IsToken, EndsBefore, IsStuck}
use Rattle.bp_text_grammar.specs.Scanning.{lex}
use Rattle.bp_text_grammar.specs.Texts.{Why, BadText, Float, when}
use Rattle.bp_text_grammar.specs.WholeTexts.{is_open, seen, kinds}
use Rattle.bp_text.specs.declared.halt.Halt.{Halt}
use Rattle.bp_text.specs.declared.halt.Halt.TheVariants as halt
use Rattle.bp_text.specs.declared.token.Token.{Token}
use Rattle.bp_text.specs.declared.cursor.Ahead.{Ahead}
use Rattle.bp_text.specs.Given.{token_of}

-- ---- tokens in front of bytes

-- The token stands at the beginning of y, and r is what stands after it: nothing, where no token stands.
abbrev pub IsTaken : grammar.Token → List ℕ → List ℕ → Type 0
IsTaken t y r = ((x : List ℕ) × (y ≡ x ++ r) × IsToken t x × EndsBefore t r) ⊎ ((r ≡ []) × IsStuck t y)

-- The tokens stand in front of s, with blanks before each, and r is what stands after the last of them.
abbrev pub AreTaken : List Stamped → List ℕ → List ℕ → Type 0
AreTaken [] s r = s ≡ r
AreTaken (t ∷ ts) s r = (b : List ℕ) × (y : List ℕ) × (u : List ℕ) × (s ≡ b ++ y) × AreBlanks b × (t.left ≡ length y) × IsTaken t.token y u × AreTaken ts u r

-- ---- a cursor

-- what stands after the token taken last, and whether the end of the text leaves a text or a char open
pub record Unread : Type 0 where
  pub rest : List ℕ
  pub opens : Bool

-- the tokens that are left, as a grammar sees them
abbrev pub ahead : Unread → List grammar.Token
ahead c = kinds (lex c.rest)

-- how many bytes there are from the first token on
abbrev pub left_of : List Stamped → ℕ
left_of [] = 0
left_of (t ∷ ts) = t.left

-- the token that was looked at is the first one after s
pub record IsAheadOf (s : List ℕ) (next : Ahead) : Type 0 where
  pub token : grammar.Token
  pub is_seen : token_of next.token ≡ seen token
  pub opened : next.opened ≡ is_open token
  pub passes : AreTaken (record { token = token; left = next.left } ∷ []) s next.rest.now

abbrev pub IsAhead : List ℕ → Option Ahead → Type 0
IsAhead s None = lex s ≡ []
IsAhead s (Some next) = IsAheadOf s next

-- the cursor went on, over these tokens
pub record Advances (old new : Unread) : Type 0 where
  pub taken : List Stamped
  pub passes : AreTaken taken old.rest new.rest
  pub opens : new.opens ≡ old.opens

-- ---- a reading from a cursor

-- What is read from `old` on has this outcome, and leaves `new`. Where a token is at fault, it is the first of those that are left.
abbrev pub HasOutcome : {A : Type 0} → Outcome grammar.Token Why A → Unread → Unread → Result A Halt → Type 0
HasOutcome o old new (Ok a) = Advances old new × (o ≡ whole a (ahead new))
HasOutcome o old new (Err halt.More) = Advances old new × (o ≡ more)
HasOutcome o old new (Err halt.Bad) = Advances old new × (o ≡ bad (length (ahead new)) BadText)
HasOutcome o old new (Err halt.Float) = Advances old new × (o ≡ bad (length (ahead new)) Float)
HasOutcome o old new (Err halt.OutOfMemory) = Unit {0}

-- a reading of the tokens that are left
abbrev pub ReadsFrom : {A : Type 0} → (List grammar.Token → Outcome grammar.Token Why A) → Unread → Unread → Result A Halt → Type 0
ReadsFrom reads old new result = HasOutcome (reads (ahead old)) old new result

-- the first token
abbrev pub is_first : (grammar.Token → Bool) → List grammar.Token → Bool
is_first C [] = false
is_first C (t ∷ ts) = C t

abbrev pub IsFirstToken : List grammar.Token → Option (Bor Token) → Type 0
IsFirstToken ts None = ts ≡ []
IsFirstToken ts (Some token) = (us : List grammar.Token) × (ts ≡ token_of token.now ∷ us)

-- the first token is taken
abbrev pub TakesFirst : Unread → Unread → Result Token Halt → Type 0
TakesFirst old new (Ok token) = Advances old new × (ahead old ≡ token_of token ∷ ahead new)
TakesFirst old new (Err halt.More) = Advances old new × (ahead old ≡ [])
TakesFirst old new (Err halt.Bad) = ⊥
TakesFirst old new (Err halt.Float) = ⊥
TakesFirst old new (Err halt.OutOfMemory) = Unit {0}

-- one token, if it is to be taken
abbrev pub taken_at : Bool → List grammar.Token → Outcome grammar.Token Why (Unit {0})
taken_at takes ts = one (λ t. when takes tt) BadText ts
