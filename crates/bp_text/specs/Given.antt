-- What the calls of the lexer give, in the words of the grammar.
use Rattle.std.specs.Prelude.{◌≡◌, ℕ, ◌<◌, ◌≤◌, Bool, false, List, [], ◌∷◌, length, take, drop, Result, Ok, Err}
use Rattle.std.specs.Int.{is_in_range}
use Rattle.readers.specs.Reader.{Outcome, whole, more, bad}
use Rattle.bp_text_grammar.specs.Tokens as grammar
use Rattle.bp_text_grammar.specs.Scanning.{Scanned, found, stuck, span}
use Rattle.bp_text.specs.declared.stop.Stop.{Stop}
use Rattle.bp_text.specs.declared.stop.Stop.TheVariants as stop
use Rattle.bp_text.specs.declared.token.Token.{Token}
use Rattle.bp_text.specs.declared.token.Token.TheVariants as tok

-- A reading takes the bytes `old` to `new`, some at least. Where a byte is at fault it is the first of those that are left.
abbrev pub ReadsTo : {A : Type 0} → (List ℕ → Outcome ℕ (Unit {0}) A) → List ℕ → List ℕ → Result A Stop → Type 0
ReadsTo reads old new (Ok a) = (reads old ≡ whole a new) × (length new < length old)
ReadsTo reads old new (Err stop.More) = reads old ≡ more
ReadsTo reads old new (Err stop.Bad) = reads old ≡ bad (length new) tt
ReadsTo reads old new (Err stop.OutOfMemory) = Unit {0}

-- the token of the grammar
abbrev pub token_of : Token → grammar.Token
token_of (tok.Word w) = grammar.Word w.now
token_of (tok.Number n) = grammar.Number n
token_of tok.Big = grammar.Big
token_of (tok.Text w) = grammar.Text w
token_of (tok.Char b) = grammar.Char b
token_of (tok.Mark b) = grammar.Mark b
token_of tok.Wrong = grammar.Wrong
token_of tok.OpenText = grammar.OpenText
token_of tok.OpenChar = grammar.OpenChar

-- the token that was scanned, and what stands after it: nothing, where it takes all the rest
abbrev pub IsScanned : Scanned → Token → List ℕ → Type 0
IsScanned (found t r) token rest = (token_of token ≡ t) × (rest ≡ r)
IsScanned (stuck t) token rest = (token_of token ≡ t) × (rest ≡ [])

-- the longest run of a class has n bytes
abbrev pub IsRun : (ℕ → Bool) → List ℕ → ℕ → Type 0
IsRun C s n = (n ≤ length s) × (span C s ≡ (take n s, drop n s))

-- behind the sign a digit stands that is no zero
abbrev pub is_negative : List ℕ → Bool
is_negative [] = false
is_negative (m ∷ []) = false
is_negative (m ∷ d ∷ s) = is_in_range 0x31 0x39 d
