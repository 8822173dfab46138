-- What one token says, in the types of the code.
use Rattle.std.specs.Prelude.{Option, Some, None, ℕ, ℤ, Bool, List, [], ◌∷◌, if◌then◌else◌}
use Rattle.bp_value.specs.declared.value.Value.{Value}
use Rattle.bp_value.specs.Form.{Form}
use Rattle.readers.specs.Reader.{Outcome, whole, after, mapped, branch}
use Rattle.bp_text_grammar.specs.Tokens.{Token, Number, Text, Char}
use Rattle.bp_text_grammar.specs.Texts.{Why, semicolon, square_close, round_close, is_mark, mark_at, when}
use Rattle.bp_text_grammar.specs.ValueTexts.{in_range, value_at, label_at}

-- what the first token says, if there is one
abbrev pub of_first : {A : Type 0} → (Token → Option A) → List Token → Option A
of_first h [] = None
of_first h (t ∷ ts) = h t

abbrev pub quoted_bytes_of : Token → Option (List ℕ)
quoted_bytes_of (Text bytes) = Some bytes
quoted_bytes_of _ = None

abbrev pub byte_of : Token → Option ℕ
byte_of (Char byte) = Some byte
byte_of _ = None

-- a number of so many bits and a sign
abbrev pub number_in : ℕ → Token → Option ℤ
number_in bits (Number n) = when (in_range bits n) n
number_in bits _ = None

-- ---- one turn of a list

abbrev pub TokenReader : Type 0 → Type 0
TokenReader A = List Token → Outcome Token Why A

-- after an item of a list: none where it closes, or one after a `;`
abbrev pub next_item_at : {A : Type 0} → TokenReader A → TokenReader (Option A)
next_item_at r ts =
    branch (is_mark square_close) (λ us. mapped (λ u. None) (mark_at square_close us)) (λ us. after (mark_at semicolon us) (λ u xs. mapped (λ v. Some v) (r xs))) ts

-- within an S-expression: none where it closes, or one
abbrev pub next_sexp_at : {A : Type 0} → TokenReader A → TokenReader (Option A)
next_sexp_at r ts = branch (is_mark round_close) (λ us. mapped (λ u. None) (mark_at round_close us)) (λ us. mapped (λ v. Some v) (r us)) ts

-- the mark before each part, or field, but the first; and what is read behind it
abbrev pub separator_at : ℕ → Bool → TokenReader (Unit {0})
separator_at mark is_first ts = if is_first then whole tt ts else mark_at mark ts

abbrev pub after_separator : {A : Type 0} → ℕ → Bool → TokenReader A → TokenReader A
after_separator mark is_first r ts = after (separator_at mark is_first ts) (λ u. r)

abbrev pub labelled_at : List ℕ → Form → TokenReader Value
labelled_at name f ts = after (label_at name ts) (λ u. value_at f)
