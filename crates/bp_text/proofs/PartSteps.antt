-- The parts of shapes of one token.
use Rattle.std.proofs.Common.{◌≡◌, sym, ap, ◌∙◌, ℕ, ◌≤◌, nat_le, true, Option, Some, None, List, ◌∷◌, length, Ok, arith}
use Rattle.readers.specs.Reader.{one, leaf}
use Rattle.readers.proofs.Leaves.{pick_true}
use Rattle.bp_value.specs.declared.shape.Shape.{Shape}
use Rattle.bp_text_grammar.specs.Tokens as grammar
use Rattle.bp_text_grammar.specs.Texts.{BadText, is_mark}
use Rattle.bp_text_grammar.specs.ShapeTexts.{name_of, base_of, base_why, base_word_at}
use Rattle.bp_text.specs.declared.token.Token.{Token}
use Rattle.bp_text.specs.Given.{token_of}
use Rattle.bp_text.specs.Items.{closing}
use Rattle.bp_text.specs.Unread.{Unread, ahead, is_first, ReadsFrom, TakesFirst}

-- the first token, which has a value, is taken
leaf_taken : {A : Type 0} (h : grammar.Token → Option A) (old new : Unread) (token : Token) (a : A) → h (token_of token) ≡ Some a
    → TakesFirst old new (Ok token) → ReadsFrom (one h BadText) old new (Ok a)
leaf_taken h old new token a is (goes, cut) =
    (goes, ap (one h BadText) cut ∙ ap (λ o. leaf o (length (token_of token ∷ ahead new)) BadText (ahead new)) is)

first_same : (ts us vs : List grammar.Token) (a b : grammar.Token) → ts ≡ a ∷ us → ts ≡ b ∷ vs → a ≡ b
first_same ts us vs a b one two = cc

-- the first token was looked at, and is taken
pub leaf_looked : {A : Type 0} (h : grammar.Token → Option A) (old new : Unread) (token : Token) (t : grammar.Token) (us : List grammar.Token) (a : A)
    → ahead old ≡ t ∷ us → h t ≡ Some a → TakesFirst old new (Ok token) → ReadsFrom (one h BadText) old new (Ok a)
leaf_looked h old new token t us a looked is takes =
    leaf_taken h old new token a (ap h (first_same (ahead old) (ahead new) us (token_of token) t takes.1 looked) ∙ is) takes

pub name_is : (w : List ℕ) → length w ≤ 64 → name_of (grammar.Word w) ≡ Some w
name_is w le = pick_true (nat_le (length w) 64) (Some w) None (grind arith)

pub base_taken : (old new : Unread) (token : Token) (t : grammar.Token) (us : List grammar.Token) (a : Shape) → ahead old ≡ t ∷ us
    → base_of t ≡ Some a
    → TakesFirst old new (Ok token) → ReadsFrom base_word_at old new (Ok a)
base_taken old new token t us a looked is takes =
    (takes.0, ap base_word_at takes.1 ∙ ap (λ o. leaf o (length (token_of token ∷ ahead new)) (base_why (token_of token)) (ahead new)) same_base)
  where
    same_base : base_of (token_of token) ≡ Some a
    same_base = ap base_of (first_same (ahead old) (ahead new) us (token_of token) t takes.1 looked) ∙ is

-- the mark that closes a list
pub close_taken : (sep close : ℕ) (old new : Unread) (token : Token) → is_first (is_mark close) (ahead old) ≡ true → TakesFirst old new (Ok token)
    → ReadsFrom (one (closing sep close) BadText) old new (Ok true)
close_taken sep close old new token is takes =
    leaf_taken (closing sep close) old new token true (pick_true (is_mark close (token_of token)) _ _ closes) takes
  where
    closes : is_mark close (token_of token) ≡ true
    closes = sym (ap (is_first (is_mark close)) takes.1) ∙ is
