-- Readings of one token, by what the code has found out about it.
use Rattle.std.proofs.Common.{◌≡◌, refl, sym, ap, ◌∙◌, Bool, true, false, Option, Some, None, ℕ, ℤ, List, [], ◌∷◌, length, codes, option_map}
use Rattle.readers.specs.Reader.{mapped, one, leaf}
use Rattle.readers.proofs.Leaves.{pick_true, pick_false}
use Rattle.bp_value.specs.declared.value.Value.TheVariants as val
use Rattle.bp_value.specs.declared.value.Sexp.TheVariants as sx
use Rattle.bp_text_grammar.specs.Tokens.{Token, Number, Text, Char}
use Rattle.bp_text_grammar.specs.Texts.{BadText, is_word, word_at, word_for, when}
use Rattle.bp_text_grammar.specs.ValueTexts.{bool_of, char_value_of, number_of, in_range, text_of, atom_of}
use Rattle.bp_text.specs.Unread.{is_first, taken_at}
use Rattle.bp_text.specs.Leaves.{of_first, quoted_bytes_of, byte_of, number_in}

-- a value for each token, or for the first one
pub one_first : {A : Type 0} (a : Option A) (h : Token → Option A) (ts : List Token) → a ≡ of_first h ts → one h BadText ts ≡ one (λ t. a) BadText ts
one_first a h [] e = refl
one_first a h (t ∷ ts) e = ap (λ o. leaf o (length (t ∷ ts)) BadText ts) (sym e)

-- a leaf whose value is made of another
leaf_made : {A B : Type 0} (g : A → B) (o : Option A) (n : ℕ) (ts : List Token) → leaf (option_map g o) n BadText ts ≡ mapped g (leaf o n BadText ts)
leaf_made g (Some a) n ts = refl
leaf_made g None n ts = refl

module _ {A B : Type 0} (g : A → B) (h : Token → Option A) (k : Token → Option B) (is : (t : Token) → k t ≡ option_map g (h t)) where
  pub one_made : (ts : List Token) → one k BadText ts ≡ mapped g (one h BadText ts)
  one_made [] = refl
  one_made (t ∷ ts) = ap (λ o. leaf o (length (t ∷ ts)) BadText ts) (is t) ∙ leaf_made g (h t) (length (t ∷ ts)) ts

-- ---- the leaves of values

char_made : (t : Token) → char_value_of t ≡ option_map val.Char (byte_of t)
char_made (Char b) = refl
char_made _ = refl

when_made : (b : Bool) (n : ℤ) → when b (val.Num n) ≡ option_map val.Num (when b n)
when_made true n = refl
when_made false n = refl

number_made : (bits : ℕ) (t : Token) → number_of bits t ≡ option_map val.Num (number_in bits t)
number_made bits (Number n) = when_made (in_range bits n) n
number_made bits _ = refl

text_made : (t : Token) → text_of t ≡ option_map val.Text (quoted_bytes_of t)
text_made (Text w) = refl
text_made _ = refl

atom_made : (t : Token) → atom_of t ≡ option_map sx.Atom (quoted_bytes_of t)
atom_made (Text w) = refl
atom_made _ = refl

pub char_reads : (byte : Option ℕ) (ts : List Token) → byte ≡ of_first byte_of ts → one char_value_of BadText ts ≡ mapped val.Char (one (λ t. byte) BadText ts)
char_reads byte ts e = one_made val.Char byte_of char_value_of char_made ts ∙ ap (mapped val.Char) (one_first byte byte_of ts e)

pub number_reads : (bits : ℕ) (number : Option ℤ) (ts : List Token) → number ≡ of_first (number_in bits) ts
    → one (number_of bits) BadText ts ≡ mapped val.Num (one (λ t. number) BadText ts)
number_reads bits number ts e =
    one_made val.Num (number_in bits) (number_of bits) (number_made bits) ts ∙ ap (mapped val.Num) (one_first number (number_in bits) ts e)

pub text_reads : (ts : List Token) → one text_of BadText ts ≡ mapped val.Text (one quoted_bytes_of BadText ts)
text_reads ts = one_made val.Text quoted_bytes_of text_of text_made ts

pub atom_reads : (ts : List Token) → one atom_of BadText ts ≡ mapped sx.Atom (one quoted_bytes_of BadText ts)
atom_reads ts = one_made sx.Atom quoted_bytes_of atom_of atom_made ts

-- ---- a word

pub word_there : {A : Type 0} (w : List ℕ) (a : A) (h : Token → Option A) (ts : List Token) → ((t : Token) → is_word w t ≡ true → h t ≡ Some a)
    → is_first (is_word w) ts ≡ true → one h BadText ts ≡ mapped (λ u. a) (taken_at true ts)
word_there w a h [] is e = absurd cc
word_there w a h (t ∷ ts) is e = ap (λ o. leaf o (length (t ∷ ts)) BadText ts) (is t e)

pub bool_true : (ts : List Token) → is_first (is_word (codes "true")) ts ≡ true → one bool_of BadText ts ≡ mapped (λ u. val.Bool true) (taken_at true ts)
bool_true ts e =
    word_there (codes "true") (val.Bool true) bool_of ts (λ t is. pick_true (is_word (codes "true") t) (Some (val.Bool true)) (word_for (codes "false") (val.Bool false) t) is) e

false_made : (t : Token) → word_for (codes "false") (val.Bool false) t ≡ option_map (λ (u : Unit {0}). val.Bool false) (word_for (codes "false") tt t)
false_made t = when_as (is_word (codes "false") t)
  where
    when_as : (b : Bool) → when b (val.Bool false) ≡ option_map (λ (u : Unit {0}). val.Bool false) (when b tt)
    when_as true = refl
    when_as false = refl

pub bool_false : (ts : List Token) → is_first (is_word (codes "true")) ts ≡ false
    → one bool_of BadText ts ≡ mapped (λ u. val.Bool false) (word_at (codes "false") ts)
bool_false [] e = refl
bool_false (t ∷ ts) e =
    ap (λ o. leaf o (length (t ∷ ts)) BadText ts) (pick_false (is_word (codes "true") t) (Some (val.Bool true)) (word_for (codes "false") (val.Bool false) t) e)
    ∙ one_made (λ (u : Unit {0}). val.Bool false) (word_for (codes "false") tt) (word_for (codes "false") (val.Bool false)) false_made (t ∷ ts)
