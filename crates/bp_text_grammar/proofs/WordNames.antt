-- A word of at most the longest name's length is a name of fields and cases, and each such name is a word.
use Rattle.std.proofs.Common.{refl, ℕ, ◌≤◌, List, [], ◌∷◌, length, arith}
use Rattle.std.specs.List.{All}
use Rattle.std.proofs.lemmas.List.Elements.{All-nil, All-cons, All-head, All-tail}
use Rattle.bp_value.specs.Limits.{longest_name}
use Rattle.bp_value.specs.Names.{IsNameStart, IsNameByte, IsShapeName}
use Rattle.readers.specs.Reader.{Each, Is}
use Rattle.bp_text_grammar.specs.Tokens.{Word}
use Rattle.bp_text_grammar.specs.Lexing.{starts_name, in_name, IsToken}

start_is : (b : ℕ) → Is starts_name b → IsNameStart b
start_is b is = grind arith

start_if : (b : ℕ) → IsNameStart b → Is starts_name b
start_if b is = grind arith

byte_is : (b : ℕ) → Is in_name b → IsNameByte b
byte_is b is = grind arith

byte_if : (b : ℕ) → IsNameByte b → Is in_name b
byte_if b is = grind arith

bytes_are : (bs : List ℕ) → Each (Is in_name) bs → All IsNameByte bs
bytes_are [] are = All-nil IsNameByte
bytes_are (b ∷ bs) (is, are) = All-cons IsNameByte b bs (byte_is b is) (bytes_are bs are)

bytes_if : (bs : List ℕ) → All IsNameByte bs → Each (Is in_name) bs
bytes_if [] are = tt
bytes_if (b ∷ bs) are = (byte_if b (All-head IsNameByte b bs are), bytes_if bs (All-tail IsNameByte b bs are))

pub word_is_name : (w x : List ℕ) → IsToken (Word w) x → length w ≤ longest_name → IsShapeName w
word_is_name [] x (same, is) short = absurd is
word_is_name (b ∷ w) x (same, (first, each)) short = (start_is b first, omega arith, bytes_are w each)

pub name_is_word : (w : List ℕ) → IsShapeName w → IsToken (Word w) w
name_is_word [] is = absurd is
name_is_word (b ∷ w) (first, short, each) = (refl, (start_if b first, bytes_if w each))
