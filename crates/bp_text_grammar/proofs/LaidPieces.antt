-- Pieces that are put together stay apart.
use Rattle.std.proofs.Common.{◌≡◌, refl, Bool, true, false, ◌&&◌, ◌||◌, ℕ, ℤ, ◌^◌, ◌<◌, ◌≤◌, nat_le, nat_lt, List, [], ◌∷◌, ◌++◌, length, inl, inr, arith}
use lib.Signed.{mag}
use Rattle.std.specs.List.{All}
use Rattle.std.proofs.lemmas.List.Elements.{All-nil, All-cons, All-head, All-tail}
use Rattle.readers.specs.Reader.{Each}
use Rattle.bp_value.specs.Names.{IsShapeName, IsNameStart, IsNameByte}
use Rattle.bp_value.specs.Fits.{InRange}
use Rattle.bp_value.proofs.Fitted.{range_is}
use Rattle.bp_text_grammar.specs.Tokens.{Token, Word, Number, Big, Text, Char, Mark, Wrong, OpenText, OpenChar}
use Rattle.bp_text_grammar.specs.PrintedPieces.{Piece, after_blank, tokens_of, more_pieces, list_pieces, marks, among, IsWritten, IsApart, AreLaid}

-- ---- put together

pub laid_join : (Q : Token → Type 0) (ps qs : List Piece) → AreLaid Q ps → AreLaid Q qs → IsApart qs → AreLaid Q (ps ++ qs)
laid_join Q [] qs first second apart = second
laid_join Q (p ∷ []) qs first second apart = (first.0, λ run. apart, second)
laid_join Q (p ∷ q ∷ ps) qs first second apart = (first.0, λ run. same q (first.1 run), laid_join Q (q ∷ ps) qs first.2 second apart)
  where
    same : (q : Piece) → IsApart (q ∷ ps) → IsApart (q ∷ ps ++ qs)
    same (true, t) a = tt
    same (false, Mark m) a = tt
    same (false, _) a = absurd a

pub laid_blank : (Q : Token → Type 0) (ps : List Piece) → AreLaid Q ps → AreLaid Q (after_blank ps)
laid_blank Q [] laid = tt
laid_blank Q (p ∷ ps) laid = laid

pub apart_blank : (ps qs : List Piece) → IsApart qs → IsApart (after_blank ps ++ qs)
apart_blank [] qs apart = apart
apart_blank (p ∷ ps) qs apart = tt

pub apart_after : (ps : List Piece) → IsApart (after_blank ps)
apart_after [] = tt
apart_after (p ∷ ps) = tt

pub laid_mark : (Q : Token → Type 0) (b : Bool) (m : ℕ) (ps : List Piece) → among m marks ≡ true → AreLaid Q ps → AreLaid Q ((b, Mark m) ∷ ps)
laid_mark Q b m ps is laid = (is, λ run. absurd run, laid)

pub laid_word : (Q : Token → Type 0) (b : Bool) (w : List ℕ) (ps : List Piece) → IsShapeName w → IsApart ps → AreLaid Q ps → AreLaid Q ((b, Word w) ∷ ps)
laid_word Q b w ps is apart laid = (is, λ run. apart, laid)

-- where fewer texts and chars in quotes may come, more may come too
pub laid_wider : (V Q : Token → Type 0) → ((t : Token) → V t → Q t) → (ps : List Piece) → AreLaid V ps → AreLaid Q ps
laid_wider V Q wider [] laid = tt
laid_wider V Q wider (p ∷ ps) laid = (widen p.1 laid.0, laid.1, laid_wider V Q wider ps laid.2)
  where
    widen : (t : Token) → IsWritten V t → IsWritten Q t
    widen (Word w) is = is
    widen (Number n) is = is
    widen Big is = is
    widen (Text w) is = wider (Text w) is
    widen (Char b) is = wider (Char b) is
    widen (Mark m) is = is
    widen Wrong is = is
    widen OpenText is = is
    widen OpenChar is = is

-- what holds of each token may be wanted of the texts and chars in quotes
pub laid_narrow : (V Q : Token → Type 0) (ps : List Piece) → AreLaid V ps → Each Q (tokens_of ps) → AreLaid Q ps
laid_narrow V Q [] laid each = tt
laid_narrow V Q (p ∷ ps) laid each = (narrow p.1 laid.0 each.0, laid.1, laid_narrow V Q ps laid.2 each.1)
  where
    narrow : (t : Token) → IsWritten V t → Q t → IsWritten Q t
    narrow (Word w) is q = is
    narrow (Number n) is q = is
    narrow Big is q = is
    narrow (Text w) is q = q
    narrow (Char b) is q = q
    narrow (Mark m) is q = is
    narrow Wrong is q = is
    narrow OpenText is q = is
    narrow OpenChar is q = is

-- ---- lists

pub more_laid : (Q : Token → Type 0) {A : Type 0} (sep close : ℕ) (gap : Bool) (w : A → List Piece) → among sep marks ≡ true → among close marks ≡ true
    → (vs : List A) → All (λ v. AreLaid Q (w v)) vs → AreLaid Q (more_pieces (gap, Mark sep) close w vs) × IsApart (more_pieces (gap, Mark sep) close w vs)
more_laid Q sep close gap w is_sep is_close [] all = (laid_mark Q false close [] is_close tt, tt)
more_laid Q {A = A} sep close gap w is_sep is_close (v ∷ vs) all =
    let (rest, apart) = more_laid Q sep close gap w is_sep is_close vs (All-tail (λ v. AreLaid Q (w v)) v vs all) in (
      laid_mark Q gap sep (after_blank (w v) ++ more_pieces (gap, Mark sep) close w vs) is_sep
          (laid_join Q (after_blank (w v)) (more_pieces (gap, Mark sep) close w vs) (laid_blank Q (w v) (All-head (λ v. AreLaid Q (w v)) v vs all)) rest apart),
      either gap,
    )
  where
    either : (b : Bool) → IsApart ((b, Mark sep) ∷ after_blank (w v) ++ more_pieces (gap, Mark sep) close w vs)
    either true = tt
    either false = tt

pub list_laid : (Q : Token → Type 0) {A : Type 0} (sep close : ℕ) (gap : Bool) (w : A → List Piece) → among sep marks ≡ true → among close marks ≡ true
    → (vs : List A) → All (λ v. AreLaid Q (w v)) vs → AreLaid Q (list_pieces (gap, Mark sep) close w vs)
list_laid Q sep close gap w is_sep is_close [] all = laid_mark Q false close [] is_close tt
list_laid Q sep close gap w is_sep is_close (v ∷ vs) all =
    let (rest, apart) = more_laid Q sep close gap w is_sep is_close vs (All-tail (λ v. AreLaid Q (w v)) v vs all) in
    laid_join Q (w v) (more_pieces (gap, Mark sep) close w vs) (All-head (λ v. AreLaid Q (w v)) v vs all) rest apart

-- ---- words of the grammars

-- small letters, and after them digits too
abbrev letter : ℕ → Bool
letter b = nat_le 97 b && nat_le b 122

abbrev letter_or_digit : ℕ → Bool
letter_or_digit b = letter b || (nat_le 48 b && nat_le b 57)

abbrev every : (ℕ → Bool) → List ℕ → Bool
every C [] = true
every C (b ∷ w) = C b && every C w

abbrev pub is_plain : List ℕ → Bool
is_plain [] = false
is_plain (b ∷ w) = letter b && (nat_lt (length w) 64 && every letter_or_digit w)

both : (a b : Bool) → (a && b) ≡ true → (a ≡ true) × (b ≡ true)
both true b e = (refl, e)
both false b e = absurd cc

one_of : (a b : Bool) → (a || b) ≡ true → (a ≡ false) → b ≡ true
one_of true b e f = absurd cc
one_of false b e f = e

start_of : (b : ℕ) → letter b ≡ true → IsNameStart b
start_of b e = let (low, high) = both (nat_le 97 b) (nat_le b 122) e in inl (at_least low, at_most high)
  where
    at_least : nat_le 97 b ≡ true → 97 ≤ b
    at_least h = grind arith

    at_most : nat_le b 122 ≡ true → b ≤ 122
    at_most h = grind arith

byte_of : (b : ℕ) → letter_or_digit b ≡ true → IsNameByte b
byte_of b e = go (letter b) refl
  where
    digit : (nat_le 48 b ≡ true) × (nat_le b 57 ≡ true) → (48 ≤ b) × (b ≤ 57)
    digit h = (low h.0, high h.1)
      where
        low : nat_le 48 b ≡ true → 48 ≤ b
        low x = grind arith

        high : nat_le b 57 ≡ true → b ≤ 57
        high x = grind arith

    go : (t : Bool) → letter b ≡ t → IsNameByte b
    go true is = inl (start_of b is)
    go false is = inr (inl (digit (both (nat_le 48 b) (nat_le b 57) (one_of (letter b) (nat_le 48 b && nat_le b 57) e is))))

all_bytes : (w : List ℕ) → every letter_or_digit w ≡ true → All IsNameByte w
all_bytes [] e = All-nil IsNameByte
all_bytes (b ∷ w) e = let (first, rest) = both (letter_or_digit b) (every letter_or_digit w) e in All-cons IsNameByte b w (byte_of b first) (all_bytes w rest)

pub plain_name : (w : List ℕ) → is_plain w ≡ true → IsShapeName w
plain_name [] e = absurd cc
plain_name (b ∷ w) e =
    let (first, rest) = both (letter b) (nat_lt (length w) 64 && every letter_or_digit w) e in
    let (few, all) = both (nat_lt (length w) 64) (every letter_or_digit w) rest in
    (start_of b first, short few, all_bytes w all)
  where
    short : nat_lt (length w) 64 ≡ true → length w < 64
    short h = grind arith

-- ---- numbers

pub wider : (bits : ℕ) (n : ℤ) → 2 ^ bits ≤ 2 ^ 63 → InRange bits n → InRange 63 n
wider bits n le x = let lt : mag n < 2 ^ bits = (range_is bits n).0 x in (range_is 63 n).1 (omega arith)
