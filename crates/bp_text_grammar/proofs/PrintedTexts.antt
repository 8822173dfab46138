-- The bytes that are printed have the tokens that are printed.
use Rattle.std.proofs.Common.{◌≡◌, refl, sym, ap, ◌∙◌, subst, Bool, true, false, not, ◌||◌, inl, inr, ℕ, nat_eq, List, [], ◌∷◌, ◌++◌, map, arith}
use Rattle.readers.specs.Reader.{Each, Any, Never}
use Rattle.readers.proofs.Leaves.{is_or}
use Rattle.bp_value.specs.declared.value.Value.{Value}
use Rattle.bp_value.specs.declared.shape.Shape.{Shape}
use Rattle.bp_value.specs.Form.{Form, form_of}
use Rattle.bp_value.specs.Faults.{IsGood}
use Rattle.bp_value.specs.Fits.{Fits}
use Rattle.bp_text_grammar.specs.Tokens.{Token, Word, Number, Big, Text, Char, Mark, Wrong, OpenText, OpenChar}
use Rattle.bp_text_grammar.specs.Lexing.{blank, in_name, is_punctuation, IsToken, EndsBefore, Stamped, Lexes}
use Rattle.bp_text_grammar.specs.Printed.{quoted_text, quoted_char, decimal_text, Laid}
use Rattle.bp_text_grammar.specs.ValueTexts.{IsValueTokens}
use Rattle.bp_text_grammar.specs.ShapeTexts.{IsShapeTokens}
use Rattle.bp_text_grammar.specs.PrintedPieces.{Piece, tokens_of, token_bytes, bytes_of, marks, among, IsWritten, MayGoOn, IsApart, AreLaid}
use Rattle.bp_text_grammar.specs.PrintedValues.{value_pieces, value_tokens, value_text_of}
use Rattle.bp_text_grammar.specs.PrintedShapes.{shape_pieces, shape_tokens, shape_text_of}
use Rattle.bp_text_grammar.specs.PrintedTexts.{IsOfBytes, value_text, shape_text}
use Rattle.bp_text_grammar.proofs.Decimals.{number_is_printed}
use Rattle.bp_text_grammar.proofs.Laid.{text_is_printed, char_is_printed, ends_apart, laid_next, laid_spaced, laid_lexes}
use Rattle.bp_text_grammar.proofs.WordNames.{name_is_word}
use Rattle.bp_text_grammar.proofs.LaidPieces.{laid_narrow, laid_wider}
use Rattle.bp_text_grammar.proofs.PrintedValues.{printed_value}
use Rattle.bp_text_grammar.proofs.PrintedGood.{printed_shape}
use Rattle.bp_text_grammar.proofs.LaidValues.{value_laid}
use Rattle.bp_text_grammar.proofs.LaidShapes.{shape_laid}

-- ---- one token

abbrev bytes : Token → List ℕ
bytes t = token_bytes quoted_text quoted_char decimal_text t

-- what holds of each mark that is printed
abbrev OfMarks : (ℕ → Bool) → Type 0
OfMarks P = Each (λ n. P n ≡ true) marks

-- what holds of each of some numbers holds of one among them
each_among : (P : ℕ → Bool) (m : ℕ) (ns : List ℕ) → Each (λ n. P n ≡ true) ns → among m ns ≡ true → P m ≡ true
each_among P m [] all e = absurd cc
each_among P m (n ∷ ns) all e =
    elim (is_or (nat_eq m n)) [
      | inl is ↦ ap P (same is) ∙ all.0
      | inr other ↦ each_among P m ns all.1 (later (nat_eq m n) (among m ns) other e)
    ]
  where
    same : nat_eq m n ≡ true → m ≡ n
    same h = grind arith

    later : (b c : Bool) → b ≡ false → (b || c) ≡ true → c ≡ true
    later true c f h = absurd cc
    later false c f h = h

-- a mark that is printed is punctuation, and no byte of a name
mark_is_token : (m : ℕ) → among m marks ≡ true → IsToken (Mark m) (m ∷ [])
mark_is_token m is =
    (refl, each_among is_punctuation m marks (refl, (refl, (refl, (refl, (refl, (refl, (refl, (refl, (refl, (refl, (refl, (refl, (refl, tt))))))))))))) is)

mark_no_name : (m : ℕ) → among m marks ≡ true → in_name m ≡ false
mark_no_name m is = turned (each_among (λ n. not (in_name n)) m marks (refl, (refl, (refl, (refl, (refl, (refl, (refl, (refl, (refl, (refl, (refl, (refl, (refl, tt))))))))))))) is)
  where
    turned : not (in_name m) ≡ true → in_name m ≡ false
    turned h = opposite (in_name m) h
      where
        opposite : (b : Bool) → not b ≡ true → b ≡ false
        opposite true e = absurd cc
        opposite false e = refl

written_token : (t : Token) → IsWritten IsOfBytes t → IsToken t (bytes t)
written_token (Word w) is = name_is_word w is
written_token (Number n) is = number_is_printed n is
written_token Big is = absurd is
written_token (Text t) is = text_is_printed t is
written_token (Char b) is = char_is_printed b is
written_token (Mark m) is = mark_is_token m is
written_token Wrong is = absurd is
written_token OpenText is = absurd is
written_token OpenChar is = absurd is

-- ---- pieces

-- what stands tight after a token does not go on it
ends_before : (t u : Token) (ps : List Piece) (r : List ℕ) → IsWritten IsOfBytes t → IsWritten IsOfBytes u → (MayGoOn t → IsApart ((false, u) ∷ ps)) → EndsBefore t (bytes u ++ r)
ends_before (Word w) (Mark m) ps r has is apart = ends_apart (Word w) (m ∷ r) (mark_no_name m is)
ends_before (Word w) _ ps r has is apart = absurd (apart tt)
ends_before (Number n) (Mark m) ps r has is apart = ends_apart (Number n) (m ∷ r) (mark_no_name m is)
ends_before (Number n) _ ps r has is apart = absurd (apart tt)
ends_before Big u ps r has is apart = absurd has
ends_before (Text t) u ps r has is apart = tt
ends_before (Char b) u ps r has is apart = tt
ends_before (Mark m) u ps r has is apart = tt
ends_before Wrong u ps r has is apart = tt
ends_before OpenText u ps r has is apart = tt
ends_before OpenChar u ps r has is apart = tt

all_bytes : List Piece → List ℕ
all_bytes ps = bytes_of quoted_text quoted_char decimal_text ps

-- the first piece without its blank, and all others
laid_from : (p : Piece) (ps : List Piece) → AreLaid IsOfBytes (p ∷ ps) → Laid (tokens_of (p ∷ ps)) (bytes p.1 ++ all_bytes ps)
unfolding all_bytes
laid_from p [] laid = laid_next p.1 [] (bytes p.1) [] (written_token p.1 laid.0) (ends_apart p.1 [] tt) refl
laid_from p ((true, u) ∷ ps) laid =
    laid_spaced p.1 (tokens_of ((true, u) ∷ ps)) (bytes p.1) (bytes u ++ bytes_of quoted_text quoted_char decimal_text ps) (written_token p.1 laid.0) (laid_from (true, u) ps laid.2)
laid_from p ((false, u) ∷ ps) laid =
    laid_next p.1 (tokens_of ((false, u) ∷ ps)) (bytes p.1) (bytes u ++ bytes_of quoted_text quoted_char decimal_text ps) (written_token p.1 laid.0)
    (ends_before p.1 u ps (bytes_of quoted_text quoted_char decimal_text ps) laid.0 laid.2.0 laid.1) (laid_from (false, u) ps laid.2)

-- blanks may stand before the tokens of a text
after_blanks : (us : List Stamped) (r : List ℕ) → Lexes us r → Lexes us (blank ∷ r)
after_blanks [] r blanks = (refl, blanks)
after_blanks (u ∷ us) r (b, y, cut, blanks, left, is) = (blank ∷ b, y, ap (λ z. blank ∷ z) cut, (refl, blanks), left, is)

-- the bytes of pieces have their tokens
pub pieces_lex : (ps : List Piece) → AreLaid IsOfBytes ps → (us : List Stamped) × Lexes us (bytes_of quoted_text quoted_char decimal_text ps) × (map (λ u. u.token) us ≡ tokens_of ps)
unfolding all_bytes
pieces_lex [] laid = ([], tt, refl)
pieces_lex ((true, t) ∷ ps) laid =
    let (us, lexes, same) = laid_lexes (tokens_of ((true, t) ∷ ps)) (bytes t ++ all_bytes ps) (laid_from (true, t) ps laid) in
    (us, after_blanks us (bytes t ++ all_bytes ps) lexes, same)
pieces_lex ((false, t) ∷ ps) laid = laid_lexes (tokens_of ((false, t) ∷ ps)) (bytes t ++ all_bytes ps) (laid_from (false, t) ps laid)

-- ---- values and shapes

-- the printed bytes of a value that fits, whose texts and chars are of bytes, have its printed tokens
pub value_text_lexes : (m : ℕ) (f : Form) (v : Value) → IsGood f → Fits m f v → Each IsOfBytes (value_tokens f v)
    → (us : List Stamped) × Lexes us (value_text f v) × (map (λ u. u.token) us ≡ value_tokens f v)
unfolding value_text value_text_of value_tokens
value_text_lexes m f v good fits each = pieces_lex (value_pieces f v) (laid_narrow Any IsOfBytes (value_pieces f v) (value_laid m f v good fits) each)

-- those of a good shape have its printed tokens
pub shape_text_lexes : (s : Shape) → IsGood (form_of s) → (us : List Stamped) × Lexes us (shape_text s) × (map (λ u. u.token) us ≡ shape_tokens s)
unfolding shape_text shape_text_of shape_tokens
shape_text_lexes s good = pieces_lex (shape_pieces s) (laid_wider Never IsOfBytes (λ t none. absurd none) (shape_pieces s) (shape_laid s good))

-- ---- round trips over bytes

-- the printed bytes have tokens that are a text of the value
pub value_text_is : (m : ℕ) (f : Form) (v : Value) → IsGood f → Fits m f v → Each IsOfBytes (value_tokens f v)
    → (us : List Stamped) × Lexes us (value_text f v) × IsValueTokens f v (map (λ u. u.token) us)
value_text_is m f v good fits each =
    let (us, lexes, same) = value_text_lexes m f v good fits each in
    (us, lexes, subst (λ ts. IsValueTokens f v ts) (sym same) (printed_value m f v good fits))

-- and of the shape
pub shape_text_is : (s : Shape) → IsGood (form_of s) → (us : List Stamped) × Lexes us (shape_text s) × IsShapeTokens s (map (λ u. u.token) us)
shape_text_is s good =
    let (us, lexes, same) = shape_text_lexes s good in
    (us, lexes, subst (λ ts. IsShapeTokens s ts) (sym same) (printed_shape s good))
