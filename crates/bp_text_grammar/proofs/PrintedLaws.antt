-- What is printed is a text of its value or shape, and of no other.
use Rattle.std.proofs.Common.{◌≡◌, refl, sym, ap, ◌∙◌, subst, Bool, false, ◌||◌, ℕ, List, [], ◌∷◌, ◌++◌, map}
use Rattle.readers.specs.Reader.{Each, Any, IsByte, Never}
use Rattle.bp_value.specs.declared.value.Value.{Value}
use Rattle.bp_value.specs.declared.shape.Shape.{Shape}
use Rattle.bp_value.specs.Form.{Form, form_of}
use Rattle.bp_value.specs.Faults.{IsGood}
use Rattle.bp_value.specs.Fits.{Fits}
use Rattle.bp_text_grammar.specs.Tokens.{Token, Word, Number, Big, Text, Char, Mark, Wrong, OpenText, OpenChar}
use Rattle.bp_text_grammar.specs.Lexing.{Stamped}
use Rattle.bp_text_grammar.specs.ValueTexts.{IsValueTokens}
use Rattle.bp_text_grammar.specs.ShapeTexts.{IsShapeTokens}
use Rattle.bp_text_grammar.specs.PrintedPieces.{Piece, blank_if, bytes_of, token_bytes, tokens_of, IsWritten, AreLaid}
use Rattle.bp_text_grammar.specs.Printed.{decimal_text, quoted_char, quoted_text}
use Rattle.bp_text_grammar.proofs.Laid.{each_left, each_right, quoted_char_byte, quoted_text_bytes}
use Rattle.bp_text_grammar.specs.PrintedValues.{value_pieces, value_text_of, value_tokens}
use Rattle.bp_text_grammar.specs.PrintedShapes.{shape_pieces, shape_tokens}
use Rattle.bp_text_grammar.specs.PrintedTexts.{IsOfBytes, value_text, shape_text}
use Rattle.bp_text_grammar.specs.WholeTexts.{is_open, has_open, seen, kinds, IsValueText, IsShapeText}
use Rattle.bp_text_grammar.proofs.Exact.{lexes_once}
use Rattle.bp_text_grammar.proofs.PrintedValues.{printed_value}
use Rattle.bp_text_grammar.proofs.PrintedGood.{printed_shape}
use Rattle.bp_text_grammar.proofs.LaidValues.{value_laid}
use Rattle.bp_text_grammar.proofs.LaidShapes.{shape_laid}
use Rattle.bp_text_grammar.proofs.PrintedTexts.{value_text_lexes, shape_text_lexes}
use Rattle.bp_text_grammar.proofs.RoundTrips.{value_once, shape_once}

-- ---- no printed token is left open

written_closed : (Q : Token → Type 0) (t : Token) → IsWritten Q t → (is_open t ≡ false) × (seen t ≡ t)
written_closed Q (Word w) is = (refl, refl)
written_closed Q (Number n) is = (refl, refl)
written_closed Q Big is = (refl, refl)
written_closed Q (Text t) is = (refl, refl)
written_closed Q (Char b) is = (refl, refl)
written_closed Q (Mark m) is = (refl, refl)
written_closed Q Wrong is = (refl, refl)
written_closed Q OpenText is = absurd is
written_closed Q OpenChar is = absurd is

heads : {A : Type 0} (a b : A) (v w : List A) → a ∷ v ≡ b ∷ w → (a ≡ b) × (v ≡ w)
heads a b v w e = (cc, cc)

both_false : (a b : Bool) → a ≡ false → b ≡ false → (a || b) ≡ false
both_false a b e h = rw (e, h) refl

laid_closed : (Q : Token → Type 0) (ps : List Piece) (us : List Stamped) → AreLaid Q ps → map (λ u. u.token) us ≡ tokens_of ps
    → (has_open us ≡ false) × (kinds us ≡ tokens_of ps)
laid_closed Q [] [] laid same = (refl, refl)
laid_closed Q [] (u ∷ us) laid same = absurd cc
laid_closed Q (p ∷ ps) [] laid same = absurd cc
laid_closed Q (p ∷ ps) (u ∷ us) laid same =
    let (first, others) = heads u.token p.1 (map (λ u. u.token) us) (tokens_of ps) same in
    let (shut, itself) = written_closed Q p.1 laid.0 in
    let (rest, kept) = laid_closed Q ps us laid.2 others in (
      both_false (is_open u.token) (has_open us) (ap is_open first ∙ shut) rest,
      ap (λ t. t ∷ kinds us) (ap seen first ∙ itself) ∙ ap (λ ts. p.1 ∷ ts) kept,
    )

-- ---- values

-- what stands in the quotes of printed bytes is bytes
piece_bytes : (t : Token) → Each IsByte (token_bytes quoted_text quoted_char decimal_text t) → IsOfBytes t
piece_bytes (Text t) each = quoted_text_bytes t each
piece_bytes (Char b) each = quoted_char_byte b each
piece_bytes (Word w) each = tt
piece_bytes (Number n) each = tt
piece_bytes Big each = tt
piece_bytes (Mark m) each = tt
piece_bytes Wrong each = tt
piece_bytes OpenText each = tt
piece_bytes OpenChar each = tt

pieces_bytes : (ps : List Piece) → Each IsByte (bytes_of quoted_text quoted_char decimal_text ps) → Each IsOfBytes (tokens_of ps)
pieces_bytes [] each = tt
pieces_bytes (p ∷ ps) each =
    let rest = bytes_of quoted_text quoted_char decimal_text ps in
    let own = token_bytes quoted_text quoted_char decimal_text p.1 in
    let first = each_left IsByte (blank_if p.0 ++ own) rest each in
    (piece_bytes p.1 (each_right IsByte (blank_if p.0) own first), pieces_bytes ps (each_right IsByte (blank_if p.0 ++ own) rest each))

pub printed_bytes : (f : Form) (v : Value) → Each IsByte (value_text f v) → Each IsOfBytes (value_tokens f v)
unfolding value_text value_text_of value_tokens
printed_bytes f v each = pieces_bytes (value_pieces f v) each

pub printed_value_reads : (m : ℕ) (f : Form) (v : Value) → IsGood f → Fits m f v → Each IsOfBytes (value_tokens f v) → IsValueText f v (value_text f v)
unfolding value_tokens
printed_value_reads m f v good fits each =
    let (us, lexes, same) = value_text_lexes m f v good fits each in
    let (closed, kept) = laid_closed Any (value_pieces f v) us (value_laid m f v good fits) same in
    record { tokens = us; lexed = lexes; closed = closed; spelled = subst (λ ts. IsValueTokens f v ts) (sym kept) (printed_value m f v good fits) }

-- where the printed text is of bytes
pub printed_value_is : (m : ℕ) (f : Form) (v : Value) → IsGood f → Fits m f v → Each IsByte (value_text f v) → IsValueText f v (value_text f v)
printed_value_is m f v good fits bytes = printed_value_reads m f v good fits (printed_bytes f v bytes)

-- a text is of one value
pub value_text_once : (f : Form) (v w : Value) (s : List ℕ) → IsGood f → IsValueText f v s → IsValueText f w s → v ≡ w
value_text_once f v w s good l m =
    value_once f (kinds l.tokens) v w good l.spelled
    (subst (λ ts. IsValueTokens f w (kinds ts)) (lexes_once m.tokens l.tokens s m.lexed l.lexed) m.spelled)

-- what is printed of a value is a text of no other
pub printed_value_only : (m : ℕ) (f : Form) (v w : Value) → IsGood f → Fits m f v → Each IsOfBytes (value_tokens f v) → IsValueText f w (value_text f v) → w ≡ v
printed_value_only m f v w good fits each l = value_text_once f w v (value_text f v) good l (printed_value_reads m f v good fits each)

-- ---- shapes

pub printed_shape_reads : (s : Shape) → IsGood (form_of s) → IsShapeText s (shape_text s)
unfolding shape_tokens
printed_shape_reads s good =
    let (us, lexes, same) = shape_text_lexes s good in
    let (closed, kept) = laid_closed Never (shape_pieces s) us (shape_laid s good) same in
    record { tokens = us; lexed = lexes; closed = closed; spelled = subst (λ ts. IsShapeTokens s ts) (sym kept) (printed_shape s good) }

-- a text is of one shape
pub shape_text_once : (s u : Shape) (bytes : List ℕ) → IsShapeText s bytes → IsShapeText u bytes → s ≡ u
shape_text_once s u bytes l m =
    shape_once (kinds l.tokens) s u l.spelled (subst (λ ts. IsShapeTokens u (kinds ts)) (lexes_once m.tokens l.tokens bytes m.lexed l.lexed) m.spelled)

-- what is printed of a shape is a text of no other
pub printed_shape_only : (s u : Shape) → IsGood (form_of s) → IsShapeText u (shape_text s) → u ≡ s
printed_shape_only s u good l = shape_text_once u s (shape_text s) l (printed_shape_reads s good)
