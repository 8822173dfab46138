-- Printed pieces and their tokens.
use Rattle.std.proofs.Common.{◌≡◌, refl, ap, ◌∙◌, true, ℕ, List, [], ◌∷◌, ◌++◌, arith}
use Rattle.std.specs.List.{All}
use Rattle.std.proofs.lemmas.List.Elements.{All-head, All-tail}
use Rattle.readers.specs.Reader.{Rest}
use Rattle.bp_text_grammar.specs.Tokens.{Token, Mark}
use Rattle.bp_text_grammar.specs.Texts.{is_mark}
use Rattle.bp_text_grammar.specs.PrintedPieces.{Piece, after_blank, tokens_of, more_pieces}

pub mark_is_itself : (m : ℕ) → is_mark m (Mark m) ≡ true
mark_is_itself m = grind arith

pub tokens_join : (ps qs : List Piece) → tokens_of (ps ++ qs) ≡ tokens_of ps ++ tokens_of qs
tokens_join [] qs = refl
tokens_join (p ∷ ps) qs = ap (λ ts. p.1 ∷ ts) (tokens_join ps qs)

pub tokens_blank : (ps : List Piece) → tokens_of (after_blank ps) ≡ tokens_of ps
tokens_blank [] = refl
tokens_blank (p ∷ ps) = refl

pub tokens_after_blank : (ps qs : List Piece) → tokens_of (after_blank ps ++ qs) ≡ tokens_of ps ++ tokens_of qs
tokens_after_blank ps qs = tokens_join (after_blank ps) qs ∙ ap (λ ts. ts ++ tokens_of qs) (tokens_blank ps)

-- more values of a list are printed as they are read
pub rest_printed : {A : Type 0} (piece : Piece) (sep close : ℕ) (L : A → List Token → Type 0) (w : A → List Piece) (F : A → Type 0) → piece.1 ≡ Mark sep
    → ((a : A) → F a → L a (tokens_of (w a)))
    → (vs : List A) → All F vs → Rest (is_mark sep) (is_mark close) L vs (tokens_of (more_pieces piece close w vs))
rest_printed piece sep close L w F is each [] all = (Mark close, mark_is_itself close, refl)
rest_printed piece sep close L w F is each (v ∷ vs) all = (
  piece.1,
  tokens_of (w v),
  tokens_of (more_pieces piece close w vs),
  ap (λ t. is_mark sep t) is ∙ mark_is_itself sep,
  ap (λ ts. piece.1 ∷ ts) (tokens_after_blank (w v) (more_pieces piece close w vs)),
  each v (All-head F v vs all),
  rest_printed piece sep close L w F is each vs (All-tail F v vs all),
)
