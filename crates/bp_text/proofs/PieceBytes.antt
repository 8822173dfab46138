-- The bytes of pieces, part by part.
use Rattle.std.proofs.Common.{◌≡◌, refl, sym, ap, ◌∙◌, Bool, true, false, ℕ, List, [], ◌∷◌, ◌++◌, map, append_assoc}
use Rattle.std.specs.List.{All, flat_map}
use Rattle.std.proofs.lemmas.List.Concat.{flat_map-append}
use Rattle.std.proofs.lemmas.List.Elements.{All-head, All-tail}
use Rattle.bp_text_grammar.specs.Tokens.{Mark}
use Rattle.bp_text_grammar.specs.Printed.{quoted_text, quoted_char, decimal_text}
use Rattle.bp_text_grammar.specs.PrintedPieces.{Piece, blank_if, token_bytes, after_blank, more_pieces, list_pieces}
use Rattle.bp_text.specs.Printing.{piece_bytes}
use Rattle.bp_text.proofs.Appending.{joined}

pub bytes_join : (ps qs : List Piece) → piece_bytes (ps ++ qs) ≡ piece_bytes ps ++ piece_bytes qs
bytes_join ps qs = flat_map-append (λ p. blank_if p.0 ++ token_bytes quoted_text quoted_char decimal_text p.1) ps qs

-- some pieces, and no blank before them
abbrev pub IsTight : List Piece → Type 0
IsTight [] = ⊥
IsTight ((true, t) ∷ ps) = ⊥
IsTight ((false, t) ∷ ps) = Unit {0}

pub tight_join : (ps qs : List Piece) → IsTight ps → IsTight (ps ++ qs)
tight_join [] qs is = absurd is
tight_join ((true, t) ∷ ps) qs is = absurd is
tight_join ((false, t) ∷ ps) qs is = tt

-- with a blank before them
pub bytes_blank : (ps : List Piece) → IsTight ps → piece_bytes (after_blank ps) ≡ 32 ∷ piece_bytes ps
bytes_blank [] is = absurd is
bytes_blank ((true, t) ∷ ps) is = absurd is
bytes_blank ((false, t) ∷ ps) is = refl

-- after some bytes, a blank and then others
pub bytes_after_blank : (ps qs : List Piece) → IsTight ps → piece_bytes (after_blank ps ++ qs) ≡ 32 ∷ (piece_bytes ps ++ piece_bytes qs)
bytes_after_blank ps qs is = bytes_join (after_blank ps) qs ∙ ap (λ s. s ++ piece_bytes qs) (bytes_blank ps is)

-- ---- rows of texts, each but the first after a separator, and what closes them

-- texts that each have the separator before them
abbrev pub rest : List ℕ → List (List ℕ) → List ℕ
rest separator texts = flat_map (λ t. separator ++ t) texts

-- one more of them
pub rest_cons : (separator t : List ℕ) (texts : List (List ℕ)) (close : List ℕ)
    → separator ++ (t ++ (rest separator texts ++ close)) ≡ rest separator (t ∷ texts) ++ close
rest_cons separator t texts close =
    ap (λ s. separator ++ s) (sym (append_assoc t (rest separator texts) close))
    ∙ (sym (append_assoc separator (t ++ rest separator texts) close)
    ∙ ap (λ s. s ++ close) (sym (append_assoc separator t (rest separator texts))))

pub joined_cons : (separator t : List ℕ) (texts : List (List ℕ)) (close : List ℕ)
    → t ++ (rest separator texts ++ close) ≡ joined separator (t ∷ texts) ++ close
joined_cons separator t texts close = sym (append_assoc t (rest separator texts) close)

-- a list with marks between its values and at its end
module _ {A : Type 0} (gap : Bool) (mark close : ℕ) (w : A → List Piece) where
  abbrev pub separator_of : List ℕ
  separator_of = blank_if gap ++ (mark ∷ 32 ∷ [])

  abbrev pub texts_of : List A → List (List ℕ)
  texts_of xs = map (λ x. piece_bytes (w x)) xs

  more_bytes : (xs : List A) → All (λ x. IsTight (w x)) xs
      → piece_bytes (more_pieces (gap, Mark mark) close w xs) ≡ rest separator_of (texts_of xs) ++ close ∷ []
  more_bytes [] all = refl
  more_bytes (x ∷ xs) all =
      ap (λ s. (blank_if gap ++ mark ∷ []) ++ s)
      (bytes_after_blank (w x) (more_pieces (gap, Mark mark) close w xs) (All-head (λ x. IsTight (w x)) x xs all)
      ∙ ap (λ s. 32 ∷ (piece_bytes (w x) ++ s)) (more_bytes xs (All-tail (λ x. IsTight (w x)) x xs all)))
      ∙ (blank_first gap (piece_bytes (w x) ++ (rest separator_of (texts_of xs) ++ close ∷ []))
      ∙ rest_cons separator_of (piece_bytes (w x)) (texts_of xs) (close ∷ []))
    where
      blank_first : (b : Bool) (s : List ℕ) → (blank_if b ++ mark ∷ []) ++ 32 ∷ s ≡ (blank_if b ++ (mark ∷ 32 ∷ [])) ++ s
      blank_first true s = refl
      blank_first false s = refl

  pub list_bytes : (xs : List A) → All (λ x. IsTight (w x)) xs
      → piece_bytes (list_pieces (gap, Mark mark) close w xs) ≡ joined separator_of (texts_of xs) ++ close ∷ []
  list_bytes [] all = refl
  list_bytes (x ∷ xs) all =
      bytes_join (w x) (more_pieces (gap, Mark mark) close w xs)
      ∙ (ap (λ s. piece_bytes (w x) ++ s) (more_bytes xs (All-tail (λ x. IsTight (w x)) x xs all))
      ∙ joined_cons separator_of (piece_bytes (w x)) (texts_of xs) (close ∷ []))
