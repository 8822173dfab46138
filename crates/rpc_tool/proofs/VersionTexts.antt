-- The text of a header's versions, version by version.
use Rattle.std.proofs.Common.{◌≡◌, refl, sym, ap, ◌∙◌, false, ℕ, ℤ, zero, suc, ◌+◌, ◌<◌, ◌≤◌, List, [], ◌∷◌, ◌++◌, length, map, get_or, codes, append_assoc, append-nil, arith}
use Rattle.std.specs.List.{All}
use Rattle.std.proofs.lemmas.List.{length-map}
use Rattle.std.proofs.lemmas.List.Elements.{All-nil, All-cons}
use Rattle.bp_value.specs.Form.{int}
use Rattle.bp_value.specs.declared.value.Value.TheVariants.{Num, Items}
use Rattle.bp_value.proofs.Layers.{out_items, out_num}
use Rattle.bp_text_grammar.specs.Texts.{semicolon, square_close, square_open}
use Rattle.bp_text_grammar.specs.Printed.{decimal_text}
use Rattle.bp_text_grammar.specs.PrintedValues.{value_pieces, value_text_of}
use Rattle.bp_text_grammar.specs.PrintedTexts.{value_text}
use Rattle.bp_text.specs.Printing.{lead, piece_bytes}
use Rattle.bp_text.proofs.Appending.{joined, mapped_at, rest_done, rest_next, rest_of}
use Rattle.bp_text.proofs.PieceBytes.{list_bytes, IsTight}
use Rattle.rpc_msg.specs.Forms.{header_form}
use Rattle.rpc_msg.specs.declared.message.Header.{Header}
use Rattle.rpc_tool.specs.StreamLines.{header_line}

numbers_tight : (vs : List ℤ) → All (λ v. IsTight (value_pieces int v)) (map Num vs)
unfolding value_pieces
numbers_tight [] = All-nil (λ v. IsTight (value_pieces int v))
numbers_tight (n ∷ vs) = All-cons (λ v. IsTight (value_pieces int v)) (Num n) (map Num vs) (rw (out_num n) tt) (numbers_tight vs)

numbers_text : (vs : List ℤ) → map (λ v. piece_bytes (value_pieces int v)) (map Num vs) ≡ map decimal_text vs
unfolding value_pieces
numbers_text [] = refl
numbers_text (n ∷ vs) = rw (out_num n, append-nil (decimal_text n), numbers_text vs) refl

versions_text : (vs : List ℤ) → value_text header_form (Items (map Num vs)) ≡ square_open ∷ (joined (codes "; ") (map decimal_text vs) ++ square_close ∷ [])
unfolding value_text value_text_of value_pieces
versions_text vs =
    rw (out_items (map Num vs)) (ap (λ s. square_open ∷ s) (list_bytes false semicolon square_close (value_pieces int) (map Num vs) (numbers_tight vs)
    ∙ ap (λ ts. joined (codes "; ") ts ++ square_close ∷ []) (numbers_text vs)))

-- what is left of the versions from a place on, and the end of the line
abbrev pub rest_from : List ℤ → ℕ → List ℕ
rest_from vs place = rest_of (codes "; ") (map decimal_text vs) place ++ codes "]\n"

-- whatever stands for what is not there
get_any : (xs : List ℤ) (i : ℕ) (d e : ℤ) → i < length xs → get_or xs i d ≡ get_or xs i e
get_any [] i d e lt = absurd (omega (arith, lt))
get_any (x ∷ xs) zero d e lt = refl
get_any (x ∷ xs) (suc i) d e lt = get_any xs i d e (omega (arith, lt))

module _ (header : Header) (old : List ℕ) where
  pub line_starts : (out : List ℕ) → out ≡ old ++ codes "versions [" → out ++ rest_from header.versions 0 ≡ old ++ header_line header
  line_starts out is =
      let texts = joined (codes "; ") (map decimal_text header.versions) in
      let all : header_line header ≡ codes "versions [" ++ (texts ++ codes "]\n") =
      ap (λ t. (codes "versions " ++ t) ++ 10 ∷ []) (versions_text header.versions) ∙ ap (λ t. codes "versions [" ++ t) (append_assoc texts (square_close ∷ []) (10 ∷ [])) in
      ap (λ o. o ++ (texts ++ codes "]\n")) is ∙ (append_assoc old (codes "versions [") (texts ++ codes "]\n") ∙ ap (λ t. old ++ t) (sym all))

  module _ (out : List ℕ) (place : ℕ) (line : out ++ rest_from header.versions place ≡ old ++ header_line header) where
    pub line_goes_on : (new : List ℕ) (version d : ℤ) → place < length header.versions → version ≡ get_or header.versions place d
        → new ≡ out ++ (lead (codes "; ") place ++ decimal_text version) → new ++ rest_from header.versions (place + 1) ≡ old ++ header_line header
    line_goes_on new version d lt is more =
        let next = rest_next (codes "; ") (map decimal_text header.versions) place (decimal_text version) (codes "]\n") (mapped_at decimal_text header.versions place version lt (is ∙ get_any header.versions place d version lt)) in
        ap (λ n. n ++ rest_from header.versions (place + 1)) more
        ∙ (append_assoc out (lead (codes "; ") place ++ decimal_text version) (rest_from header.versions (place + 1)) ∙ (ap (λ t. out ++ t) (sym next) ∙ line))

    pub line_ends : (new : List ℕ) → length header.versions ≤ place → new ≡ out ++ codes "]\n" → new ≡ old ++ header_line header
    line_ends new le is =
        let few : length (map decimal_text header.versions) ≤ place = omega (arith, length-map header.versions decimal_text) in
        is ∙ (ap (λ t. out ++ t) (sym (rest_done (codes "; ") (map decimal_text header.versions) place (codes "]\n") few)) ∙ line)
