-- The case that a token names, looked for from the front.
use Rattle.std.proofs.Common.{◌≡◌, refl, sym, ap, ◌∙◌, true, false, Option, Some, None, ℕ, zero, suc, ◌+◌, ◌<◌, ◌≤◌, List, [], ◌∷◌, length, map, drop, get_or, option_map, add-one, arith}
use Rattle.std.proofs.lemmas.List.{drop_all}
use Rattle.std.proofs.Math.Seq.{drop-cons}
use Rattle.readers.proofs.Leaves.{pick_true, pick_false}
use Rattle.bp_value.specs.Form.{Parts, Cases, cases, case, end_cases}
use Rattle.bp_text_grammar.specs.Tokens.{Token, Word}
use Rattle.bp_text_grammar.specs.Texts.{is_word, same}
use Rattle.bp_text_grammar.specs.ValueTexts.{case_named, case_of, case_at, arguments_at}
use Rattle.bp_text.specs.Unread.{is_first}
use Rattle.bp_text.specs.Leaves.{of_first}

-- the place of a case among those from the place i on
abbrev pub found_from : {X : Type 0} → (X → List ℕ × Parts) → List X → ℕ → List Token → Option ℕ
found_from g xs i ts = option_map (λ n. i + n) (of_first (case_of (cases (map g (drop i xs)))) ts)

front_case : (name : List ℕ) (fs : Parts) (cs : Cases) (t : Token) → is_word name t ≡ true → case_of (case name fs cs) t ≡ Some zero
front_case name fs cs (Word w) is = pick_true (same w name) (Some zero) (option_map suc (case_named cs w)) is
front_case name fs cs _ is = absurd cc

later_case : (name : List ℕ) (fs : Parts) (cs : Cases) (t : Token) → is_word name t ≡ false → case_of (case name fs cs) t ≡ option_map suc (case_of cs t)
later_case name fs cs (Word w) is = pick_false (same w name) (Some zero) (option_map suc (case_named cs w)) is
later_case name fs cs _ is = refl

no_case : (t : Token) → case_of end_cases t ≡ None
no_case (Word w) = refl
no_case _ = refl

plus_suc : (i : ℕ) (o : Option ℕ) → option_map (λ n. i + n) (option_map suc o) ≡ option_map (λ n. i + 1 + n) o
plus_suc i None = refl
plus_suc i (Some n) = let e : i + suc n ≡ i + 1 + n = omega arith in ap Some e

plus_none : (o : Option ℕ) → option_map (λ n. 0 + n) o ≡ o
plus_none None = refl
plus_none (Some n) = let e : 0 + n ≡ n = omega arith in ap Some e

module _ {X : Type 0} (g : X → List ℕ × Parts) (xs : List X) (ts : List Token) where
  pub found_start : found_from g xs 0 ts ≡ of_first (case_of (cases (map g xs))) ts
  found_start = plus_none (of_first (case_of (cases (map g xs))) ts)

  pub found_end : (i : ℕ) → length xs ≤ i → found_from g xs i ts ≡ None
  found_end i le = ap (λ ys. option_map (λ n. i + n) (of_first (case_of (cases (map g ys))) ts)) (drop_all i xs le) ∙ none ts
    where
      none : (us : List Token) → option_map (λ n. i + n) (of_first (case_of end_cases) us) ≡ None
      none [] = refl
      none (t ∷ us) = ap (λ o. option_map (λ n. i + n) o) (no_case t)

  module _ (i : ℕ) (x : X) (lt : i < length xs) (is : x ≡ get_or xs i x) where
    here : found_from g xs i ts ≡ option_map (λ n. i + n) (of_first (case_of (case (g x).0 (g x).1 (cases (map g (drop (i + 1) xs))))) ts)
    here = ap (λ ys. option_map (λ n. i + n) (of_first (case_of (cases (map g ys))) ts)) front
      where
        front : drop i xs ≡ x ∷ drop (i + 1) xs
        front = rw (drop-cons xs i x lt, add-one, ← is) refl

    pub found_here : true ≡ is_first (is_word (g x).0) ts → found_from g xs i ts ≡ Some i
    found_here named = here ∙ go ts named
      where
        go : (us : List Token) → true ≡ is_first (is_word (g x).0) us
            → option_map (λ n. i + n) (of_first (case_of (case (g x).0 (g x).1 (cases (map g (drop (i + 1) xs))))) us) ≡ Some i
        go [] named = absurd cc
        go (t ∷ us) named =
            ap (λ o. option_map (λ n. i + n) o) (front_case (g x).0 (g x).1 (cases (map g (drop (i + 1) xs))) t (sym named)) ∙ (let e : i + zero ≡ i = omega arith in ap Some e)

    pub found_later : false ≡ is_first (is_word (g x).0) ts → found_from g xs i ts ≡ found_from g xs (i + 1) ts
    found_later other = here ∙ go ts other
      where
        go : (us : List Token) → false ≡ is_first (is_word (g x).0) us
            → option_map (λ n. i + n) (of_first (case_of (case (g x).0 (g x).1 (cases (map g (drop (i + 1) xs))))) us) ≡ found_from g xs (i + 1) us
        go [] other = refl
        go (t ∷ us) other =
            ap (λ o. option_map (λ n. i + n) o) (later_case (g x).0 (g x).1 (cases (map g (drop (i + 1) xs))) t (sym other))
            ∙ plus_suc i (case_of (cases (map g (drop (i + 1) xs))) t)

-- what is read behind the name of the case at a place
pub case_reads : {X : Type 0} (g : X → List ℕ × Parts) (xs : List X) (i : ℕ) (x : X) (ts : List Token) → i < length xs → x ≡ get_or xs i x
    → case_at (cases (map g xs)) i ts ≡ arguments_at (g x).1 ts
unfolding case_at
case_reads g [] i x ts lt is = absurd (omega arith)
case_reads g (y ∷ xs) zero x ts lt is = ap (λ z. arguments_at (g z).1 ts) (sym is)
case_reads g (y ∷ xs) (suc i) x ts lt is = case_reads g xs i x ts (omega arith) is
