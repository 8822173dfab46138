-- The turns of the loop over the words after a base.
use Rattle.std.proofs.Common.{◌≡◌, refl, sym, ap, ◌∙◌, subst, ℕ, zero, suc, true, false, if◌then◌else◌, List, [], ◌∷◌, length, codes, arith}
use Rattle.readers.specs.Reader.{Outcome, whole, more, bad, mapped, run}
use Rattle.readers.proofs.Leaves.{pick_true, pick_false}
use Rattle.bp_value.specs.declared.shape.Shape.{Shape}
use Rattle.bp_value.specs.declared.shape.Shape.TheVariants as shp
use Rattle.bp_text_grammar.specs.Tokens.{Token}
use Rattle.bp_text_grammar.specs.Texts.{Why, BadText, is_word}
use Rattle.bp_text_grammar.specs.ShapeTexts.{is_post, posted}
use Rattle.bp_text.specs.Unread.{is_first}

-- the shape so far, and what is read of the words that are left, of which n may still come, are what is read of all
abbrev pub Posting : Shape → ℕ → List Token → Outcome Token Why Shape → Type 0
Posting shape n s total = mapped (λ ws. posted shape ws) (run is_post BadText n s) ≡ total

-- no word more
pub posts_end : (shape : Shape) (n : ℕ) (s : List Token) (total : Outcome Token Why Shape) → is_first is_post s ≡ false → Posting shape n s total
    → total ≡ whole shape s
posts_end shape n [] total none posting = sym posting
posts_end shape zero (t ∷ s) total none posting = sym posting ∙ ap (mapped (λ ws. posted shape ws)) (pick_false (is_post t) _ _ none)
posts_end shape (suc n) (t ∷ s) total none posting = sym posting ∙ ap (mapped (λ ws. posted shape ws)) (pick_false (is_post t) _ _ none)

-- one word too many
pub posts_past : (shape : Shape) (n : ℕ) (s : List Token) (total : Outcome Token Why Shape) → n ≡ 0 → is_first is_post s ≡ true
    → Posting shape n s total
    → total ≡ bad (length s) BadText
posts_past shape n [] total none some posting = absurd cc
posts_past shape zero (t ∷ s) total none some posting = sym posting ∙ ap (mapped (λ ws. posted shape ws)) (pick_true (is_post t) _ _ some)
posts_past shape (suc n) (t ∷ s) total none some posting = absurd (omega arith)

mapped_on : (shape : Shape) (t : Token) (o : Outcome Token Why (List Token))
    → mapped (λ ws. posted shape ws) (mapped (λ ws. t ∷ ws) o)
    ≡ mapped (λ ws. posted (if is_word (codes "list") t then shp.List shape else shp.Opt shape) ws) o
mapped_on shape t (whole ws u) = refl
mapped_on shape t more = refl
mapped_on shape t (bad n w) = refl

-- one word
pub posts_go : (shape made : Shape) (n m : ℕ) (s u : List Token) (t : Token) (total : Outcome Token Why Shape) → s ≡ t ∷ u → n ≡ suc m
    → is_first is_post s ≡ true → made ≡ (if is_first (is_word (codes "list")) s then shp.List shape else shp.Opt shape)
    → Posting shape n s total → Posting made m u total
posts_go shape made n m [] u t total cut left some is posting = absurd cc
posts_go shape made zero m (x ∷ s) u t total cut left some is posting = absurd (omega arith)
posts_go shape made (suc k) m (x ∷ s) u t total cut left some is posting =
    let km : k ≡ m = omega arith in
    let su : s ≡ u = cc in
    let goes : Posting (if is_word (codes "list") x then shp.List shape else shp.Opt shape) k s total =
    sym (ap (mapped (λ ws. posted shape ws)) (pick_true (is_post x) _ _ some) ∙ mapped_on shape x (run is_post BadText k s)) ∙ posting in
    subst (λ z. Posting z m u total) (sym is)
    (subst (λ y. Posting (if is_word (codes "list") x then shp.List shape else shp.Opt shape) m y total) su
    (subst (λ i. Posting (if is_word (codes "list") x then shp.List shape else shp.Opt shape) i s total) km goes))
