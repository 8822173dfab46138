-- Which tokens are a text of which shape: a relation by the brackets that may still be opened, without position or state; and
-- the reading of them, a total function of the tokens.
use Rattle.std.specs.Prelude.{Option, Some, None, ◌≡◌, ℕ, zero, suc, Bool, true, ◌||◌, not, nat_le, if◌then◌else◌, List, [], ◌∷◌, ◌++◌, length, codes}
use Rattle.readers.specs.Reader.{Outcome, after, mapped, Front, Then, Mapped, One, one, leaf, first, Branch, branch, Run, run, Rest, rests, Others, others, Maybe, maybe, ended}
use Rattle.bp_value.specs.declared.shape.Shape.{Shape}
use Rattle.bp_value.specs.declared.shape.Shape.TheVariants as shp
use Rattle.bp_value.specs.declared.shape.Field.{Field}
use Rattle.bp_value.specs.declared.shape.Case.{Case}
use Rattle.bp_value.specs.declared.shape.PolyCase.{PolyCase}
use Rattle.bp_value.specs.Limits.{longest_name}
use Rattle.bp_text_grammar.specs.Tokens.{Token, Word}
use Rattle.bp_text_grammar.specs.Texts.{Why, Float, BadText, round_open, round_close, star, colon, semicolon, square_open, square_close, backtick, curly_open, bar, curly_close, same, is_mark, is_word, when, ThisMark, mark_at, Onto, onto_at}

-- the most brackets that are open at once
abbrev pub most_brackets : ℕ
most_brackets = 64

-- the most words `list` and `option` that follow one base
abbrev pub most_posts : ℕ
most_posts = 64

-- ---- one token

-- a name, of no more bytes than the longest has
abbrev pub name_of : Token → Option (List ℕ)
name_of (Word w) = when (nat_le (length w) longest_name) w
name_of _ = None

-- the words of the bases
abbrev pub base_words : List (List ℕ × Shape)
base_words =
    (codes "unit", shp.Unit) ∷ (codes "bool", shp.Bool) ∷ (codes "char", shp.Char) ∷ (codes "int", shp.Int) ∷ (codes "int32", shp.Int32)
    ∷ (codes "int64", shp.Int64) ∷ (codes "string", shp.Text) ∷ (codes "sexp", shp.Sexp) ∷ []

abbrev pub base_named : List (List ℕ × Shape) → List ℕ → Option Shape
base_named [] w = None
base_named (b ∷ bs) w = if same w b.0 then Some b.1 else base_named bs w

abbrev pub base_of : Token → Option Shape
base_of (Word w) = base_named base_words w
base_of _ = None

abbrev pub is_float : Token → Bool
is_float t = is_word (codes "float") t

abbrev pub is_star : Token → Bool
is_star t = is_mark star t

abbrev pub is_post : Token → Bool
is_post t = is_word (codes "list") t || is_word (codes "option") t

abbrev pub is_of : Token → Bool
is_of t = is_word (codes "of") t

-- what may follow a shape, since it does not go on it; and what may follow a case
abbrev pub ends_shape : Token → Bool
ends_shape t = not (is_star t || is_post t)

abbrev pub ends_case : Token → Bool
ends_case t = not (is_of t || (is_star t || is_post t))

-- ---- parts of shapes

-- the words after a base make lists and options of it, read from the left
abbrev pub posted : Shape → List Token → Shape
posted s [] = s
posted s (t ∷ ts) = posted (if is_word (codes "list") t then shp.List s else shp.Opt s) ts

-- one factor is itself, two or more are a tuple
abbrev pub tupled : List Shape → Shape
tupled (s ∷ []) = s
tupled ss = shp.Tuple ss

abbrev pub no_arguments : Option (List Shape) → List Shape
no_arguments None = []
no_arguments (Some ss) = ss

-- in these, B are the texts of bases
abbrev pub IsPart : (Shape → List Token → Type 0) → Shape → List Token → Type 0
IsPart B s ts = Then B (λ b. Mapped (λ ws. posted b ws) (Run is_post most_posts)) s ts

-- one part, and more after `*`
abbrev pub AreFactors : (Shape → List Token → Type 0) → List Shape → List Token → Type 0
AreFactors B ss ts = Onto (IsPart B) (Others is_star (IsPart B)) ss ts

abbrev pub IsProduct : (Shape → List Token → Type 0) → Shape → List Token → Type 0
IsProduct B s ts = Mapped tupled (AreFactors B) s ts

abbrev pub IsField : (Shape → List Token → Type 0) → Field → List Token → Type 0
IsField B f ts = Then (One name_of) (λ n. Then (ThisMark colon) (λ u. Mapped (λ s. record { name = n; shape = s }) (IsProduct B))) f ts

abbrev pub IsSumCase : (Shape → List Token → Type 0) → Case → List Token → Type 0
IsSumCase B c ts = Then (One name_of) (λ n. Mapped (λ o. record { name = n; args = no_arguments o }) (Maybe is_of (AreFactors B))) c ts

abbrev pub IsPolyCase : (Shape → List Token → Type 0) → PolyCase → List Token → Type 0
IsPolyCase B c ts =
    Then (ThisMark backtick) (λ u. Then (One name_of) (λ n. Mapped (λ o. record { name = n; arg = o }) (Maybe is_of (IsProduct B)))) c ts

-- one of L, and more after a separator, up to the closing mark
abbrev pub AreSome : {A : Type 0} → ℕ → ℕ → (A → List Token → Type 0) → List A → List Token → Type 0
AreSome sep close L vs ts = Onto L (Rest (is_mark sep) (is_mark close) L) vs ts

-- a shape in round brackets; a record; a variant, of the one kind or the other
abbrev pub InRound : (Shape → List Token → Type 0) → Shape → List Token → Type 0
InRound B s ts = Then (ThisMark round_open) (λ u. Then (IsProduct B) (λ p. Mapped (λ x. p) (ThisMark round_close))) s ts

abbrev pub InCurly : (Shape → List Token → Type 0) → Shape → List Token → Type 0
InCurly B s ts = Then (ThisMark curly_open) (λ u. Mapped shp.Fields (AreSome semicolon curly_close (IsField B))) s ts

abbrev pub InSquare : (Shape → List Token → Type 0) → Shape → List Token → Type 0
InSquare B s ts =
    Then (ThisMark square_open) (λ u. Branch (Mapped shp.Poly (AreSome bar square_close (IsPolyCase B)))
    (Mapped shp.Sum (AreSome bar square_close (IsSumCase B)))) s ts

-- ---- all shapes

-- a base that opens at most d brackets at once
unfoldable pub IsBase : ℕ → Shape → List Token → Type 0
IsBase zero s ts = One base_of s ts
IsBase (suc d) s ts = Branch (InRound (IsBase d)) (Branch (InCurly (IsBase d)) (Branch (InSquare (IsBase d)) (One base_of))) s ts

unfoldable pub IsShapeTokens : Shape → List Token → Type 0
IsShapeTokens s ts = IsProduct (IsBase most_brackets) s ts

-- why a token is at fault after some: it is the word `float` where the word `int` may stand; or it is any other, or `float` elsewhere
abbrev pub IsFloatFault : {A : Type 0} → (A → List Token → Type 0) → List Token → Token → Why → Type 0
IsFloatFault L p t Float = (is_float t ≡ true) × Front L (p ++ Word (codes "int") ∷ [])
IsFloatFault L p t BadText = is_float t ≡ true → Front L (p ++ Word (codes "int") ∷ []) → ⊥

abbrev pub IsShapeFault : List Token → Token → Why → Type 0
IsShapeFault p t w = IsFloatFault IsShapeTokens p t w

-- ---- the reading

abbrev pub base_why : Token → Why
base_why t = if is_float t then Float else BadText

abbrev pub base_word_at : List Token → Outcome Token Why Shape
base_word_at ts = first (λ t us. leaf (base_of t) (length (t ∷ us)) (base_why t) us) ts

abbrev pub part_at : (List Token → Outcome Token Why Shape) → List Token → Outcome Token Why Shape
part_at r ts = after (r ts) (λ b us. mapped (λ ws. posted b ws) (run is_post BadText most_posts us))

abbrev pub more_factors_at : (List Token → Outcome Token Why Shape) → List Token → Outcome Token Why (List Shape)
more_factors_at r ts = others is_star ends_shape BadText (part_at r) (length ts) ts

abbrev pub factors_at : (List Token → Outcome Token Why Shape) → List Token → Outcome Token Why (List Shape)
factors_at r ts = onto_at (part_at r) (more_factors_at r) ts

abbrev pub product_at : (List Token → Outcome Token Why Shape) → List Token → Outcome Token Why Shape
product_at r ts = mapped tupled (factors_at r ts)

abbrev pub field_at : (List Token → Outcome Token Why Shape) → List Token → Outcome Token Why Field
field_at r ts =
    after (one name_of BadText ts) (λ n us. after (mark_at colon us) (λ u xs. mapped (λ s. record { name = n; shape = s }) (product_at r xs)))

abbrev pub sum_case_at : (List Token → Outcome Token Why Shape) → List Token → Outcome Token Why Case
sum_case_at r ts =
    after (one name_of BadText ts)
    (λ n us. mapped (λ o. record { name = n; args = no_arguments o }) (maybe is_of ends_case BadText (factors_at r) us))

abbrev pub poly_case_at : (List Token → Outcome Token Why Shape) → List Token → Outcome Token Why PolyCase
poly_case_at r ts =
    after (mark_at backtick ts) (λ u us. after (one name_of BadText us)
    (λ n xs. mapped (λ o. record { name = n; arg = o }) (maybe is_of ends_case BadText (product_at r) xs)))

abbrev pub some_at : {A : Type 0} → ℕ → ℕ → (List Token → Outcome Token Why A) → List Token → Outcome Token Why (List A)
some_at sep close r ts = onto_at r (λ us. rests (is_mark sep) (is_mark close) BadText r (length us) us) ts

abbrev pub round_at : (List Token → Outcome Token Why Shape) → List Token → Outcome Token Why Shape
round_at r ts =
    after (mark_at round_open ts) (λ u us. after (product_at r us) (λ p xs. mapped (λ x. p) (mark_at round_close xs)))

abbrev pub curly_at : (List Token → Outcome Token Why Shape) → List Token → Outcome Token Why Shape
curly_at r ts = after (mark_at curly_open ts) (λ u us. mapped shp.Fields (some_at semicolon curly_close (field_at r) us))

abbrev pub square_at : (List Token → Outcome Token Why Shape) → List Token → Outcome Token Why Shape
square_at r ts =
    after (mark_at square_open ts) (λ u us. branch (is_mark backtick) (λ xs. mapped shp.Poly (some_at bar square_close (poly_case_at r) xs))
    (λ xs. mapped shp.Sum (some_at bar square_close (sum_case_at r) xs)) us)

unfoldable pub base_at : ℕ → List Token → Outcome Token Why Shape
base_at zero ts = base_word_at ts
base_at (suc d) ts =
    branch (is_mark round_open) (round_at (base_at d)) (branch (is_mark curly_open) (curly_at (base_at d))
    (branch (is_mark square_open) (square_at (base_at d)) base_word_at)) ts

unfoldable pub shape_at : List Token → Outcome Token Why Shape
shape_at ts = product_at (base_at most_brackets) ts

-- the reading of a text of nothing but a shape
abbrev pub whole_shape_at : List Token → Outcome Token Why Shape
whole_shape_at ts = ended BadText shape_at ts
