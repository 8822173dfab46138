-- A text has one shape in front, that ends at one place, or none.
use Rattle.std.proofs.Common.{◌≡◌, ◌≢◌, refl, sym, ap, ◌∙◌, subst, true, false, ◌||◌, ℕ, ◌+◌, List, [], ◌∷◌, ◌++◌, length, take, drop, append_assoc, Err, ◌⊎◌, inl, inr, arith}
use Rattle.std.proofs.lemmas.List.{append-nil, length-append, length-take-le, take-append-drop}
use Rattle.readers.specs.Reader.{Outcome, whole, Each, Follows, Is, Front}
use Rattle.bp_value.specs.declared.shape.Shape.{Shape}
use Rattle.bp_text_grammar.specs.Tokens.{Token, Word, Number, Big, Text, Char, Mark, Wrong, OpenText, OpenChar}
use Rattle.bp_text_grammar.specs.Lexing.{blank, Stamped, Lexes, AreBlanks, IsToken, EndsBefore, IsStuck}
use Rattle.bp_text_grammar.specs.Scanning.{after_blanks}
use Rattle.bp_text_grammar.specs.Texts.{Why, BadText, Float}
use Rattle.bp_text_grammar.specs.ShapeTexts.{ends_shape, IsShapeTokens, IsShapeFault, shape_at}
use Rattle.bp_text_grammar.specs.ShapeFronts.{IsLongestFront, shape_front_at}
use Rattle.bp_text_grammar.specs.WholeTexts.{has_open, seen, kinds, HoldsJust, IsShapeFront, IsNoShapeFront}
use Rattle.bp_text_grammar.proofs.Exact.{lexes_once, token_starts, blanks_only}
use Rattle.bp_text_grammar.proofs.RightShapes.{right_shape}
use Rattle.bp_text_grammar.proofs.LongestFronts.{one_front, shape_front_all}
use Rattle.bp_text_grammar.proofs.ShapeTokens.{is_spelled, shape_spelled}
use Rattle.bp_text_grammar.proofs.WholeReads.{kinds_join}
use Rattle.bp_text.specs.declared.error.TextError.{TextError}
use Rattle.bp_text.specs.declared.error.TextError.TheVariants as error
use Rattle.bp_text.specs.TextAnswers.{moved_by, IsGiven, IsFrontReadAs, RefusesFront}
use Rattle.bp_text.proofs.FrontBytes.{NoBlankLast, seen_spelled, never_stuck, never_open}

-- ---- one token

spelled_seen : (t : Token) → is_spelled t ≡ true → seen t ≡ t
spelled_seen (Word w) s = refl
spelled_seen (Mark b) s = refl
spelled_seen (Number n) s = refl
spelled_seen Big s = refl
spelled_seen (Text w) s = refl
spelled_seen (Char b) s = refl
spelled_seen Wrong s = refl
spelled_seen OpenText s = absurd cc
spelled_seen OpenChar s = absurd cc

-- its bytes are one
token_one : (t : Token) (x z : List ℕ) → is_spelled t ≡ true → IsToken t x → IsToken t z → x ≡ z
token_one (Word w) x z s is as_ = is.0 ∙ sym as_.0
token_one (Mark b) x z s is as_ = is.0 ∙ sym as_.0
token_one (Number n) x z s is as_ = absurd cc
token_one Big x z s is as_ = absurd cc
token_one (Text w) x z s is as_ = absurd cc
token_one (Char b) x z s is as_ = absurd cc
token_one Wrong x z s is as_ = absurd is
token_one OpenText x z s is as_ = absurd is
token_one OpenChar x z s is as_ = absurd is

-- ---- bytes

cancel : (p u v : List ℕ) → p ++ u ≡ p ++ v → u ≡ v
cancel [] u v e = e
cancel (b ∷ p) u v e = cancel p u v cc

-- blanks end with a blank
blank_last : (b : ℕ) (x : List ℕ) → AreBlanks (b ∷ x) → (u : List ℕ) × (b ∷ x ≡ u ++ blank ∷ [])
blank_last b [] (is, more) = ([], ap (λ c. c ∷ []) is)
blank_last b (c ∷ x) (is, more) = let (u, e) = blank_last c x more in (b ∷ u, ap (λ z. b ∷ z) e)

no_bytes : (x : List ℕ) → AreBlanks x → NoBlankLast x → x ≡ []
no_bytes [] blanks last = refl
no_bytes (b ∷ x) blanks last = let (u, e) = blank_last b x blanks in absurd (last u e)

rest_last : (b x z : List ℕ) → NoBlankLast (b ++ (x ++ z)) → NoBlankLast z
rest_last b x z last u e =
    last (b ++ (x ++ u))
    (ap (λ y. b ++ (x ++ y)) e ∙ (ap (λ y. b ++ y) (sym (append_assoc x u (blank ∷ []))) ∙ sym (append_assoc b (x ++ u) (blank ∷ []))))

not_blank : (t : Token) (x r : List ℕ) → IsToken t x → Follows (λ c. c ≢ blank) (x ++ r)
not_blank t x r is = let (b, s, cut, some) = token_starts t x is in subst (λ z. Follows (λ c. c ≢ blank) (z ++ r)) (sym cut) some

-- what stands after the blanks in front
after_these : (b x z a : List ℕ) (t : Token) → AreBlanks b → IsToken t x → after_blanks ((b ++ (x ++ z)) ++ a) ≡ x ++ (z ++ a)
after_these b x z a t blanks is =
    ap after_blanks (append_assoc b (x ++ z) a ∙ ap (λ y. b ++ y) (append_assoc x z a)) ∙ blanks_only b (x ++ (z ++ a)) blanks
    (not_blank t x (z ++ a) is)

three : (b x z : List ℕ) → length (b ++ (x ++ z)) ≡ length b + (length x + length z)
three b x z = let one = length-append b (x ++ z) in let two = length-append x z in omega arith

-- one more token of both
step_end : (b x z d y w a c : List ℕ) (t : Token) → is_spelled t ≡ true → AreBlanks b → AreBlanks d → IsToken t x → IsToken t y
    → (b ++ (x ++ z)) ++ a ≡ (d ++ (y ++ w)) ++ c → (z ++ a ≡ w ++ c → length z ≡ length w) → length (b ++ (x ++ z)) ≡ length (d ++ (y ++ w))
step_end b x z d y w a c t spelled bs ds is as_ e next =
    let xy = token_one t x y spelled is as_ in
    let after_both : x ++ (z ++ a) ≡ y ++ (w ++ c) = sym (after_these b x z a t bs is) ∙ (ap after_blanks e ∙ after_these d y w c t ds as_) in
    let rest : z ++ a ≡ w ++ c = cancel x (z ++ a) (w ++ c) (after_both ∙ ap (λ k. k ++ (w ++ c)) (sym xy)) in
    let same = next rest in
    let xs = ap length xy in
    let alls : length ((b ++ (x ++ z)) ++ a) ≡ length ((d ++ (y ++ w)) ++ c) = ap length e in
    let one = length-append (b ++ (x ++ z)) a in
    let two = length-append (d ++ (y ++ w)) c in
    let rests : length (z ++ a) ≡ length (w ++ c) = ap length rest in
    let three_ = length-append z a in
    let four = length-append w c in
    omega arith

same_end : (us vs : List Stamped) (x z a c : List ℕ) → x ++ a ≡ z ++ c → Lexes us x → Lexes vs z → kinds us ≡ kinds vs → Each (Is is_spelled)
    (kinds us)
    → NoBlankLast x → NoBlankLast z → length x ≡ length z
same_end [] [] x z a c e xs zs same each no_x no_z = ap length (no_bytes x xs no_x ∙ sym (no_bytes z zs no_z))
same_end [] (v ∷ vs) x z a c e xs zs same each no_x no_z = absurd cc
same_end (u ∷ us) [] x z a c e xs zs same each no_x no_z = absurd cc
same_end (u ∷ us) (v ∷ vs) x z a c e (b, y, cut, bs, left, inr (none, stuck)) zs same each no_x no_z = absurd
    (never_stuck u.token y (seen_spelled u.token each.0) stuck)
same_end (u ∷ us) (v ∷ vs) x z a c e (b, y, cut, bs, left, inl (x1, x2, parts, is, ends, xs)) (d, w, cut2, ds, left2, other) same each no_x no_z =
    go (λ w2 f more no_x2 no_w2. same_end us vs x2 w2 a c f xs more (cc) each.1 no_x2 no_w2) other
  where
    first : seen u.token ≡ seen v.token
    first = cc

    spelled : is_spelled v.token ≡ true
    spelled = seen_spelled v.token (sym (ap is_spelled first) ∙ each.0)

    tokens : u.token ≡ v.token
    tokens = sym (spelled_seen u.token (seen_spelled u.token each.0)) ∙ (first ∙ spelled_seen v.token spelled)

    whole_x : x ≡ b ++ (x1 ++ x2)
    whole_x = cut ∙ ap (λ k. b ++ k) parts

    go : ((w2 : List ℕ) → x2 ++ a ≡ w2 ++ c → Lexes vs w2 → NoBlankLast x2 → NoBlankLast w2 → length x2 ≡ length w2)
        → ((w1 : List ℕ) × (w2 : List ℕ) × (w ≡ w1 ++ w2) × IsToken v.token w1 × EndsBefore v.token w2 × Lexes vs w2) ⊎
        ((vs ≡ []) × IsStuck v.token w) → length x ≡ length z
    go rest (inr (none, stuck)) = absurd (never_stuck v.token w spelled stuck)
    go rest (inl (w1, w2, parts2, as_, ends2, zs)) =
        let whole_z : z ≡ d ++ (w1 ++ w2) = cut2 ∙ ap (λ k. d ++ k) parts2 in
        ap length whole_x
        ∙ (step_end b x1 x2 d w1 w2 a c v.token spelled bs ds (subst (λ k. IsToken k x1) tokens is) as_
        (ap (λ k. k ++ a) (sym whole_x) ∙ (e ∙ ap (λ k. k ++ c) whole_z))
        (λ f. rest w2 f zs (rest_last b x1 x2 (subst NoBlankLast whole_x no_x)) (rest_last d w1 w2 (subst NoBlankLast whole_z no_z)))
        ∙ ap length (sym whole_z))

holds_once : (s : List ℕ) (j k : ℕ) (p : List Token) → Each (Is is_spelled) p → HoldsJust s j p → HoldsJust s k p → j ≡ k
holds_once s j k p each one two =
    let same = same_end one.tokens two.tokens (take j s) (take k s) (drop j s) (drop k s)
    (take-append-drop j s ∙ sym (take-append-drop k s)) one.lexed two.lexed
    (one.just ∙ sym two.just) (subst (λ z. Each (Is is_spelled) z) (sym one.just) each) one.last two.last in
    let js = length-take-le j s one.within in
    let ks = length-take-le k s two.within in
    omega arith

-- ---- fronts

longest_here : (s : List ℕ) (a : Shape) (j : ℕ) (of : IsShapeFront s a j) → shape_front_at (kinds of.all) ≡ whole a of.left
longest_here s a j of = shape_front_all (kinds of.all) of.taken of.left a of.longest of.spelled

pub front_once : (s : List ℕ) (a b : Shape) (j k : ℕ) → IsShapeFront s a j → IsShapeFront s b k → (a ≡ b) × (j ≡ k)
front_once s a b j k one two =
    let all = lexes_once one.all two.all s one.lexed two.lexed in
    let read : ◌≡◌ {A = Outcome Token Why Shape} (whole a one.left) (whole b two.left) =
    sym (longest_here s a j one) ∙ (ap (λ ts. shape_front_at (kinds ts)) all ∙ longest_here s b k two) in
    let (taken, left) = one_front (Is ends_shape) IsShapeTokens IsShapeFault shape_at right_shape
    (kinds one.all) one.taken one.left two.taken two.left one.longest
    (subst (λ ts. IsLongestFront IsShapeTokens (kinds ts) two.taken two.left) (sym all) two.longest) in
    (cc, holds_once s j k one.taken (shape_spelled a one.taken one.spelled) one.place (subst (λ p. HoldsJust s k p) (sym taken) two.place))

closed_by : (ts : List Stamped) → Each (Is is_spelled) (kinds ts) → has_open ts ≡ false
closed_by [] each = refl
closed_by (t ∷ ts) each = ap (λ o. o || has_open ts) (never_open t.token (seen_spelled t.token each.0)) ∙ closed_by ts each.1

pub front_none_there : (s : List ℕ) (a : Shape) (j k : ℕ) (w : Why) → IsShapeFront s a j → IsNoShapeFront s k w → ⊥
front_none_there s a j k w of (inl (wrong, none)) =
    let all = lexes_once of.all (wrong.before ++ wrong.wrong ∷ wrong.behind) s of.lexed wrong.lexed in
    let cut : kinds of.all ≡ kinds wrong.before ++ seen wrong.wrong.token ∷ kinds wrong.behind = ap kinds all ∙ kinds_join wrong.before
    (wrong.wrong ∷ wrong.behind) in
    let (taken, left) = one_front (Is ends_shape) IsShapeTokens IsShapeFault shape_at right_shape (kinds of.all) of.taken of.left (kinds wrong.before)
    (seen wrong.wrong.token ∷ kinds wrong.behind) of.longest
    (record {
      cut = cut;
      front = wrong.front;
      longest = λ b x same f. let bc : seen wrong.wrong.token ≡ b = cc in
          wrong.no_front (subst (λ d. Front IsShapeTokens (kinds wrong.before ++ d ∷ [])) (sym bc) f);
    }) in
    none a (subst (λ p. IsShapeTokens a p) taken of.spelled)
front_none_there s a j k w of (inr (place, why, short)) =
    let all = lexes_once of.all short.tokens s of.lexed short.lexed in
    let (taken, left) = one_front (Is ends_shape) IsShapeTokens IsShapeFault shape_at right_shape (kinds of.all) of.taken of.left
    (kinds of.all) [] of.longest
    (record {
      cut = sym (append-nil (kinds of.all));
      front = subst (λ ts. Front IsShapeTokens (kinds ts))
          (sym all) short.front;
      longest = λ b x same f. cc;
    }) in
    let whole_text : IsShapeTokens a (kinds short.tokens) = subst (λ p. IsShapeTokens a p) (taken ∙ ap kinds all) of.spelled in
    short.unfinished a (closed_by short.tokens (shape_spelled a (kinds short.tokens) whole_text)) whole_text

-- ---- in a longer text

pub moved_given : (s : List ℕ) (from : ℕ) (e : TextError) (a : Shape) (j : ℕ) (read : Shape × ℕ) → IsFrontReadAs (drop from s) (Err e)
    → IsShapeFront (drop from s) a j → IsGiven {A = Shape × ℕ} read (Err (moved_by from e))
moved_given s from (error.BadText at) a j read none of = front_none_there (drop from s) a j at BadText of none
moved_given s from (error.Float at) a j read none of = front_none_there (drop from s) a j at Float of none
moved_given s from (error.NotGood fault) a j read none of = none
moved_given s from error.OutOfMemory a j read none of = tt

pub moved_refused : (s : List ℕ) (from : ℕ) (e : TextError) → IsFrontReadAs (drop from s) (Err e) → RefusesFront s from (moved_by from e)
moved_refused s from (error.BadText at) none = (at, refl, none)
moved_refused s from (error.Float at) none = (at, refl, none)
moved_refused s from (error.NotGood fault) none = absurd none
moved_refused s from error.OutOfMemory none = tt
