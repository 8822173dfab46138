-- A value that has a text fits, within the number of its tokens and the lengths of the texts among them.
use Rattle.std.proofs.Common.{◌≡◌, refl, sym, ap, ◌∙◌, subst, Option, Some, Bool, true, false, ℕ, ℤ, pos, negsuc, zero, suc, ◌+◌, ◌^◌, ◌<◌, ◌≤◌, List, [], ◌∷◌, ◌++◌, length, codes, inl, inr, arith}
use Rattle.std.specs.List.{All}
use Rattle.std.proofs.lemmas.Int.{ints}
use Rattle.std.proofs.lemmas.List.{length-append}
use Rattle.std.proofs.lemmas.List.Elements.{All-nil, All-cons}
use Rattle.readers.specs.Reader.{Each, Rest}
use Rattle.readers.specs.Until.{Until}
use Rattle.readers.proofs.Readers.{each-front, each-rest}
use Rattle.readers.proofs.Leaves.{is_or, pick_true, pick_false, begins_some}
use Rattle.bp_value.specs.declared.value.Value.{Value}
use Rattle.bp_value.specs.declared.value.Value.TheVariants as val
use Rattle.bp_value.specs.declared.value.Sexp.{Sexp}
use Rattle.bp_value.specs.Form.{Form, Parts, Cases, unit, bool, char, int, int32, int64, text, opt, listed, tuple, fields, sum, poly, sexp, end, part, end_cases, case}
use Rattle.bp_value.specs.Limits.{deepest_sexp}
use Rattle.bp_value.specs.Fits.{IsMade, InRange, Anything, FitsSexp, Fits, FitParts, FitCase}
use Rattle.bp_value.proofs.Fitted.{range_is}
use Rattle.bp_text_grammar.specs.Tokens.{Token, Number, Text, Char}
use Rattle.bp_text_grammar.specs.Texts.{round_close, semicolon, square_close, is_mark, is_word}
use Rattle.bp_text_grammar.specs.ValueTexts.{bool_of, char_value_of, in_range, number_of, text_of, Items, IsSexpTokens, IsValueTokens, ArePartTokens, AreMorePartTokens, AreFieldTokens, AreMoreFieldTokens, AreCaseTokens, AreArgumentTokens, IsShort, AreShort}
use Rattle.bp_text_grammar.proofs.Words.{when_is}
use Rattle.bp_text_grammar.proofs.ValueStarts.{sexp_begins}

-- ---- parts of short tokens are short

module _ (m : ℕ) where
  cut_short : (ts t u : List Token) → ts ≡ t ++ u → AreShort m ts → AreShort m t × AreShort m u
  cut_short ts t u cut short =
      let lens : length ts ≡ length t + length u = ap length cut ∙ length-append t u in
      let few : length ts ≤ m = short.0 in
      let all : Each (IsShort m) (t ++ u) = subst (λ x. Each (IsShort m) x) cut short.1 in
      ((omega arith, each-front (IsShort m) t u all), (omega arith, each-rest (IsShort m) t u all))

  tail_short : (t : Token) (ts : List Token) → AreShort m (t ∷ ts) → AreShort m ts
  tail_short t ts short = let few : suc (length ts) ≤ m = short.0 in (omega arith, short.1.1)

  -- ---- leaves

  bool_fits : (v : Value) (t : Token) → bool_of t ≡ Some v → IsMade val.Bool Anything v
  bool_fits v t e = elim (is_or (is_word (codes "true") t)) [
    | inl is ↦ (true, same (sym (pick_true (is_word (codes "true") t) _ _ is) ∙ e), tt)
    | inr other ↦ (false, (when_is (is_word (codes "false") t) (val.Bool false) v (sym (pick_false (is_word (codes "true") t) _ _ other) ∙ e)).1, tt)
  ]
    where
      same : ◌≡◌ {A = Option Value} (Some (val.Bool true)) (Some v) → v ≡ val.Bool true
      same h = cc

  char_fits : (v : Value) (t : Token) → char_value_of t ≡ Some v → IsMade val.Char Anything v
  char_fits v (Char b) e = (b, cc, tt)
  char_fits v _ e = absurd cc

  ranged : (bits : ℕ) (n : ℤ) → in_range bits n ≡ true → InRange bits n
  ranged bits (pos k) e = (range_is bits (pos k)).1 (let lt : k < 2 ^ bits = grind arith in omega (arith, ints))
  ranged bits (negsuc k) e = (range_is bits (negsuc k)).1 (let lt : k < 2 ^ bits = grind arith in omega (arith, ints))

  number_fits : (bits : ℕ) (v : Value) (t : Token) → number_of bits t ≡ Some v → IsMade val.Num (InRange bits) v
  number_fits bits v (Number n) e = let (within, same) = when_is (in_range bits n) (val.Num n) v e in (n, same, ranged bits n within)
  number_fits bits v _ e = absurd cc

  text_fits : (v : Value) (t : Token) → text_of t ≡ Some v → IsShort m t → IsMade val.Text (λ s. length s ≤ m) v
  text_fits v (Text s) e short = (s, cc, short)
  text_fits v _ e short = absurd cc

  only_short : (t : Token) (ts : List Token) → ts ≡ t ∷ [] → AreShort m ts → IsShort m t
  only_short t ts cut short = (subst (λ x. Each (IsShort m) x) cut short.1).0

  -- ---- lists

  module _ {A : Type 0} (L : A → List Token → Type 0) (F : A → Type 0) (each : (a : A) (ts : List Token) → L a ts → AreShort m ts → F a) where
    rest_fits : (sep close : Token → Bool) (vs : List A) (ts : List Token) → Rest sep close L vs ts → AreShort m ts → (suc (length vs) ≤ length ts) × All F vs
    rest_fits sep close [] ts (c, is, cut) short = let lens : length ts ≡ 1 = ap length cut in (omega arith, All-nil F)
    rest_fits sep close (v ∷ vs) ts (c, t, u, is, cut, l, r) short =
        let lens : length ts ≡ suc (length t + length u) = ap length cut ∙ ap suc (length-append t u) in
        let (one, more) = cut_short (t ++ u) t u refl (tail_short c (t ++ u) (subst (λ x. AreShort m x) cut short)) in
        let (few, all) = rest_fits sep close vs u r more in
        (omega arith, All-cons F v vs (each v t l one) all)

    items_fit : (vs : List A) (ts : List Token) → Items L vs ts → AreShort m ts → (length vs ≤ m) × All F vs
    items_fit vs ts (inl (u, nil, l)) short = rw nil (omega arith, All-nil F)
    items_fit vs ts (inr (v, t, u, cut, l, (us, is, r))) short =
        let (one, more) = cut_short ts t u cut short in
        let (few, all) = rest_fits (is_mark semicolon) (is_mark square_close) us u r more in
        let le : length u ≤ m = more.0 in
        rw is (omega arith, All-cons F v us (each v t l one) all)

    until_fits : ((a : A) (ts : List Token) → L a ts → 1 ≤ length ts) → (close : Token → Bool) (vs : List A) (ts : List Token) → Until close L vs ts → AreShort m ts
        → (suc (length vs) ≤ length ts) × All F vs
    until_fits some close [] ts (c, is, cut) short = let lens : length ts ≡ 1 = ap length cut in (omega arith, All-nil F)
    until_fits some close (v ∷ vs) ts (t, u, cut, l, r) short =
        let lens : length ts ≡ length t + length u = ap length cut ∙ length-append t u in
        let (one, more) = cut_short ts t u cut short in
        let (few, all) = until_fits some close vs u r more in
        let has : 1 ≤ length t = some v t l in
        (omega arith, All-cons F v vs (each v t l one) all)

  -- ---- S-expressions

  sexp_fits : (d : ℕ) (x : Sexp) (ts : List Token) → IsSexpTokens d x ts → AreShort m ts → FitsSexp m d x
  unfolding IsSexpTokens FitsSexp
  sexp_fits zero x ts l short = absurd l
  sexp_fits (suc d) x ts (inr (Text t, cut, e)) short = inl (t, cc, only_short (Text t) ts cut short)
  sexp_fits (suc d) x ts (inr (_, cut, e)) short = absurd cc
  sexp_fits (suc zero) x ts (inl (u, t, us, cut, mark, (ss, is, (w, nil, l)))) short = inr (ss, is, rw nil (omega arith, All-nil (FitsSexp m 0)))
  sexp_fits (suc (suc d)) x ts (inl (u, t, us, cut, mark, (ss, is, l))) short =
      let more = (cut_short ts t us cut short).1 in
      let (few, all) = until_fits (IsSexpTokens (suc d)) (FitsSexp m (suc d)) (λ y ys k s. sexp_fits (suc d) y ys k s)
      (λ y ys k. begins_some (sexp_begins round_close refl (suc d)) y ys k) (is_mark round_close) ss us l more in
      let le : length us ≤ m = more.0 in
      inr (ss, is, (omega arith, all))

  -- ---- all forms

  mutual
    unfolding Fits FitParts FitCase IsValueTokens ArePartTokens AreMorePartTokens AreFieldTokens AreMoreFieldTokens AreCaseTokens AreArgumentTokens

    pub value_fits : (f : Form) (v : Value) (ts : List Token) → IsValueTokens f v ts → AreShort m ts → Fits m f v
    value_fits unit v ts (u, t, us, cut, mark, (x, is, l)) short = is
    value_fits bool v ts (t, cut, e) short = bool_fits v t e
    value_fits char v ts (t, cut, e) short = char_fits v t e
    value_fits int v ts (t, cut, e) short = number_fits 62 v t e
    value_fits int32 v ts (t, cut, e) short = number_fits 31 v t e
    value_fits int64 v ts (t, cut, e) short = number_fits 63 v t e
    value_fits text v ts (t, cut, e) short = text_fits v t e (only_short t ts cut short)
    value_fits (opt f) v ts (inl (t, cut, e)) short = inl (when_is (is_word (codes "none") t) val.Absent v e).1
    value_fits (opt f) v ts (inr (u, t, us, cut, mark, (x, is, l))) short = inr (x, is, value_fits f x us l (cut_short ts t us cut short).1)
    value_fits (listed f) v ts (u, t, us, cut, mark, (vs, is, l)) short =
        (vs, is, items_fit (IsValueTokens f) (Fits m f) (λ x xs k s. value_fits f x xs k s) vs us l (cut_short ts t us cut short).1)
    value_fits (tuple fs) v ts (u, t, us, cut, mark, (vs, is, l)) short = (vs, is, parts_fit fs vs us l (cut_short ts t us cut short).1)
    value_fits (fields fs) v ts (u, t, us, cut, mark, (vs, is, l)) short = (vs, is, fields_fit fs vs us l (cut_short ts t us cut short).1)
    value_fits (sum cs) v ts (place, t, us, cut, name, (vs, is, l)) short = (place, (vs, is, case_fits cs place vs us l (cut_short ts t us cut short).1))
    value_fits (poly cs) v ts (u, t, us, cut, mark, (place, x, ys, other, name, (vs, is, l))) short =
        (place, (vs, is, case_fits cs place vs ys l (cut_short us x ys other (cut_short ts t us cut short).1).1))
    value_fits sexp v ts (x, is, l) short = (x, is, sexp_fits deepest_sexp x ts l short)

    parts_fit : (fs : Parts) (vs : List Value) (ts : List Token) → ArePartTokens fs vs ts → AreShort m ts → FitParts m fs vs
    parts_fit end vs ts (u, nil, l) short = rw nil tt
    parts_fit (part name f fs) vs ts (v, t, us, cut, l, (ws, is, r)) short =
        let (one, more) = cut_short ts t us cut short in
        rw is (value_fits f v t l one, more_parts_fit fs ws us r more)

    more_parts_fit : (fs : Parts) (vs : List Value) (ts : List Token) → AreMorePartTokens fs vs ts → AreShort m ts → FitParts m fs vs
    more_parts_fit end vs ts (u, nil, l) short = rw nil tt
    more_parts_fit (part name f fs) vs ts (u, x, ys, other, mark, (v, t, us, cut, l, (ws, is, r))) short =
        let (one, more) = cut_short ys t us cut (cut_short ts x ys other short).1 in
        rw is (value_fits f v t l one, more_parts_fit fs ws us r more)

    fields_fit : (fs : Parts) (vs : List Value) (ts : List Token) → AreFieldTokens fs vs ts → AreShort m ts → FitParts m fs vs
    fields_fit end vs ts (u, nil, l) short = rw nil tt
    fields_fit (part name f fs) vs ts (u, x, ys, other, label, (v, t, us, cut, l, (ws, is, r))) short =
        let (one, more) = cut_short ys t us cut (cut_short ts x ys other short).1 in
        rw is (value_fits f v t l one, more_fields_fit fs ws us r more)

    more_fields_fit : (fs : Parts) (vs : List Value) (ts : List Token) → AreMoreFieldTokens fs vs ts → AreShort m ts → FitParts m fs vs
    more_fields_fit end vs ts (u, nil, l) short = rw nil tt
    more_fields_fit (part name f fs) vs ts (w, a, zs, first, mark, (u, x, ys, other, label, (v, t, us, cut, l, (ws, is, r)))) short =
        let (one, more) = cut_short ys t us cut (cut_short zs x ys other (cut_short ts a zs first short).1).1 in
        rw is (value_fits f v t l one, more_fields_fit fs ws us r more)

    case_fits : (cs : Cases) (place : ℕ) (vs : List Value) (ts : List Token) → AreCaseTokens cs place vs ts → AreShort m ts → FitCase m cs place vs
    case_fits end_cases place vs ts l short = absurd l
    case_fits (case name fs cs) zero vs ts l short = arguments_fit fs vs ts l short
    case_fits (case name fs cs) (suc place) vs ts l short = case_fits cs place vs ts l short

    arguments_fit : (fs : Parts) (vs : List Value) (ts : List Token) → AreArgumentTokens fs vs ts → AreShort m ts → FitParts m fs vs
    arguments_fit end vs ts (nil, l) short = rw nil tt
    arguments_fit (part name f fs) vs ts (u, x, ys, other, mark, (v, t, us, cut, l, (ws, is, r))) short =
        let (one, more) = cut_short ys t us cut (cut_short ts x ys other short).1 in
        rw is (value_fits f v t l one, more_parts_fit fs ws us r more)
