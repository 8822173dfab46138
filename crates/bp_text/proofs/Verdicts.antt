-- What the reading of all tokens of a text says of the text.
use Rattle.std.proofs.Common.{◌≡◌, refl, sym, ap, ◌∙◌, subst, Bool, true, false, ℕ, suc, ◌+◌, ◌-◌, ◌≤◌, List, [], ◌∷◌, ◌++◌, length, inl, inr, Ok, Err, arith}
use Rattle.std.proofs.lemmas.List.{append-nil, length-append, map-append}
use Rattle.readers.specs.Reader.{Outcome, whole, more, bad, Any, Never, Ended, Right, Follows, Front, at_end}
use Rattle.readers.proofs.Readers.{each-any}
use Rattle.bp_value.specs.declared.value.Value.{Value}
use Rattle.bp_value.specs.Form.{Form}
use Rattle.bp_value.specs.Faults.{IsGood}
use Rattle.bp_value.specs.Fits.{Fits}
use Rattle.bp_text_grammar.specs.Tokens.{Token}
use Rattle.bp_text_grammar.specs.Lexing.{Stamped, Lexes}
use Rattle.bp_text_grammar.specs.Scanning.{lex}
use Rattle.bp_text_grammar.specs.Texts.{Why, BadText, Float, IsValueFault}
use Rattle.bp_text_grammar.specs.ValueTexts.{IsValueTokens, value_at, whole_value_at}
use Rattle.bp_text_grammar.specs.WholeTexts.{has_open, seen, kinds, IsTextOf, IsWrongAt, IsShortOf, IsValueText, IsValueRefused}
use Rattle.bp_text_grammar.proofs.Exact.{lexes_some, lexes_lex, token_bytes}
use Rattle.bp_text_grammar.proofs.ReadFits.{value_fits}
use Rattle.bp_text_grammar.proofs.RightValues.{right_whole_value}
use Rattle.bp_text_grammar.proofs.ShortTokens.{text_short}
use Rattle.bp_text.specs.declared.halt.Halt.{Halt}
use Rattle.bp_text.specs.declared.halt.Halt.TheVariants as halt
use Rattle.bp_text.specs.Unread.{Unread, ahead, left_of, Advances, HasOutcome}
use Rattle.bp_text.specs.ValueAnswers.{refused_by, GivesValue, RefusesValue}
use Rattle.bp_text.proofs.Ahead.{goes_none}
use Rattle.bp_text.proofs.Readings.{gives_next}
use Rattle.bp_text.proofs.TokenSteps.{passes_lex}

-- ---- a language, and its texts up to the end

module _ {A : Type 0} (L : A → List Token → Type 0) where
  ended_is : (a : A) (s : List Token) → Ended L a s → L a s
  ended_is a s (x, t, u, cut, l, (same, none)) =
      let all : s ≡ t = cut ∙ (ap (λ z. t ++ z) none ∙ append-nil t) in
      subst (λ z. L z s) (sym same) (subst (λ z. L x z) (sym all) l)

  is_ended : (a : A) (s : List Token) → L a s → Ended L a s
  is_ended a s l = (a, s, [], sym (append-nil s), l, (refl, refl))

  front_is : (p : List Token) → Front (Ended L) p → Front L p
  front_is p (a, x, l) = (a, x, ended_is a (p ++ x) l)

  front_ended : (p : List Token) → Front L p → Front (Ended L) p
  front_ended p (a, x, l) = (a, x, is_ended a (p ++ x) l)

-- ---- lists whose ends are equally long

back_same : (xs ys us vs : List Token) → xs ++ us ≡ ys ++ vs → length us ≡ length vs → (xs ≡ ys) × (us ≡ vs)
back_same [] [] us vs e lens = (refl, e)
back_same [] (y ∷ ys) us vs e lens =
    let long : length us ≡ suc (length ys + length vs) = ap length e ∙ ap suc (length-append ys vs) in
    absurd (omega arith)
back_same (x ∷ xs) [] us vs e lens =
    let long : suc (length xs + length us) ≡ length vs = sym (ap suc (length-append xs us)) ∙ ap length e in
    absurd (omega arith)
back_same (x ∷ xs) (y ∷ ys) us vs e lens =
    let tails : xs ++ us ≡ ys ++ vs = cc in
    let heads : x ≡ y = cc in
    let (front, back) = back_same xs ys us vs tails lens in
    (ap (λ z. z ∷ xs) heads ∙ ap (λ zs. y ∷ zs) front, back)

-- ---- a cursor that went on from the beginning of a text

module _ (old new : Unread) (goes : Advances old new) where
  cut_tokens : lex old.rest ≡ goes.taken ++ lex new.rest
  cut_tokens = passes_lex goes.taken old.rest new.rest goes.passes

  cut_kinds : ahead old ≡ kinds goes.taken ++ ahead new
  cut_kinds = ap kinds cut_tokens ∙ map-append token goes.taken (lex new.rest)
    where
      token : Stamped → Token
      token t = seen t.token

  first_within : (ts : List Stamped) → lex new.rest ≡ ts → left_of ts ≤ length old.rest
  first_within [] e = omega arith
  first_within (t ∷ ts) e =
      let lexed : Lexes (goes.taken ++ t ∷ ts) old.rest = subst (λ us. Lexes us old.rest) (cut_tokens ∙ ap (λ us. goes.taken ++ us) e) (lexes_some old.rest) in
      let (p, y, cut, left, starts, is) = token_bytes goes.taken ts t old.rest lexed in
      let lens : length old.rest ≡ length p + length y = ap length cut ∙ length-append p y in
      omega (arith, left)

  pub left_within : left_of (lex new.rest) ≤ length old.rest
  left_within = first_within (lex new.rest) refl

nothing_ahead : (ts : List Stamped) → Follows Never (kinds ts) → ts ≡ []
nothing_ahead [] none = refl
nothing_ahead (t ∷ ts) none = absurd none

-- ---- the reading of a text

module _ {A : Type 0} (L : A → List Token → Type 0) (R : List Token → Token → Why → Type 0) (r : List Token → Outcome Token Why A) (right : Right Any Never (Ended L) R r)
    (old new : Unread) where
  all_read : (a : A) → L a (ahead old) → r (ahead old) ≡ whole a []
  all_read a l = ap r (sym (append-nil (ahead old))) ∙ right.complete a (ahead old) [] (is_ended L a (ahead old) l) tt

  -- a value was read
  module _ (a : A) (is : HasOutcome (r (ahead old)) old new (Ok a)) where
    pub none_left : lex new.rest ≡ []
    none_left =
        let (t, cut, l, last) = right.sound (ahead old) a (ahead new) (each-any (ahead old)) is.1 in
        nothing_ahead (lex new.rest) last

    pub spelled : L a (ahead old)
    spelled =
        let (t, cut, l, last) = right.sound (ahead old) a (ahead new) (each-any (ahead old)) is.1 in
        let all : ahead old ≡ t = cut ∙ (ap (λ ts. t ++ kinds ts) none_left ∙ append-nil t) in
        subst (λ z. L a z) (sym all) (ended_is L a t l)

    pub text_is : has_open (lex old.rest) ≡ false → IsTextOf L a old.rest
    text_is closed = record { tokens = lex old.rest; lexed = lexes_some old.rest; closed = closed; spelled = spelled }

    pub open_short : has_open (lex old.rest) ≡ true → IsShortOf L old.rest
    open_short opened = record {
      tokens = lex old.rest;
      lexed = lexes_some old.rest;
      front = (a, [], subst (λ z. L a z) (sym (append-nil (ahead old))) spelled);
      unfinished = λ b closed l. absurd (apart (sym opened ∙ closed));
    }
      where
        apart : true ≡ false → ⊥
        apart e = cc

  -- the tokens end too early
  pub ends_short : r (ahead old) ≡ more → IsShortOf L old.rest
  ends_short is = record {
    tokens = lex old.rest;
    lexed = lexes_some old.rest;
    front = front_is L (ahead old) (right.goes_on (ahead old) (each-any (ahead old)) is);
    unfinished = λ a closed l. apart a (sym is ∙ all_read a l);
  }
    where
      apart : (a : A) → ◌≡◌ {A = Outcome Token Why A} more (whole a []) → ⊥
      apart a e = cc

  -- a token is at fault
  wrong_is : (goes : Advances old new) (w : Why) (p : List Token) (b : Token) (v : List Token) (ts : List Stamped) → lex new.rest ≡ ts
      → kinds goes.taken ≡ p → kinds ts ≡ b ∷ v → Front L p → (Front L (p ++ b ∷ []) → ⊥) → R p b w
      → IsWrongAt L R old.rest (length old.rest - left_of ts) w
  wrong_is goes w p b v [] e front back is_front no_front why = absurd cc
  wrong_is goes w p b v (t ∷ ts) e front back is_front no_front why =
      let token : seen t.token ≡ b = cc in
      let le : t.left ≤ length old.rest = first_within old new goes (t ∷ ts) e in
      record {
        before = goes.taken;
        wrong = t;
        behind = ts;
        lexed = subst (λ us. Lexes us old.rest) (cut_tokens old new goes ∙ ap (λ us. goes.taken ++ us) e) (lexes_some old.rest);
        front = subst (λ q. Front L q) (sym front) is_front;
        no_front = λ f. no_front (subst (λ q. Front L (q ++ b ∷ [])) front (subst (λ c. Front L (kinds goes.taken ++ c ∷ [])) token f));
        why = subst (λ q. R q (seen t.token) w) (sym front) (subst (λ c. R p c w) (sym token) why);
        place = omega arith;
      }

  pub faulty : (w : Why) → Advances old new → r (ahead old) ≡ bad (length (ahead new)) w → IsWrongAt L R old.rest (length old.rest - left_of (lex new.rest)) w
  faulty w goes is =
      let (p, b, v, fault, why) = right.faults (ahead old) (length (ahead new)) w (each-any (ahead old)) is in
      let (front, back) = back_same (kinds goes.taken) p (ahead new) (b ∷ v) (sym (cut_kinds old new goes) ∙ fault.place) fault.left in
      wrong_is goes w p b v (lex new.rest) refl front back (front_is L p fault.front) (λ f. fault.no_front (front_ended L (p ++ b ∷ []) f)) why

-- ---- texts of values

module _ (f : Form) (good : IsGood f) (old new : Unread) where
  abbrev tokens_of : Value → List Token → Type 0
  tokens_of = IsValueTokens f

  -- the tokens of a text are all of it
  same_tokens : (v : Value) → IsValueText f v old.rest → IsValueTokens f v (ahead old) × (has_open (lex old.rest) ≡ false)
  same_tokens v is =
      let same : is.tokens ≡ lex old.rest = lexes_lex is.tokens old.rest is.lexed in
      (subst (λ ts. IsValueTokens f v (kinds ts)) same is.spelled, sym (ap has_open same) ∙ is.closed)

  read_of : (v : Value) → IsValueText f v old.rest → whole_value_at f (ahead old) ≡ whole v []
  read_of v is = all_read (IsValueTokens f) IsValueFault (whole_value_at f) (right_whole_value f good) old new v (same_tokens v is).0

  pub value_left : (v : Value) → HasOutcome (whole_value_at f (ahead old)) old new (Ok v) → lex new.rest ≡ []
  value_left v is = none_left (IsValueTokens f) IsValueFault (whole_value_at f) (right_whole_value f good) old new v is

  pub value_good : (v : Value) → HasOutcome (whole_value_at f (ahead old)) old new (Ok v) → has_open (lex old.rest) ≡ false → IsValueText f v old.rest
  value_good v is closed = text_is (IsValueTokens f) IsValueFault (whole_value_at f) (right_whole_value f good) old new v is closed

  pub value_within : (v : Value) → HasOutcome (whole_value_at f (ahead old)) old new (Ok v) → Fits (length old.rest) f v
  value_within v is =
      value_fits (length old.rest) f v (ahead old) (spelled (IsValueTokens f) IsValueFault (whole_value_at f) (right_whole_value f good) old new v is)
      (text_short (lex old.rest) old.rest (lexes_some old.rest))

  pub value_only : (v w : Value) → HasOutcome (whole_value_at f (ahead old)) old new (Ok w) → IsValueText f v old.rest → w ≡ v
  value_only v w is text = same (sym is.1 ∙ read_of v text)
    where
      same : ◌≡◌ {A = Outcome Token Why Value} (whole w (ahead new)) (whole v []) → w ≡ v
      same e = cc

  pub value_open : (w : Value) → HasOutcome (whole_value_at f (ahead old)) old new (Ok w) → has_open (lex old.rest) ≡ true
      → IsValueRefused f old.rest (length old.rest) × ((v : Value) → IsValueText f v old.rest → ⊥)
  value_open w is opened = (
    inr (refl, refl, open_short (IsValueTokens f) IsValueFault (whole_value_at f) (right_whole_value f good) old new w is opened),
    λ v text. apart (sym opened ∙ (same_tokens v text).1),
  )
    where
      apart : true ≡ false → ⊥
      apart e = cc

  pub value_refused : (stop : Halt) → HasOutcome (whole_value_at f (ahead old)) old new (Err stop)
      → RefusesValue f old.rest (refused_by stop (length old.rest) (left_of (lex new.rest)))
  value_refused halt.More (goes, is) =
      inr (refl, refl, ends_short (IsValueTokens f) IsValueFault (whole_value_at f) (right_whole_value f good) old new is)
  value_refused halt.Bad (goes, is) =
      inl (faulty (IsValueTokens f) IsValueFault (whole_value_at f) (right_whole_value f good) old new BadText goes is)
  value_refused halt.Float (goes, is) =
      let wrong = faulty (IsValueTokens f) IsValueFault (whole_value_at f) (right_whole_value f good) old new Float goes is in
      let why : Float ≡ BadText = wrong.why in
      absurd cc
  value_refused halt.OutOfMemory is = tt

  pub refused_only : (stop : Halt) (v : Value) → HasOutcome (whole_value_at f (ahead old)) old new (Err stop) → IsValueText f v old.rest
      → GivesValue v (Err (refused_by stop (length old.rest) (left_of (lex new.rest))))
  refused_only halt.More v (goes, is) text = let e = sym is ∙ read_of v text in absurd cc
  refused_only halt.Bad v (goes, is) text = let e = sym is ∙ read_of v text in absurd cc
  refused_only halt.Float v (goes, is) text = let e = sym is ∙ read_of v text in absurd cc
  refused_only halt.OutOfMemory v is text = tt

-- whether the text leaves one open, by what the cursor tells
pub opens_is : (old new : Unread) (text : List ℕ) (b : Bool) → old.rest ≡ text → old.opens ≡ has_open (lex text) → Advances old new → b ≡ new.opens
    → has_open (lex old.rest) ≡ b
opens_is old new text b rest opens goes is = ap (λ s. has_open (lex s)) rest ∙ (sym opens ∙ (sym goes.opens ∙ sym is))

-- ---- nothing but a value

module _ (f : Form) (old new : Unread) (v : Value) (is : HasOutcome (value_at f (ahead old)) old new (Ok v)) where
  pub value_ends : ahead new ≡ [] → HasOutcome (whole_value_at f (ahead old)) old new (Ok v)
  value_ends e =
      gives_next (value_at f (ahead old)) (at_end BadText) old new new v (Ok v) is (goes_none new, ap (at_end BadText v) e ∙ sym (ap (λ ts. whole v ts) e))

  pub value_goes_on : (t : Token) (us : List Token) → ahead new ≡ t ∷ us → HasOutcome (whole_value_at f (ahead old)) old new (Err halt.Bad)
  value_goes_on t us e =
      gives_next (value_at f (ahead old)) (at_end BadText) old new new v (Err halt.Bad) is
      (goes_none new, ap (at_end BadText v) e ∙ sym (ap (λ ts. bad (length ts) BadText) e))
