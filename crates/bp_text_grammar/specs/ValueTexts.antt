-- Which tokens are a text of which value of a form. A relation by cases over the form, without position or state; and the
-- reading of them, a total function of the form and the tokens.
use Rattle.std.specs.Prelude.{Option, Some, None, ◌≤◌, ℕ, ℤ, zero, suc, pos, negsuc, ◌^◌, Bool, true, false, nat_lt, if◌then◌else◌, List, [], length, codes}
use Rattle.std.specs.Option.{option_map}
use Rattle.readers.specs.Reader.{Outcome, Each, whole, more, after, mapped, Then, Mapped, Done, One, one, Branch, branch, Rest, rests, ended}
use Rattle.readers.specs.Until.{Until, until}
use Rattle.bp_value.specs.declared.value.Value.{Value}
use Rattle.bp_value.specs.declared.value.Value.TheVariants as val
use Rattle.bp_value.specs.declared.value.Sexp.{Sexp}
use Rattle.bp_value.specs.declared.value.Sexp.TheVariants as sx
use Rattle.bp_value.specs.Limits.{deepest_sexp}
use Rattle.bp_value.specs.Form.{Form, Parts, Cases, unit, bool, char, int, int32, int64, text, opt, listed, tuple, fields, sum, poly, sexp, end, part, end_cases, case}
use Rattle.bp_text_grammar.specs.Tokens.{Token, Word, Number, Text, Char}
use Rattle.bp_text_grammar.specs.Texts.{Why, BadText, round_open, round_close, comma, semicolon, equals, square_open, square_close, backtick, curly_open, curly_close, same, is_mark, is_word, when, word_for, ThisMark, mark_at, ThisWord, word_at, Closed, closed_at, Onto, onto_at}

-- ---- leaves of one token

abbrev pub bool_of : Token → Option Value
bool_of t = if is_word (codes "true") t then Some (val.Bool true) else word_for (codes "false") (val.Bool false) t

abbrev pub char_value_of : Token → Option Value
char_value_of (Char b) = Some (val.Char b)
char_value_of _ = None

-- from -2^bits to 2^bits - 1
abbrev pub in_range : ℕ → ℤ → Bool
in_range bits (pos n) = nat_lt n (2 ^ bits)
in_range bits (negsuc n) = nat_lt n (2 ^ bits)

abbrev pub number_of : ℕ → Token → Option Value
number_of bits (Number n) = when (in_range bits n) (val.Num n)
number_of bits _ = None

abbrev pub text_of : Token → Option Value
text_of (Text t) = Some (val.Text t)
text_of _ = None

abbrev pub atom_of : Token → Option Sexp
atom_of (Text t) = Some (sx.Atom t)
atom_of _ = None

-- the place of the case of a name
abbrev pub case_named : Cases → List ℕ → Option ℕ
case_named end_cases w = None
case_named (case name fs cs) w = if same w name then Some zero else option_map suc (case_named cs w)

abbrev pub case_of : Cases → Token → Option ℕ
case_of cs (Word w) = case_named cs w
case_of cs _ = None

-- ---- larger parts

-- after `[`: no items, or one and more after `;`, and then `]`
abbrev pub Items : {A : Type 0} → (A → List Token → Type 0) → List A → List Token → Type 0
Items L vs ts = Branch (Closed square_close) (Onto L (Rest (is_mark semicolon) (is_mark square_close) L)) vs ts

-- the name of a field, and `=`
abbrev pub Label : List ℕ → Unit {0} → List Token → Type 0
Label name u ts = Then (ThisWord name) (λ x. ThisMark equals) u ts

-- after `(` of an S-expression whose items may be d deep: none where no item may stand, and else any number; and then `)`
abbrev pub Inside : {A : Type 0} → ℕ → (A → List Token → Type 0) → List A → List Token → Type 0
Inside zero L xs ts = Closed round_close xs ts
Inside (suc d) L xs ts = Until (is_mark round_close) L xs ts

-- an S-expression of depth at most d
unfoldable pub IsSexpTokens : ℕ → Sexp → List Token → Type 0
IsSexpTokens zero x ts = ⊥
IsSexpTokens (suc d) x ts = Branch (Then (ThisMark round_open) (λ u. Mapped sx.List (Inside d (IsSexpTokens d)))) (One atom_of) x ts

-- the language of the case at a place: of this one at place 0, of a later one at the place after it
abbrev pub CaseAt : {A : Type 0} → (A → List Token → Type 0) → (ℕ → A → List Token → Type 0) → ℕ → A → List Token → Type 0
CaseAt Here Later zero a ts = Here a ts
CaseAt Here Later (suc place) a ts = Later place a ts

-- ---- all forms

unfoldable mutual
  pub IsValueTokens : Form → Value → List Token → Type 0
  IsValueTokens unit v ts = Then (ThisMark round_open) (λ u. Mapped (λ x. val.Unit) (ThisMark round_close)) v ts
  IsValueTokens bool v ts = One bool_of v ts
  IsValueTokens char v ts = One char_value_of v ts
  IsValueTokens int v ts = One (number_of 62) v ts
  IsValueTokens int32 v ts = One (number_of 31) v ts
  IsValueTokens int64 v ts = One (number_of 63) v ts
  IsValueTokens text v ts = One text_of v ts
  IsValueTokens (opt f) v ts =
      Branch (One (word_for (codes "none") val.Absent)) (Then (ThisWord (codes "some")) (λ u. Mapped val.Present (IsValueTokens f))) v ts
  IsValueTokens (listed f) v ts = Then (ThisMark square_open) (λ u. Mapped val.Items (Items (IsValueTokens f))) v ts
  IsValueTokens (tuple fs) v ts = Then (ThisMark round_open) (λ u. Mapped val.Parts (ArePartTokens fs)) v ts
  IsValueTokens (fields fs) v ts = Then (ThisMark curly_open) (λ u. Mapped val.Parts (AreFieldTokens fs)) v ts
  IsValueTokens (sum cs) v ts = Then (One (case_of cs)) (λ place. Mapped (val.Case place) (AreCaseTokens cs place)) v ts
  IsValueTokens (poly cs) v ts =
      Then (ThisMark backtick) (λ u. Then (One (case_of cs)) (λ place. Mapped (val.Case place) (AreCaseTokens cs place))) v ts
  IsValueTokens sexp v ts = Mapped val.Sexp (IsSexpTokens deepest_sexp) v ts

  -- the parts of a tuple after `(`, with a `,` between them, and the `)`
  pub ArePartTokens : Parts → List Value → List Token → Type 0
  ArePartTokens end vs ts = Closed round_close vs ts
  ArePartTokens (part name f fs) vs ts = Onto (IsValueTokens f) (AreMorePartTokens fs) vs ts

  -- what stands after a part
  pub AreMorePartTokens : Parts → List Value → List Token → Type 0
  AreMorePartTokens end vs ts = Closed round_close vs ts
  AreMorePartTokens (part name f fs) vs ts = Then (ThisMark comma) (λ u. Onto (IsValueTokens f) (AreMorePartTokens fs)) vs ts

  -- the fields of a record after `{`, with a `;` between them, and the `}`
  pub AreFieldTokens : Parts → List Value → List Token → Type 0
  AreFieldTokens end vs ts = Closed curly_close vs ts
  AreFieldTokens (part name f fs) vs ts = Then (Label name) (λ u. Onto (IsValueTokens f) (AreMoreFieldTokens fs)) vs ts

  -- what stands after a field
  pub AreMoreFieldTokens : Parts → List Value → List Token → Type 0
  AreMoreFieldTokens end vs ts = Closed curly_close vs ts
  AreMoreFieldTokens (part name f fs) vs ts =
      Then (ThisMark semicolon) (λ x. Then (Label name) (λ u. Onto (IsValueTokens f) (AreMoreFieldTokens fs))) vs ts

  -- the arguments of the case at a place: nothing, or all of them in round brackets
  pub AreCaseTokens : Cases → ℕ → List Value → List Token → Type 0
  AreCaseTokens end_cases place vs ts = ⊥
  AreCaseTokens (case name fs cs) place vs ts = CaseAt (AreArgumentTokens fs) (AreCaseTokens cs) place vs ts

  pub AreArgumentTokens : Parts → List Value → List Token → Type 0
  AreArgumentTokens end vs ts = Done [] vs ts
  AreArgumentTokens (part name f fs) vs ts = Then (ThisMark round_open) (λ u. Onto (IsValueTokens f) (AreMorePartTokens fs)) vs ts

-- ---- what bounds a value that was read

-- a text of at most m bytes, or a token that is no text
abbrev pub IsShort : ℕ → Token → Type 0
IsShort m (Text t) = length t ≤ m
IsShort m _ = Unit {0}

-- at most m tokens, and each text among them has at most m bytes
abbrev pub AreShort : ℕ → List Token → Type 0
AreShort m ts = (length ts ≤ m) × Each (IsShort m) ts

-- ---- the reading

abbrev pub items_at : {A : Type 0} → (List Token → Outcome Token Why A) → List Token → Outcome Token Why (List A)
items_at r ts =
    branch (is_mark square_close) (closed_at square_close) (onto_at r (λ us. rests (is_mark semicolon) (is_mark square_close) BadText r (length us) us)) ts

abbrev pub label_at : List ℕ → List Token → Outcome Token Why (Unit {0})
label_at name ts = after (word_at name ts) (λ x us. mark_at equals us)

abbrev pub inside_at : {A : Type 0} → ℕ → (List Token → Outcome Token Why A) → List Token → Outcome Token Why (List A)
inside_at zero r ts = closed_at round_close ts
inside_at (suc d) r ts = until (is_mark round_close) BadText r (length ts) ts

unfoldable pub sexp_at : ℕ → List Token → Outcome Token Why Sexp
sexp_at zero ts = more
sexp_at (suc d) ts =
    branch (is_mark round_open) (λ us. after (mark_at round_open us) (λ u xs. mapped sx.List (inside_at d (sexp_at d) xs))) (one atom_of BadText) ts

abbrev pub at_case : {A : Type 0} → (List Token → Outcome Token Why A) → (ℕ → List Token → Outcome Token Why A) → ℕ → List Token → Outcome Token Why A
at_case here later zero ts = here ts
at_case here later (suc place) ts = later place ts

unfoldable mutual
  pub value_at : Form → List Token → Outcome Token Why Value
  value_at unit ts = after (mark_at round_open ts) (λ u us. mapped (λ x. val.Unit) (mark_at round_close us))
  value_at bool ts = one bool_of BadText ts
  value_at char ts = one char_value_of BadText ts
  value_at int ts = one (number_of 62) BadText ts
  value_at int32 ts = one (number_of 31) BadText ts
  value_at int64 ts = one (number_of 63) BadText ts
  value_at text ts = one text_of BadText ts
  value_at (opt f) ts =
      branch (is_word (codes "none")) (one (word_for (codes "none") val.Absent) BadText)
      (λ us. after (word_at (codes "some") us) (λ u xs. mapped val.Present (value_at f xs))) ts
  value_at (listed f) ts = after (mark_at square_open ts) (λ u us. mapped val.Items (items_at (value_at f) us))
  value_at (tuple fs) ts = after (mark_at round_open ts) (λ u us. mapped val.Parts (parts_at fs us))
  value_at (fields fs) ts = after (mark_at curly_open ts) (λ u us. mapped val.Parts (fields_at fs us))
  value_at (sum cs) ts = after (one (case_of cs) BadText ts) (λ place us. mapped (val.Case place) (case_at cs place us))
  value_at (poly cs) ts =
      after (mark_at backtick ts) (λ u us. after (one (case_of cs) BadText us) (λ place xs. mapped (val.Case place) (case_at cs place xs)))
  value_at sexp ts = mapped val.Sexp (sexp_at deepest_sexp ts)

  pub parts_at : Parts → List Token → Outcome Token Why (List Value)
  parts_at end ts = closed_at round_close ts
  parts_at (part name f fs) ts = onto_at (value_at f) (more_parts_at fs) ts

  pub more_parts_at : Parts → List Token → Outcome Token Why (List Value)
  more_parts_at end ts = closed_at round_close ts
  more_parts_at (part name f fs) ts = after (mark_at comma ts) (λ u us. onto_at (value_at f) (more_parts_at fs) us)

  pub fields_at : Parts → List Token → Outcome Token Why (List Value)
  fields_at end ts = closed_at curly_close ts
  fields_at (part name f fs) ts = after (label_at name ts) (λ u us. onto_at (value_at f) (more_fields_at fs) us)

  pub more_fields_at : Parts → List Token → Outcome Token Why (List Value)
  more_fields_at end ts = closed_at curly_close ts
  more_fields_at (part name f fs) ts =
      after (mark_at semicolon ts) (λ x us. after (label_at name us) (λ u xs. onto_at (value_at f) (more_fields_at fs) xs))

  pub case_at : Cases → ℕ → List Token → Outcome Token Why (List Value)
  case_at end_cases place ts = more
  case_at (case name fs cs) place ts = at_case (arguments_at fs) (case_at cs) place ts

  pub arguments_at : Parts → List Token → Outcome Token Why (List Value)
  arguments_at end ts = whole [] ts
  arguments_at (part name f fs) ts = after (mark_at round_open ts) (λ u us. onto_at (value_at f) (more_parts_at fs) us)

-- the reading of a text of nothing but a value
abbrev pub whole_value_at : Form → List Token → Outcome Token Why Value
whole_value_at f ts = ended BadText (value_at f) ts
