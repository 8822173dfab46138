-- Each form that can be read has a text, and what the texts of a form begin with.
use Rattle.std.proofs.Common.{◌≡◌, refl, sym, ap, ◌∙◌, Option, Some, None, true, false, ℕ, pos, zero, suc, ◌+◌, ◌<◌, nat_eq, List, [], ◌∷◌, length, codes, inl, inr, arith}
use Rattle.std.specs.Option.{option_map}
use Rattle.readers.specs.Reader.{IsNot, Then, Mapped, One, Begins}
use Rattle.readers.proofs.Leaves.{is_or, pick_true, pick_false, one_begins, then_begins, branch_begins}
use Rattle.bp_value.specs.declared.value.Value.TheVariants as val
use Rattle.bp_value.specs.declared.value.Sexp.TheVariants as sx
use Rattle.bp_value.specs.Limits.{deepest_sexp}
use Rattle.bp_value.specs.Form.{Form, Parts, Cases, unit, bool, char, int, int32, int64, text, opt, listed, tuple, fields, sum, poly, sexp, end, part, end_cases, case}
use Rattle.bp_value.specs.Names.{IsDistinct}
use Rattle.bp_value.specs.Faults.{nodes, part_nodes, case_nodes, case_names, IsGood}
use Rattle.bp_value.proofs.Good.{AreGood, good_root, good_node, good_opt, good_listed, good_tuple, good_fields, good_sum, good_poly, good_part, good_case, some_cases, distinct_names}
use Rattle.bp_text_grammar.specs.Tokens.{Token, Word, Number, Text, Char, Mark}
use Rattle.bp_text_grammar.specs.Texts.{round_open, round_close, comma, semicolon, equals, square_open, square_close, backtick, curly_open, curly_close, same, is_mark, word_for, ThisMark, ThisWord, Onto}
use Rattle.bp_text_grammar.specs.ValueTexts.{bool_of, char_value_of, number_of, text_of, atom_of, case_named, case_of, Items, Label, Inside, IsSexpTokens, IsValueTokens, ArePartTokens, AreMorePartTokens, AreFieldTokens, AreMoreFieldTokens, AreCaseTokens, AreArgumentTokens}
use Rattle.bp_text_grammar.proofs.Words.{HasText, same_refl, mark_text, mark_begins_not, word_same, word_text, map_begins, then_text, mapped_text, after_mark, closed_text, onto_text}

-- ---- which forms can be read: a variant has a case, and no two of its cases have one name

abbrev pub case_count : Cases → ℕ
case_count end_cases = zero
case_count (case name fs cs) = suc (case_count cs)

unfoldable mutual
  pub IsRead : Form → Type 0
  IsRead (opt f) = IsRead f
  IsRead (listed f) = IsRead f
  IsRead (tuple fs) = ArePartsRead fs
  IsRead (fields fs) = ArePartsRead fs
  IsRead (sum cs) = (0 < case_count cs) × IsDistinct (case_names cs) × AreCasesRead cs
  IsRead (poly cs) = (0 < case_count cs) × IsDistinct (case_names cs) × AreCasesRead cs
  IsRead _ = Unit {0}

  pub ArePartsRead : Parts → Type 0
  ArePartsRead end = Unit {0}
  ArePartsRead (part name f fs) = IsRead f × ArePartsRead fs

  pub AreCasesRead : Cases → Type 0
  AreCasesRead end_cases = Unit {0}
  AreCasesRead (case name fs cs) = ArePartsRead fs × AreCasesRead cs

case_count-is : (cs : Cases) → case_count cs ≡ length (case_names cs)
case_count-is end_cases = refl
case_count-is (case name fs cs) = ap suc (case_count-is cs)

mutual
  unfolding IsRead ArePartsRead AreCasesRead

  read_node : (d : ℕ) (f : Form) → AreGood (nodes d f) → IsRead f
  read_node d unit good = tt
  read_node d bool good = tt
  read_node d char good = tt
  read_node d int good = tt
  read_node d int32 good = tt
  read_node d int64 good = tt
  read_node d text good = tt
  read_node d (opt f) good = read_node (d + 1) f (good_opt d f good)
  read_node d (listed f) good = read_node (d + 1) f (good_listed d f good)
  read_node d (tuple fs) good = read_parts_node (d + 1) fs (good_tuple d fs good)
  read_node d (fields fs) good = read_parts_node (d + 1) fs (good_fields d fs good)
  read_node d (sum cs) good =
      let some : 0 < length (case_names cs) = some_cases d (sum cs) (good_node d (sum cs) good) tt in
      (omega (arith, case_count-is cs), distinct_names d (sum cs) (good_node d (sum cs) good), read_cases_node (d + 1) cs (good_sum d cs good))
  read_node d (poly cs) good =
      let some : 0 < length (case_names cs) = some_cases d (poly cs) (good_node d (poly cs) good) tt in
      (omega (arith, case_count-is cs), distinct_names d (poly cs) (good_node d (poly cs) good), read_cases_node (d + 1) cs (good_poly d cs good))
  read_node d sexp good = tt

  read_parts_node : (d : ℕ) (fs : Parts) → AreGood (part_nodes d fs) → ArePartsRead fs
  read_parts_node d end good = tt
  read_parts_node d (part name f fs) good = let both = good_part d name f fs good in (read_node d f both.0, read_parts_node d fs both.1)

  read_cases_node : (d : ℕ) (cs : Cases) → AreGood (case_nodes d cs) → AreCasesRead cs
  read_cases_node d end_cases good = tt
  read_cases_node d (case name fs cs) good = let both = good_case d name fs cs good in (read_parts_node d fs both.0, read_cases_node d cs both.1)

pub good_read : (f : Form) → IsGood f → IsRead f
good_read f good = read_node 1 f (good_root f good)

-- ---- names of cases

-- the first case is found by its name
pub first_named : (name : List ℕ) (fs : Parts) (cs : Cases) → case_of (case name fs cs) (Word name) ≡ Some 0
first_named name fs cs = pick_true (same name name) (Some zero) (option_map suc (case_named cs name)) (same_refl name)

pub some_named : (cs : Cases) → 0 < case_count cs → (name : List ℕ) × (case_of cs (Word name) ≡ Some 0)
some_named end_cases some = absurd (omega arith)
some_named (case name fs cs) some = (name, first_named name fs cs)

-- a place of some cases is one of those with one case more in front
next_place : (o : Option ℕ) (n place : ℕ) → ((p : ℕ) → o ≡ Some p → p < n) → option_map suc o ≡ Some place → place < suc n
next_place None n place each e = absurd cc
next_place (Some p) n place each e = let next : suc p ≡ place = cc in let lt : p < n = each p refl in omega arith

named_within : (cs : Cases) (w : List ℕ) (place : ℕ) → case_named cs w ≡ Some place → place < case_count cs
named_within end_cases w place e = absurd cc
named_within (case name fs cs) w place e = elim (is_or (same w name)) [
  | inl is ↦ first (sym (pick_true (same w name) (Some zero) (option_map suc (case_named cs w)) is) ∙ e)
  | inr other ↦ next_place (case_named cs w) (case_count cs) place (λ p f. named_within cs w p f)
      (sym (pick_false (same w name) (Some zero) (option_map suc (case_named cs w)) other) ∙ e)
]
  where
    first : ◌≡◌ {A = Option ℕ} (Some zero) (Some place) → place < suc (case_count cs)
    first h = let z : zero ≡ place = cc in omega arith

pub case_within : (cs : Cases) (place : ℕ) (t : List Token) → One (case_of cs) place t → place < case_count cs
case_within cs place t (Word w, cut, e) = named_within cs w place e
case_within cs place t (_, cut, e) = absurd cc

-- ---- what a text begins with

-- a token that is no mark
abbrev pub NoMark : Token → Type 0
NoMark t = (m : ℕ) → is_mark m t ≡ false

pub no_mark : {A : Type 0} (h : Token → Option A) → ((b : ℕ) → h (Mark b) ≡ None) → (t : Token) (a : A) → h t ≡ Some a → NoMark t
no_mark h none (Mark b) a e = absurd (clash (none b))
  where
    clash : h (Mark b) ≡ None → ⊥
    clash f = let both : None ≡ Some a = sym f ∙ e in cc
no_mark h none _ a e = λ m. refl

pub leaf_begins : {A : Type 0} (m : ℕ) (h : Token → Option A) → ((b : ℕ) → h (Mark b) ≡ None) → Begins (IsNot (is_mark m)) (One h)
leaf_begins m h none = one_begins (IsNot (is_mark m)) h (λ t a e. no_mark h none t a e m)

-- no text of an S-expression begins with a mark but `(`
pub sexp_begins : (m : ℕ) → nat_eq round_open m ≡ false → (d : ℕ) → Begins (IsNot (is_mark m)) (IsSexpTokens d)
unfolding IsSexpTokens
sexp_begins m apart zero x ts l = absurd l
sexp_begins m apart (suc d) x ts l =
    branch_begins (IsNot (is_mark m)) (Then (ThisMark round_open) (λ u. Mapped sx.List (Inside d (IsSexpTokens d)))) (One atom_of)
    (then_begins (IsNot (is_mark m)) (ThisMark round_open) (λ u. Mapped sx.List (Inside d (IsSexpTokens d))) (mark_begins_not m round_open apart))
    (leaf_begins m atom_of (λ b. refl)) x ts l

-- no text begins with the mark that ends a list
pub value_begins : (f : Form) → Begins (IsNot (is_mark square_close)) (IsValueTokens f)
unfolding IsValueTokens
value_begins unit = then_begins (IsNot (is_mark square_close)) (ThisMark round_open) _ (mark_begins_not square_close round_open refl)
value_begins bool = leaf_begins square_close bool_of (λ b. refl)
value_begins char = leaf_begins square_close char_value_of (λ b. refl)
value_begins int = leaf_begins square_close (number_of 62) (λ b. refl)
value_begins int32 = leaf_begins square_close (number_of 31) (λ b. refl)
value_begins int64 = leaf_begins square_close (number_of 63) (λ b. refl)
value_begins text = leaf_begins square_close text_of (λ b. refl)
value_begins (opt f) =
    branch_begins (IsNot (is_mark square_close)) (One (word_for (codes "none") val.Absent)) _ (leaf_begins square_close (word_for (codes "none") val.Absent) (λ b. refl))
    (then_begins (IsNot (is_mark square_close)) (ThisWord (codes "some")) _ (leaf_begins square_close (word_for (codes "some") tt) (λ b. refl)))
value_begins (listed f) = then_begins (IsNot (is_mark square_close)) (ThisMark square_open) _ (mark_begins_not square_close square_open refl)
value_begins (tuple fs) = then_begins (IsNot (is_mark square_close)) (ThisMark round_open) _ (mark_begins_not square_close round_open refl)
value_begins (fields fs) = then_begins (IsNot (is_mark square_close)) (ThisMark curly_open) _ (mark_begins_not square_close curly_open refl)
value_begins (sum cs) = then_begins (IsNot (is_mark square_close)) (One (case_of cs)) _ (leaf_begins square_close (case_of cs) (λ b. refl))
value_begins (poly cs) = then_begins (IsNot (is_mark square_close)) (ThisMark backtick) _ (mark_begins_not square_close backtick refl)
value_begins sexp = map_begins (IsNot (is_mark square_close)) val.Sexp (IsSexpTokens deepest_sexp) (sexp_begins square_close refl deepest_sexp)

-- ---- a text of each form

pub inside_text : {A : Type 0} (d : ℕ) (L : A → List Token → Type 0) → HasText (Inside d L)
inside_text zero L = closed_text round_close
inside_text (suc d) L = ([], Mark round_close ∷ [], (Mark round_close, refl, refl))

pub sexp_text : (d : ℕ) → HasText (IsSexpTokens (suc d))
unfolding IsSexpTokens
sexp_text d = (sx.Atom [], Text [] ∷ [], inr (Text [], refl, refl))

pub items_text : {A : Type 0} (L : A → List Token → Type 0) → HasText (Items L)
items_text L = let (vs, ts, l) = closed_text square_close in (vs, ts, inl l)

pub label_text : (name : List ℕ) → HasText (Label name)
label_text name = then_text (ThisWord name) (λ x. ThisMark equals) tt (Word name ∷ []) (word_text name) (tt, Mark equals ∷ [], mark_text equals)

pub after_label : {B : Type 0} (name : List ℕ) (M : B → List Token → Type 0) → HasText M → HasText (Then (Label name) (λ u. M))
after_label name M has = let (u, ts, l) = label_text name in then_text (Label name) (λ u. M) u ts l has

zero_text : (bits : ℕ) → number_of bits (Number (pos 0)) ≡ Some (val.Num (pos 0)) → HasText (One (number_of bits))
zero_text bits e = (val.Num (pos 0), Number (pos 0) ∷ [], (Number (pos 0), refl, e))

mutual
  unfolding IsValueTokens ArePartTokens AreMorePartTokens AreFieldTokens AreMoreFieldTokens AreCaseTokens AreArgumentTokens IsRead ArePartsRead AreCasesRead

  pub value_text : (f : Form) → IsRead f → HasText (IsValueTokens f)
  value_text unit is = after_mark round_open (Mapped (λ x. val.Unit) (ThisMark round_close)) (mapped_text (λ x. val.Unit) (ThisMark round_close) (tt, Mark round_close ∷ [], mark_text round_close))
  value_text bool is = (val.Bool true, Word (codes "true") ∷ [], (Word (codes "true"), refl, refl))
  value_text char is = (val.Char 0, Char 0 ∷ [], (Char 0, refl, refl))
  value_text int is = zero_text 62 refl
  value_text int32 is = zero_text 31 refl
  value_text int64 is = zero_text 63 refl
  value_text text is = (val.Text [], Text [] ∷ [], (Text [], refl, refl))
  value_text (opt f) is = (val.Absent, Word (codes "none") ∷ [], inl (Word (codes "none"), refl, word_same (codes "none") val.Absent))
  value_text (listed f) is = after_mark square_open (Mapped val.Items (Items (IsValueTokens f))) (mapped_text val.Items (Items (IsValueTokens f)) (items_text (IsValueTokens f)))
  value_text (tuple fs) is = after_mark round_open (Mapped val.Parts (ArePartTokens fs)) (mapped_text val.Parts (ArePartTokens fs) (parts_text fs is))
  value_text (fields fs) is = after_mark curly_open (Mapped val.Parts (AreFieldTokens fs)) (mapped_text val.Parts (AreFieldTokens fs) (fields_text fs is))
  value_text (sum cs) is = chosen_text cs is.0 is.2
  value_text (poly cs) is = after_mark backtick (Then (One (case_of cs)) (λ place. Mapped (val.Case place) (AreCaseTokens cs place))) (chosen_text cs is.0 is.2)
  value_text sexp is = mapped_text val.Sexp (IsSexpTokens deepest_sexp) (sexp_text 127)

  pub chosen_text : (cs : Cases) → 0 < case_count cs → AreCasesRead cs → HasText (Then (One (case_of cs)) (λ place. Mapped (val.Case place) (AreCaseTokens cs place)))
  chosen_text end_cases some is = absurd (omega arith)
  chosen_text (case name fs cs) some is =
      then_text (One (case_of (case name fs cs))) (λ place. Mapped (val.Case place) (AreCaseTokens (case name fs cs) place)) 0 (Word name ∷ [])
      (Word name, refl, first_named name fs cs) (mapped_text (val.Case 0) (AreArgumentTokens fs) (arguments_text fs is.0))

  pub parts_text : (fs : Parts) → ArePartsRead fs → HasText (ArePartTokens fs)
  parts_text end is = closed_text round_close
  parts_text (part name f fs) is = onto_text (IsValueTokens f) (AreMorePartTokens fs) (value_text f is.0) (more_parts_text fs is.1)

  pub more_parts_text : (fs : Parts) → ArePartsRead fs → HasText (AreMorePartTokens fs)
  more_parts_text end is = closed_text round_close
  more_parts_text (part name f fs) is =
      after_mark comma (Onto (IsValueTokens f) (AreMorePartTokens fs)) (onto_text (IsValueTokens f) (AreMorePartTokens fs) (value_text f is.0) (more_parts_text fs is.1))

  pub fields_text : (fs : Parts) → ArePartsRead fs → HasText (AreFieldTokens fs)
  fields_text end is = closed_text curly_close
  fields_text (part name f fs) is =
      after_label name (Onto (IsValueTokens f) (AreMoreFieldTokens fs)) (onto_text (IsValueTokens f) (AreMoreFieldTokens fs) (value_text f is.0) (more_fields_text fs is.1))

  pub more_fields_text : (fs : Parts) → ArePartsRead fs → HasText (AreMoreFieldTokens fs)
  more_fields_text end is = closed_text curly_close
  more_fields_text (part name f fs) is =
      after_mark semicolon (Then (Label name) (λ u. Onto (IsValueTokens f) (AreMoreFieldTokens fs)))
      (after_label name (Onto (IsValueTokens f) (AreMoreFieldTokens fs)) (onto_text (IsValueTokens f) (AreMoreFieldTokens fs) (value_text f is.0) (more_fields_text fs is.1)))

  pub case_text : (cs : Cases) → AreCasesRead cs → (place : ℕ) → place < case_count cs → HasText (AreCaseTokens cs place)
  case_text end_cases is place lt = absurd (omega arith)
  case_text (case name fs cs) is zero lt = arguments_text fs is.0
  case_text (case name fs cs) is (suc place) lt = case_text cs is.1 place (omega arith)

  pub arguments_text : (fs : Parts) → ArePartsRead fs → HasText (AreArgumentTokens fs)
  arguments_text end is = ([], [], (refl, refl))
  arguments_text (part name f fs) is =
      after_mark round_open (Onto (IsValueTokens f) (AreMorePartTokens fs)) (onto_text (IsValueTokens f) (AreMorePartTokens fs) (value_text f is.0) (more_parts_text fs is.1))
