-- The reading of values is right: it gives just the values that have texts, and refuses at the first token at fault.
use Rattle.std.proofs.Common.{◌≡◌, refl, true, ℕ, pos, zero, suc, ◌<◌, List, [], ◌∷◌, ◌++◌, length, codes, inl, inr, arith}
use Rattle.readers.specs.Reader.{Outcome, after, mapped, Any, Never, Ended, Is, IsNot, Right, Then, Mapped, One, one, Rest, rests}
use Rattle.readers.proofs.Readers.{follows-any}
use Rattle.readers.proofs.Leaves.{then_begins, begins_wider}
use Rattle.bp_value.specs.declared.value.Value.TheVariants as val
use Rattle.bp_value.specs.declared.value.Sexp.TheVariants as sx
use Rattle.bp_value.specs.Limits.{deepest_sexp}
use Rattle.bp_value.specs.Form.{Form, Parts, Cases, unit, bool, char, int, int32, int64, text, opt, listed, tuple, fields, sum, poly, sexp, end, part, end_cases, case}
use Rattle.bp_value.specs.Faults.{IsGood}
use Rattle.bp_text_grammar.specs.Tokens.{Token, Word, Number, Text, Char, Mark}
use Rattle.bp_text_grammar.specs.Texts.{Why, BadText, IsValueFault, round_open, round_close, comma, semicolon, equals, square_open, square_close, backtick, curly_open, curly_close, is_mark, is_word, word_for, ThisMark, mark_at, ThisWord, word_at, Closed, closed_at, Onto, onto_at}
use Rattle.bp_text_grammar.specs.ValueTexts.{bool_of, char_value_of, number_of, text_of, atom_of, case_of, Items, Label, Inside, IsSexpTokens, IsValueTokens, ArePartTokens, AreMorePartTokens, AreFieldTokens, AreMoreFieldTokens, AreCaseTokens, AreArgumentTokens, items_at, label_at, inside_at, sexp_at, value_at, parts_at, more_parts_at, fields_at, more_fields_at, case_at, arguments_at, whole_value_at}
use Rattle.bp_text_grammar.proofs.Twins.{NoWord}
use Rattle.bp_text_grammar.proofs.Told.{Reads, one_reads, done_reads, mapped_reads, meeting_reads, branch_reads, rest_reads, until_reads, right_common, ended_reads}
use Rattle.bp_text_grammar.proofs.Words.{HasText, mark_text, mark_reads, mark_begins, none_blind, marks_apart, word_same, word_reads, word_begins, word_begins_not, map_begins, then_reads, after_mark_reads, mapped_text, closed_reads, onto_text, onto_reads}
use Rattle.bp_text_grammar.proofs.ValueStarts.{IsRead, ArePartsRead, AreCasesRead, case_count, good_read, some_named, case_within, leaf_begins, after_label, value_begins, sexp_begins, inside_text, items_text, value_text, chosen_text, parts_text, more_parts_text, fields_text, more_fields_text, case_text}

-- ---- lists of items

items_reads : {A : Type 0} (L : A → List Token → Type 0) (r : List Token → Outcome Token Why A) → Reads NoWord Any L r → HasText L
    → ((a : A) (ts : List Token) → L a ts → (t : Token) × (us : List Token) × (ts ≡ t ∷ us) × IsNot (is_mark square_close) t) → Reads NoWord Any (Items L) (items_at r)
items_reads L r right (value, tokens, start) begins =
    branch_reads Any (is_mark square_close) (Closed square_close) (Onto L (Rest (is_mark semicolon) (is_mark square_close) L))
    (closed_at square_close) (onto_at r (λ us. rests (is_mark semicolon) (is_mark square_close) BadText r (length us) us)) (none_blind (is_mark square_close))
    (closed_reads square_close) going
    (map_begins (Is (is_mark square_close)) (λ u. []) (ThisMark square_close) (mark_begins square_close))
    (then_begins (IsNot (is_mark square_close)) L _ begins)
    ([], Mark square_close ∷ [], inl (tt, refl, mark_text square_close))
  where
    rest : Reads NoWord Any (Rest (is_mark semicolon) (is_mark square_close) L) (λ us. rests (is_mark semicolon) (is_mark square_close) BadText r (length us) us)
    rest =
        rest_reads Any L r right (is_mark semicolon) (is_mark square_close) (none_blind (is_mark semicolon)) (none_blind (is_mark square_close))
        (marks_apart square_close semicolon refl) (λ c e. tt) (λ c e. tt) (Mark square_close) refl

    going : Reads NoWord Any (Onto L (Rest (is_mark semicolon) (is_mark square_close) L))
        (onto_at r (λ us. rests (is_mark semicolon) (is_mark square_close) BadText r (length us) us))
    going =
        onto_reads Any L r (Rest (is_mark semicolon) (is_mark square_close) L)
        (λ us. rests (is_mark semicolon) (is_mark square_close) BadText r (length us) us) right rest
        ([], Mark square_close ∷ [], (Mark square_close, refl, refl))

label_reads : (name : List ℕ) → Reads NoWord Any (Label name) (label_at name)
label_reads name =
    then_reads Any (ThisWord name) (word_at name) (λ x. ThisMark equals) (λ x us. mark_at equals us) (word_reads name tt)
    (λ x. mark_reads equals) (λ x. (tt, Mark equals ∷ [], mark_text equals))

-- ---- S-expressions

-- a list whose items are read rightly, or an atom
sexp_layer : (d : ℕ) → Reads NoWord Any (Inside d (IsSexpTokens d)) (inside_at d (sexp_at d)) → Reads NoWord Any (IsSexpTokens (suc d)) (sexp_at (suc d))
unfolding IsSexpTokens sexp_at
sexp_layer d items =
    branch_reads Any (is_mark round_open) (Then (ThisMark round_open) (λ u. Mapped sx.List (Inside d (IsSexpTokens d)))) (One atom_of)
    (λ us. after (mark_at round_open us) (λ u xs. mapped sx.List (inside_at d (sexp_at d) xs))) (one atom_of BadText) (none_blind (is_mark round_open))
    (after_mark_reads Any round_open (Mapped sx.List (Inside d (IsSexpTokens d))) (λ xs. mapped sx.List (inside_at d (sexp_at d) xs))
    (mapped_reads Any sx.List (Inside d (IsSexpTokens d)) (inside_at d (sexp_at d)) items)
    (mapped_text sx.List (Inside d (IsSexpTokens d)) (inside_text d (IsSexpTokens d))))
    (one_reads atom_of (Text []) (sx.Atom []) refl (λ b own none. absurd cc))
    (then_begins (Is (is_mark round_open)) (ThisMark round_open) _ (mark_begins round_open))
    (leaf_begins round_open atom_of (λ b. refl))
    (sx.Atom [], Text [] ∷ [], inr (Text [], refl, refl))

pub sexp_reads : (d : ℕ) → Reads NoWord Any (IsSexpTokens (suc d)) (sexp_at (suc d))
sexp_reads zero = sexp_layer 0 (closed_reads round_close)
sexp_reads (suc d) =
    sexp_layer (suc d)
    (until_reads Any (IsSexpTokens (suc d)) (sexp_at (suc d)) (sexp_reads d) (is_mark round_close) (none_blind (is_mark round_close))
    (begins_wider (λ b c. (c, tt)) (sexp_begins round_close refl (suc d))) (λ c e. tt) (Mark round_close) refl)

-- ---- all forms

-- a name, and the arguments of its case
chosen_reads : (cs : Cases) → 0 < case_count cs → AreCasesRead cs
    → ((place : ℕ) → place < case_count cs → Reads NoWord Any (AreCaseTokens cs place) (case_at cs place))
    → Reads NoWord Any (Then (One (case_of cs)) (λ place. Mapped (val.Case place) (AreCaseTokens cs place)))
    (λ us. after (one (case_of cs) BadText us) (λ place xs. mapped (val.Case place) (case_at cs place xs)))
chosen_reads cs some is each =
    let (name, e) = some_named cs some in
    meeting_reads Any Any (One (case_of cs)) (one (case_of cs) BadText) (λ place. Mapped (val.Case place) (AreCaseTokens cs place))
    (λ place xs. mapped (val.Case place) (case_at cs place xs)) (one_reads (case_of cs) (Word name) 0 e (λ b own none. absurd cc))
    (λ place t l. mapped_reads Any (val.Case place) (AreCaseTokens cs place) (case_at cs place) (each place (case_within cs place t l)))
    (λ place t l. mapped_text (val.Case place) (AreCaseTokens cs place) (case_text cs is place (case_within cs place t l)))
    (λ a b u v m e. follows-any (u ++ v))

-- a field, and more fields
field_reads : (name : List ℕ) (f : Form) (fs : Parts) → IsRead f → Reads NoWord Any (AreMoreFieldTokens fs) (more_fields_at fs) → ArePartsRead fs
    → Reads NoWord Any (IsValueTokens f) (value_at f)
    → Reads NoWord Any (Then (Label name) (λ u. Onto (IsValueTokens f) (AreMoreFieldTokens fs))) (λ us. after (label_at name us) (λ u xs. onto_at (value_at f) (more_fields_at fs) xs))
field_reads name f fs is more are value =
    then_reads Any (Label name) (label_at name) (λ u. Onto (IsValueTokens f) (AreMoreFieldTokens fs)) (λ u xs. onto_at (value_at f) (more_fields_at fs) xs)
    (label_reads name) (λ u. onto_reads Any (IsValueTokens f) (value_at f) (AreMoreFieldTokens fs) (more_fields_at fs) value more (more_fields_text fs are))
    (λ u. onto_text (IsValueTokens f) (AreMoreFieldTokens fs) (value_text f is) (more_fields_text fs are))

mutual
  unfolding IsValueTokens ArePartTokens AreMorePartTokens AreFieldTokens AreMoreFieldTokens AreCaseTokens AreArgumentTokens value_at parts_at more_parts_at fields_at more_fields_at case_at arguments_at IsRead ArePartsRead AreCasesRead

  pub value_reads : (f : Form) → IsRead f → Reads NoWord Any (IsValueTokens f) (value_at f)
  value_reads unit is =
      after_mark_reads Any round_open (Mapped (λ x. val.Unit) (ThisMark round_close)) (λ us. mapped (λ x. val.Unit) (mark_at round_close us))
      (mapped_reads Any (λ x. val.Unit) (ThisMark round_close) (mark_at round_close) (mark_reads round_close))
      (mapped_text (λ x. val.Unit) (ThisMark round_close) (tt, Mark round_close ∷ [], mark_text round_close))
  value_reads bool is = one_reads bool_of (Word (codes "true")) (val.Bool true) refl (λ b own none. absurd cc)
  value_reads char is = one_reads char_value_of (Char 0) (val.Char 0) refl (λ b own none. absurd cc)
  value_reads int is = one_reads (number_of 62) (Number (pos 0)) (val.Num (pos 0)) refl (λ b own none. absurd cc)
  value_reads int32 is = one_reads (number_of 31) (Number (pos 0)) (val.Num (pos 0)) refl (λ b own none. absurd cc)
  value_reads int64 is = one_reads (number_of 63) (Number (pos 0)) (val.Num (pos 0)) refl (λ b own none. absurd cc)
  value_reads text is = one_reads text_of (Text []) (val.Text []) refl (λ b own none. absurd cc)
  value_reads (opt f) is =
      branch_reads Any (is_word (codes "none")) (One (word_for (codes "none") val.Absent)) (Then (ThisWord (codes "some")) (λ u. Mapped val.Present (IsValueTokens f)))
      (one (word_for (codes "none") val.Absent) BadText) (λ us. after (word_at (codes "some") us) (λ u xs. mapped val.Present (value_at f xs))) (none_blind (is_word (codes "none")))
      (word_reads (codes "none") val.Absent)
      (then_reads Any (ThisWord (codes "some")) (word_at (codes "some")) (λ u. Mapped val.Present (IsValueTokens f)) (λ u xs. mapped val.Present (value_at f xs))
      (word_reads (codes "some") tt) (λ u. mapped_reads Any val.Present (IsValueTokens f) (value_at f) (value_reads f is))
      (λ u. mapped_text val.Present (IsValueTokens f) (value_text f is)))
      (word_begins (codes "none") val.Absent)
      (then_begins (IsNot (is_word (codes "none"))) (ThisWord (codes "some")) _ (word_begins_not (codes "none") (codes "some") refl))
      (val.Absent, Word (codes "none") ∷ [], inl (Word (codes "none"), refl, word_same (codes "none") val.Absent))
  value_reads (listed f) is =
      after_mark_reads Any square_open (Mapped val.Items (Items (IsValueTokens f))) (λ us. mapped val.Items (items_at (value_at f) us))
      (mapped_reads Any val.Items (Items (IsValueTokens f)) (items_at (value_at f))
      (items_reads (IsValueTokens f) (value_at f) (value_reads f is) (value_text f is) (value_begins f)))
      (mapped_text val.Items (Items (IsValueTokens f)) (items_text (IsValueTokens f)))
  value_reads (tuple fs) is =
      after_mark_reads Any round_open (Mapped val.Parts (ArePartTokens fs)) (λ us. mapped val.Parts (parts_at fs us))
      (mapped_reads Any val.Parts (ArePartTokens fs) (parts_at fs) (parts_reads fs is)) (mapped_text val.Parts (ArePartTokens fs) (parts_text fs is))
  value_reads (fields fs) is =
      after_mark_reads Any curly_open (Mapped val.Parts (AreFieldTokens fs)) (λ us. mapped val.Parts (fields_at fs us))
      (mapped_reads Any val.Parts (AreFieldTokens fs) (fields_at fs) (fields_reads fs is)) (mapped_text val.Parts (AreFieldTokens fs) (fields_text fs is))
  value_reads (sum cs) is = chosen_reads cs is.0 is.2 (λ place lt. case_reads cs is.2 place lt)
  value_reads (poly cs) is =
      after_mark_reads Any backtick (Then (One (case_of cs)) (λ place. Mapped (val.Case place) (AreCaseTokens cs place)))
      (λ us. after (one (case_of cs) BadText us) (λ place xs. mapped (val.Case place) (case_at cs place xs)))
      (chosen_reads cs is.0 is.2 (λ place lt. case_reads cs is.2 place lt)) (chosen_text cs is.0 is.2)
  value_reads sexp is = mapped_reads Any val.Sexp (IsSexpTokens deepest_sexp) (sexp_at deepest_sexp) (sexp_reads 127)

  parts_reads : (fs : Parts) → ArePartsRead fs → Reads NoWord Any (ArePartTokens fs) (parts_at fs)
  parts_reads end is = closed_reads round_close
  parts_reads (part name f fs) is =
      onto_reads Any (IsValueTokens f) (value_at f) (AreMorePartTokens fs) (more_parts_at fs) (value_reads f is.0) (more_parts_reads fs is.1) (more_parts_text fs is.1)

  more_parts_reads : (fs : Parts) → ArePartsRead fs → Reads NoWord Any (AreMorePartTokens fs) (more_parts_at fs)
  more_parts_reads end is = closed_reads round_close
  more_parts_reads (part name f fs) is =
      after_mark_reads Any comma (Onto (IsValueTokens f) (AreMorePartTokens fs)) (onto_at (value_at f) (more_parts_at fs))
      (onto_reads Any (IsValueTokens f) (value_at f) (AreMorePartTokens fs) (more_parts_at fs) (value_reads f is.0) (more_parts_reads fs is.1) (more_parts_text fs is.1))
      (onto_text (IsValueTokens f) (AreMorePartTokens fs) (value_text f is.0) (more_parts_text fs is.1))

  fields_reads : (fs : Parts) → ArePartsRead fs → Reads NoWord Any (AreFieldTokens fs) (fields_at fs)
  fields_reads end is = closed_reads curly_close
  fields_reads (part name f fs) is = field_reads name f fs is.0 (more_fields_reads fs is.1) is.1 (value_reads f is.0)

  more_fields_reads : (fs : Parts) → ArePartsRead fs → Reads NoWord Any (AreMoreFieldTokens fs) (more_fields_at fs)
  more_fields_reads end is = closed_reads curly_close
  more_fields_reads (part name f fs) is =
      after_mark_reads Any semicolon (Then (Label name) (λ u. Onto (IsValueTokens f) (AreMoreFieldTokens fs)))
      (λ us. after (label_at name us) (λ u xs. onto_at (value_at f) (more_fields_at fs) xs))
      (field_reads name f fs is.0 (more_fields_reads fs is.1) is.1 (value_reads f is.0))
      (after_label name (Onto (IsValueTokens f) (AreMoreFieldTokens fs)) (onto_text (IsValueTokens f) (AreMoreFieldTokens fs) (value_text f is.0) (more_fields_text fs is.1)))

  case_reads : (cs : Cases) → AreCasesRead cs → (place : ℕ) → place < case_count cs → Reads NoWord Any (AreCaseTokens cs place) (case_at cs place)
  case_reads end_cases is place lt = absurd (omega arith)
  case_reads (case name fs cs) is zero lt = arguments_reads fs is.0
  case_reads (case name fs cs) is (suc place) lt = case_reads cs is.1 place (omega arith)

  arguments_reads : (fs : Parts) → ArePartsRead fs → Reads NoWord Any (AreArgumentTokens fs) (arguments_at fs)
  arguments_reads end is = done_reads []
  arguments_reads (part name f fs) is =
      after_mark_reads Any round_open (Onto (IsValueTokens f) (AreMorePartTokens fs)) (onto_at (value_at f) (more_parts_at fs))
      (onto_reads Any (IsValueTokens f) (value_at f) (AreMorePartTokens fs) (more_parts_at fs) (value_reads f is.0) (more_parts_reads fs is.1) (more_parts_text fs is.1))
      (onto_text (IsValueTokens f) (AreMorePartTokens fs) (value_text f is.0) (more_parts_text fs is.1))

-- for each good form the reading is right, and has one reason
pub right_value : (f : Form) → IsGood f → Right Any Any (IsValueTokens f) IsValueFault (value_at f)
right_value f good = right_common Any (IsValueTokens f) (value_at f) (value_reads f (good_read f good))

-- and of a text of nothing but a value
pub right_whole_value : (f : Form) → IsGood f → Right Any Never (Ended (IsValueTokens f)) IsValueFault (whole_value_at f)
right_whole_value f good =
    right_common Never (Ended (IsValueTokens f)) (whole_value_at f) (ended_reads Any (IsValueTokens f) (value_at f) (value_reads f (good_read f good)))
