-- The turns of a loop that reads the parts of a tuple, or the fields of a record.
use Rattle.std.proofs.Common.{◌≡◌, refl, sym, ap, ◌∙◌, subst, Bool, true, false, ℕ, List, [], ◌∷◌, ◌++◌, Ok, Err}
use Rattle.std.proofs.lemmas.List.{append-nil}
use Rattle.readers.specs.Reader.{Outcome, after, mapped}
use Rattle.readers.proofs.Loops.{onward, after_mapped, after_whole, after_after, one_more}
use Rattle.readers.proofs.Bounds.{after_same}
use Rattle.bp_value.specs.declared.value.Value.{Value}
use Rattle.bp_value.specs.Form.{Form, Parts, part, end}
use Rattle.bp_text_grammar.specs.Tokens.{Token}
use Rattle.bp_text_grammar.specs.Texts.{Why, comma, semicolon, round_close, curly_close, mark_at, closed_at}
use Rattle.bp_text_grammar.specs.ValueTexts.{label_at, value_at, parts_at, more_parts_at, fields_at, more_fields_at}
use Rattle.bp_text.specs.declared.halt.Halt.{Halt}
use Rattle.bp_text.specs.Unread.{Unread, ahead, Advances, HasOutcome}
use Rattle.bp_text.specs.Leaves.{TokenReader, after_separator, labelled_at}
use Rattle.bp_text.proofs.Ahead.{goes_join}
use Rattle.bp_text.proofs.Turns.{stops_after}

abbrev pub is_none_yet : List Value → Bool
is_none_yet [] = true
is_none_yet (v ∷ vs) = false

-- A list of parts is read with a turn for each. What is read of those that are left, behind no value or some; and the mark at its end.
pub record PartWords : Type 0 where
  pub rest : List Value → Parts → TokenReader (List Value)
  pub more : Parts → TokenReader (List Value)
  pub turn : Bool → List ℕ → Form → TokenReader Value
  pub close : ℕ

abbrev rest_of : (Parts → TokenReader (List Value)) → (Parts → TokenReader (List Value)) → List Value → Parts → TokenReader (List Value)
rest_of first more [] = first
rest_of first more (v ∷ vs) = more

abbrev pub part_words : PartWords
part_words = record {
  rest = rest_of parts_at more_parts_at;
  more = more_parts_at;
  turn = λ is_first name f. after_separator comma is_first (value_at f);
  close = round_close;
}

abbrev pub field_words : PartWords
field_words = record {
  rest = rest_of fields_at more_fields_at;
  more = more_fields_at;
  turn = λ is_first name f. after_separator semicolon is_first (labelled_at name f);
  close = curly_close;
}

pub record ArePartWords (w : PartWords) : Type 0 where
  pub step : (values : List Value) (name : List ℕ) (f : Form) (fs : Parts) (ts : List Token)
      → w.rest values (part name f fs) ts ≡ after (w.turn (is_none_yet values) name f ts) (λ v us. mapped (λ vs. v ∷ vs) (w.more fs us))
  pub ends : (values : List Value) (ts : List Token) → w.rest values end ts ≡ closed_at w.close ts
  pub goes_on : (values : List Value) (v : Value) (fs : Parts) (ts : List Token) → w.rest (values ++ v ∷ []) fs ts ≡ w.more fs ts

-- with the values so far, what is read of the parts that are left is what is read of all
pub record PartsLeft {B : Type 0} (w : PartWords) (k : List Value → TokenReader B) (total : Outcome Token Why B) (old now : Unread) (values : List Value) (fs : Parts) : Type 0 where
  pub goes : Advances old now
  pub reads : onward k values (w.rest values fs (ahead now)) ≡ total

pub left_as : {B : Type 0} {w : PartWords} {k : List Value → TokenReader B} {total : Outcome Token Why B} {old now : Unread} {values : List Value} {fs gs : Parts} → fs ≡ gs
    → PartsLeft w k total old now values fs → PartsLeft w k total old now values gs
left_as {w = w} {k = k} {total = total} {old = old} {now = now} {values = values} e left = subst (λ hs. PartsLeft w k total old now values hs) e left

module _ {B : Type 0} (w : PartWords) (is : ArePartWords w) (k : List Value → TokenReader B) (total : Outcome Token Why B) (old now : Unread) (values : List Value) where
  module _ (name : List ℕ) (f : Form) (fs : Parts) (is_first : Bool) (first : is_first ≡ is_none_yet values) (left : PartsLeft w k total old now values (part name f fs)) where
    total_is : total ≡ after (w.turn is_first name f (ahead now)) (λ v us. onward k (values ++ v ∷ []) (w.more fs us))
    total_is =
        sym left.reads
        ∙ (ap (λ o. onward k values o) (is.step values name f fs (ahead now) ∙ ap (λ b. after (w.turn b name f (ahead now)) (λ v us. mapped (λ vs. v ∷ vs) (w.more fs us))) (sym first))
        ∙ one_more k values (w.turn is_first name f (ahead now)) (w.more fs))

    pub part_goes : (new : Unread) (v : Value) → HasOutcome (w.turn is_first name f (ahead now)) now new (Ok v) → PartsLeft w k total old new (values ++ v ∷ []) fs
    part_goes new v gives = record {
      goes = goes_join old now new left.goes gives.0;
      reads =
          ap (λ o. onward k (values ++ v ∷ []) o) (is.goes_on values v fs (ahead new))
          ∙ sym (total_is ∙ after_whole (λ x us. onward k (values ++ x ∷ []) (w.more fs us)) gives.1);
    }

    pub part_fails : (new : Unread) (stop : Halt) → HasOutcome (w.turn is_first name f (ahead now)) now new (Err stop) → HasOutcome total old new (Err stop)
    part_fails new stop gives =
        stops_after total (w.turn is_first name f (ahead now)) (λ v us. onward k (values ++ v ∷ []) (w.more fs us)) old now new stop total_is left.goes gives

  module _ (left : PartsLeft w k total old now values end) where
    end_is : total ≡ after (mark_at w.close (ahead now)) (λ u us. k values us)
    end_is =
        sym left.reads
        ∙ (ap (λ o. onward k values o) (is.ends values (ahead now)) ∙ after_mapped (mark_at w.close (ahead now)) (λ u. []) (λ vs. k (values ++ vs))
        ∙ no_more (mark_at w.close (ahead now)))
      where
        no_more : (o : Outcome Token Why (Unit {0})) → after o (λ u. k (values ++ [])) ≡ after o (λ u us. k values us)
        no_more o = ap (λ vs. after o (λ u. k vs)) (append-nil values)

    pub parts_end : (new : Unread) → HasOutcome (mark_at w.close (ahead now)) now new (Ok tt) → Advances old new × (total ≡ k values (ahead new))
    parts_end new gives = (goes_join old now new left.goes gives.0, end_is ∙ after_whole (λ u us. k values us) gives.1)

    pub parts_stay : (new : Unread) (stop : Halt) → HasOutcome (mark_at w.close (ahead now)) now new (Err stop) → HasOutcome total old new (Err stop)
    parts_stay new stop gives = stops_after total (mark_at w.close (ahead now)) (λ u us. k values us) old now new stop end_is left.goes gives

-- ---- tuples, and records

pub are_part_words : ArePartWords part_words
unfolding parts_at more_parts_at
are_part_words = record {
  step = step;
  ends = ends;
  goes_on = goes_on;
}
  where
    step : (values : List Value) (name : List ℕ) (f : Form) (fs : Parts) (ts : List Token)
        → part_words.rest values (part name f fs) ts ≡ after (part_words.turn (is_none_yet values) name f ts) (λ v us. mapped (λ vs. v ∷ vs) (part_words.more fs us))
    step [] name f fs ts = refl
    step (v ∷ vs) name f fs ts = sym (after_after (mark_at comma ts) (λ u. value_at f) (λ x us. mapped (λ xs. x ∷ xs) (more_parts_at fs us)))

    ends : (values : List Value) (ts : List Token) → part_words.rest values end ts ≡ closed_at round_close ts
    ends [] ts = refl
    ends (v ∷ vs) ts = refl

    goes_on : (values : List Value) (v : Value) (fs : Parts) (ts : List Token) → part_words.rest (values ++ v ∷ []) fs ts ≡ more_parts_at fs ts
    goes_on [] v fs ts = refl
    goes_on (x ∷ xs) v fs ts = refl

pub are_field_words : ArePartWords field_words
unfolding fields_at more_fields_at
are_field_words = record {
  step = step;
  ends = ends;
  goes_on = goes_on;
}
  where
    step : (values : List Value) (name : List ℕ) (f : Form) (fs : Parts) (ts : List Token)
        → field_words.rest values (part name f fs) ts ≡ after (field_words.turn (is_none_yet values) name f ts) (λ v us. mapped (λ vs. v ∷ vs) (field_words.more fs us))
    step [] name f fs ts = sym (after_after (label_at name ts) (λ u. value_at f) (λ x us. mapped (λ xs. x ∷ xs) (more_fields_at fs us)))
    step (v ∷ vs) name f fs ts =
        after_same (mark_at semicolon ts) _ _ (λ x us e. sym (after_after (label_at name us) (λ u. value_at f) (λ y xs. mapped (λ ys. y ∷ ys) (more_fields_at fs xs))))
        ∙ sym (after_after (mark_at semicolon ts) (λ u. labelled_at name f) (λ x us. mapped (λ xs. x ∷ xs) (more_fields_at fs us)))

    ends : (values : List Value) (ts : List Token) → field_words.rest values end ts ≡ closed_at curly_close ts
    ends [] ts = refl
    ends (v ∷ vs) ts = refl

    goes_on : (values : List Value) (v : Value) (fs : Parts) (ts : List Token) → field_words.rest (values ++ v ∷ []) fs ts ≡ more_fields_at fs ts
    goes_on [] v fs ts = refl
    goes_on (x ∷ xs) v fs ts = refl
