-- A line of an event is that of one event, and no such line is refused.
use Rattle.std.proofs.Common.{◌≡◌, refl, sym, ap, ◌∙◌, subst, true, ℕ, ◌-◌, ◌<◌, ◌≤◌, ◌^◌, List, [], cond, codes, inl, inr, Option, Some, None, arith}
use Rattle.std.specs.Fmt.{decimal}
use Rattle.std.specs.Str.{bytes_eq}
use Rattle.std.specs.Char.{is_ascii_digit}
use Rattle.std.proofs.lemmas.Fmt.{decimal_injective, digits_decimal}
use Rattle.readers.specs.Reader.{Each, Is}
use Rattle.bp_value.specs.declared.shape.Shape.TheVariants as shp
use Rattle.bp_value.specs.declared.value.Value.{Value}
use Rattle.bp_value.specs.declared.value.Value.TheVariants as val
use Rattle.bp_value.specs.Form.{form_of, text}
use Rattle.bp_value.specs.Faults.{IsGood, nodes}
use Rattle.bp_value.specs.Fits.{Fits}
use Rattle.bp_value.specs.Names.{IsShapeName}
use Rattle.bp_value.proofs.Forms.{form_of-Text}
use Rattle.bp_value.proofs.FaultSteps.{bare_node}
use Rattle.bp_value.proofs.FirstSteps.{bare_good}
use Rattle.bp_text_grammar.specs.Scanning.{after_blanks}
use Rattle.bp_text_grammar.specs.Texts.{BadText, IsValueFault}
use Rattle.bp_text_grammar.specs.ValueTexts.{IsValueTokens}
use Rattle.bp_text_grammar.proofs.Decimals.{numerals}
use Rattle.bp_text_grammar.proofs.PrintedLaws.{value_text_once}
use Rattle.bp_text_grammar.proofs.WholeReads.{refused_none}
use Rattle.rpc_schema.specs.LineParts.{Next, Known, Lacks, front_word, End}
use Rattle.rpc_schema.specs.SchemaLines.{IsNamePart, IsVersionPart}
use Rattle.rpc_schema.proofs.PartLaws.{IsSure, sure_next, sure_last, sure_word, sure_end}
use Rattle.rpc_schema.proofs.LineLaws.{one_spelled, no_word, sure_name, sure_version}
use Rattle.rpc_schedule.specs.declared.event.Event.{Event}
use Rattle.rpc_schedule.specs.declared.event.Event.TheVariants as ev
use Rattle.rpc_schedule.specs.declared.words.Verb.{Verb}
use Rattle.rpc_schedule.specs.declared.words.Verb.TheVariants as verb
use Rattle.rpc_schedule.specs.declared.words.OfLabel.TheVariants as of_label
use Rattle.rpc_schedule.specs.declared.words.OfValue.TheVariants as of_value
use Rattle.rpc_schedule.specs.declared.words.Way.TheVariants as way
use Rattle.rpc_schedule.specs.declared.words.OfParty.TheVariants as of_party
use Rattle.rpc_schedule.specs.declared.words.Party.{Party}
use Rattle.rpc_schedule.specs.declared.words.Party.TheVariants.{Client, Server}
use Rattle.rpc_schedule.specs.EventParts.{Last, LastRefused, IsLabel, IsRest, IsWorded, IsAskOf, IsAskUnder, AskUnderRefused, IsAskPart, AskRefused, IsBestUnder, IsBestPart, BestRefused, IsQuoted, QuotedRefused, IsFailurePart, FailureRefused, SpellsCount, SpellsPiece, IsCount, IsPiece, IsBy, IsByPart, ByPartRefused, ArePieces, PiecesRefused, IsMovementPart, MovementRefused, SpellsMoment, IsMoment, party_word, IsParty}
use Rattle.rpc_schedule.specs.EventLines.{verb_word, IsVerb, label_event, value_event, move_event, party_event, IsEventOf, EventOfRefused, IsLineOfEvent, EventLineRefused}
use Rattle.rpc_schedule.specs.Reading.{IsTextValue}

-- ---- the last part, and all that is left

sure_last_of : {A : Type 0} (P : A → List ℕ → List ℕ → Type 0) (N : List ℕ → List ℕ → Type 0) → IsSure P N → IsSure (Last P) (LastRefused P N)
sure_last_of P N sure = sure_next P N (λ b. Next End (λ e. Known b)) (λ b. Lacks End) sure (λ b s u p. sure_last End (Lacks End) (λ e. b) sure_end)

sure_to_rest : {A B : Type 0} (P : A → List ℕ → List ℕ → Type 0) (N : List ℕ → List ℕ → Type 0) (f : A → List ℕ → B) → IsSure P N
    → IsSure (Next P (λ a. Next IsRest (λ t. Known (f a t)))) N
sure_to_rest {A = A} {B = B} P N f sure = record {
  once = λ b c s u v x y. both b c s u v x y;
  apart = λ b s u x stands fails. sure.apart stands.0 s stands.1 x stands.2 fails;
} where
  both : (b c : B) (s u v : List ℕ) → Next P (λ a. Next IsRest (λ t. Known (f a t))) b s u → Next P (λ a. Next IsRest (λ t. Known (f a t))) c s v
      → (b ≡ c) × (u ≡ v)
  both b c s u v (a, t, p, (w, x, (is, none), (made, same))) (d, r, q, (z, y, (as_, nothing), (formed, alike))) =
      let (e, g) = sure.once a d s t r p q in
      let texts : w ≡ z = is ∙ (ap after_blanks g ∙ sym as_) in
      (made ∙ (ap (λ k. f k w) e ∙ (ap (λ k. f d k) texts ∙ sym formed)), same ∙ (none ∙ (sym nothing ∙ sym alike)))

-- ---- labels

sure_label : IsSure IsLabel (Lacks IsLabel)
sure_label = sure_word (λ l w. (l ≡ w) × IsShapeName w) (λ a b w x y. x.0 ∙ sym y.0)

sure_worded : IsSure IsWorded (Lacks IsLabel)
sure_worded = sure_to_rest IsLabel (Lacks IsLabel) (λ label rest. record { label = label; text = rest }) sure_label

-- ---- dispatches

sure_ask_under : (label : List ℕ) → IsSure (IsAskUnder label) AskUnderRefused
sure_ask_under label =
    sure_next IsNamePart (Lacks IsNamePart) (IsAskOf label) (λ name. Lacks IsVersionPart) sure_name
    (λ name s u p. sure_to_rest IsVersionPart (Lacks IsVersionPart) (λ version rest. ev.Ask label name version rest) sure_version)

sure_ask : IsSure IsAskPart AskRefused
sure_ask = sure_next IsLabel (Lacks IsLabel) IsAskUnder (λ label. AskUnderRefused) sure_label (λ label s u p. sure_ask_under label)

sure_best : IsSure IsBestPart BestRefused
sure_best =
    sure_next IsLabel (Lacks IsLabel) IsBestUnder (λ label. Lacks IsNamePart) sure_label
    (λ label s u p. sure_to_rest IsNamePart (Lacks IsNamePart) (λ name rest. ev.Best label name rest) sure_name)

-- ---- failures

text_is_good : IsGood text
unfolding IsGood nodes
text_is_good = bare_good 1 text (bare_node 1 text (omega arith) refl (λ v. v) (λ t. t) (λ r. r) refl refl)

pub good_text : IsGood (form_of shp.Text)
good_text = subst IsGood (sym form_of-Text) text_is_good

text_is : (a b : List ℕ) → val.Text a ≡ val.Text b → a ≡ b
text_is a b e = cc

-- a value that fits is one
text_fits : (m : ℕ) (v : Value) → Fits m text v → IsTextValue v
unfolding Fits
text_fits m v (bytes, is, short) = (bytes, is)

pub fitting_text : (m : ℕ) (v : Value) → Fits m (form_of shp.Text) v → IsTextValue v
fitting_text m v fits = text_fits m v (subst (λ f. Fits m f v) form_of-Text fits)

sure_quoted : IsSure IsQuoted QuotedRefused
sure_quoted = record {
  once = λ a b s u v x y. (text_is a b (value_text_once (form_of shp.Text) (val.Text a) (val.Text b) s good_text x.0 y.0), x.1 ∙ sym y.1);
  apart = λ a s u x stands fails.
      refused_none (IsValueTokens (form_of shp.Text)) IsValueFault s fails.0 BadText (val.Text a) fails.1 stands.0;
}

sure_failure : IsSure IsFailurePart FailureRefused
sure_failure =
    sure_next IsLabel (Lacks IsLabel) (λ label. Next IsQuoted (λ bytes. Known (ev.Fail label bytes))) (λ label. QuotedRefused) sure_label
    (λ label s u p. sure_last IsQuoted QuotedRefused (λ bytes. ev.Fail label bytes) sure_quoted)

-- ---- movements and moments

pub all_no_number : (n : ℕ) → n < 2 ^ 64 → codes "all" ≡ decimal n → ⊥
all_no_number n small e =
    let digits : Each (Is is_ascii_digit) (codes "all") = subst (λ ds. Each (Is is_ascii_digit) ds) (sym e) (digits_decimal numerals n small) in
    let first : is_ascii_digit 97 ≡ true = digits.0 in
    absurd cc

pub one_number : (n m : ℕ) (w : List ℕ) → n < 2 ^ 64 → m < 2 ^ 64 → w ≡ decimal n → w ≡ decimal m → n ≡ m
one_number n m w small little x y = decimal_injective n m small little (sym x ∙ y)

one_count : (a b : Option ℕ) (w : List ℕ) → SpellsCount a w → SpellsCount b w → a ≡ b
one_count None None w x y = refl
one_count (Some n) (Some m) w (le, x) (at_most, y) = ap Some (one_number n m w (omega arith) (omega arith) x y)
one_count None (Some m) w x (at_most, y) = absurd (all_no_number m (omega arith) (sym x ∙ y))
one_count (Some n) None w (le, x) y = absurd (all_no_number n (omega arith) (sym y ∙ x))

sure_count : IsSure IsCount (Lacks IsCount)
sure_count = sure_word SpellsCount one_count

sure_piece : IsSure IsPiece (Lacks IsPiece)
sure_piece = sure_word SpellsPiece (λ n m w x y. one_number n m w (below n x.1) (below m y.1) x.2 y.2) where
  below : (n : ℕ) → n ≤ 65536 → n < 2 ^ 64
  below n le = omega arith

sure_by_part : IsSure IsByPart ByPartRefused
sure_by_part =
    sure_next IsBy (Lacks IsBy) (λ b. Last IsPiece) (λ b. LastRefused IsPiece (Lacks IsPiece)) (sure_word (λ b w. w ≡ codes "by") (λ a b w x y. refl))
    (λ b s u p. sure_last_of IsPiece (Lacks IsPiece) sure_piece)

sure_pieces : IsSure ArePieces PiecesRefused
sure_pieces = record { once = once; apart = apart } where
  not_both : (s : List ℕ) → after_blanks s ≡ [] → front_word s ≡ codes "by" → ⊥
  not_both s none is = let e : [] ≡ codes "by" = sym (no_word s none) ∙ is in absurd cc

  once : (a b : ℕ) (s u v : List ℕ) → ArePieces a s u → ArePieces b s v → (a ≡ b) × (u ≡ v)
  once a b s u v (inl x) (inl y) = (x.0 ∙ sym y.0, x.1.1 ∙ sym y.1.1)
  once a b s u v (inr x) (inr y) = sure_by_part.once a b s u v x y
  once a b s u v (inl x) (inr y) = absurd (not_both s x.1.0 y.2.0)
  once a b s u v (inr x) (inl y) = absurd (not_both s y.1.0 x.2.0)

  apart : (a : ℕ) (s u x : List ℕ) → ArePieces a s u → PiecesRefused s x → ⊥
  apart a s u x (inl is) fails = fails.0 u is.1
  apart a s u x (inr is) fails = sure_by_part.apart a s u x is fails.1

sure_movement : IsSure IsMovementPart MovementRefused
sure_movement =
    sure_next IsCount (Lacks IsCount) (λ count. Next ArePieces (λ by. Known (record { count = count; by = by }))) (λ count. PiecesRefused) sure_count
    (λ count s u p. sure_last ArePieces PiecesRefused (λ by. record { count = count; by = by }) sure_pieces)

sure_moment : IsSure IsMoment (Lacks IsMoment)
sure_moment = sure_word SpellsMoment (λ n m w x y. one_number n m w (below n x.0) (below m y.0) x.1 y.1) where
  below : (n : ℕ) → n ≤ 2 ^ 62 - 1 → n < 2 ^ 64
  below n le = omega arith

-- ---- words

abbrev party_back : List ℕ → Option Party
party_back w = cond (bytes_eq w (codes "client")) (Some Client) (cond (bytes_eq w (codes "server")) (Some Server) None)

party_is : (p : Party) → party_back (party_word p) ≡ Some p
party_is Client = refl
party_is Server = refl

sure_party : IsSure IsParty (Lacks IsParty)
sure_party = sure_word (λ p w. w ≡ party_word p) (one_spelled party_word party_back party_is)

abbrev verb_back : List ℕ → Option Verb
verb_back w =
    cond (bytes_eq w (codes "ask")) (Some verb.Ask) (cond (bytes_eq w (codes "best")) (Some verb.Best)
    (cond (bytes_eq w (codes "fail")) (Some verb.Fail) (cond (bytes_eq w (codes "at")) (Some verb.At)
    (cond (bytes_eq w (codes "menu")) (Some (verb.OfLabel of_label.Menu)) (cond (bytes_eq w (codes "abort")) (Some (verb.OfLabel of_label.Abort))
    (cond (bytes_eq w (codes "end")) (Some (verb.OfLabel of_label.End)) (cond (bytes_eq w (codes "show")) (Some (verb.OfLabel of_label.Show))
    (cond (bytes_eq w (codes "reply")) (Some (verb.OfValue of_value.Reply)) (cond (bytes_eq w (codes "begin")) (Some (verb.OfValue of_value.Begin))
    (cond (bytes_eq w (codes "decline")) (Some (verb.OfValue of_value.Decline)) (cond (bytes_eq w (codes "item")) (Some (verb.OfValue of_value.Item))
    (cond (bytes_eq w (codes "up")) (Some (verb.Move way.Up)) (cond (bytes_eq w (codes "down")) (Some (verb.Move way.Down))
    (cond (bytes_eq w (codes "close")) (Some (verb.OfParty of_party.Close)) (cond (bytes_eq w (codes "eof")) (Some (verb.OfParty of_party.Eof))
    None)))))))))))))))

verb_is : (v : Verb) → verb_back (verb_word v) ≡ Some v
verb_is verb.Ask = refl
verb_is verb.Best = refl
verb_is verb.Fail = refl
verb_is verb.At = refl
verb_is (verb.OfLabel of_label.Menu) = refl
verb_is (verb.OfLabel of_label.Abort) = refl
verb_is (verb.OfLabel of_label.End) = refl
verb_is (verb.OfLabel of_label.Show) = refl
verb_is (verb.OfValue of_value.Reply) = refl
verb_is (verb.OfValue of_value.Begin) = refl
verb_is (verb.OfValue of_value.Decline) = refl
verb_is (verb.OfValue of_value.Item) = refl
verb_is (verb.Move way.Up) = refl
verb_is (verb.Move way.Down) = refl
verb_is (verb.OfParty of_party.Close) = refl
verb_is (verb.OfParty of_party.Eof) = refl

sure_verb : IsSure IsVerb (Lacks IsVerb)
sure_verb = sure_word (λ v w. w ≡ verb_word v) (one_spelled verb_word verb_back verb_is)

-- ---- lines

sure_event_of : (v : Verb) → IsSure (IsEventOf v) (EventOfRefused v)
sure_event_of verb.Ask = sure_ask
sure_event_of verb.Best = sure_best
sure_event_of verb.Fail = sure_failure
sure_event_of verb.At =
    sure_last (Last IsMoment) (LastRefused IsMoment (Lacks IsMoment)) (λ now. ev.At now) (sure_last_of IsMoment (Lacks IsMoment) sure_moment)
sure_event_of (verb.OfLabel v) =
    sure_last (Last IsLabel) (LastRefused IsLabel (Lacks IsLabel)) (label_event v) (sure_last_of IsLabel (Lacks IsLabel) sure_label)
sure_event_of (verb.OfValue v) = sure_last IsWorded (Lacks IsLabel) (value_event v) sure_worded
sure_event_of (verb.Move v) = sure_last IsMovementPart MovementRefused (move_event v) sure_movement
sure_event_of (verb.OfParty v) =
    sure_last (Last IsParty) (LastRefused IsParty (Lacks IsParty)) (party_event v) (sure_last_of IsParty (Lacks IsParty) sure_party)

pub sure_event : IsSure IsLineOfEvent EventLineRefused
sure_event = sure_next IsVerb (Lacks IsVerb) IsEventOf EventOfRefused sure_verb (λ v s u p. sure_event_of v)

-- ---- each line is taken to its end

last_ends : {A : Type 0} (P : A → List ℕ → List ℕ → Type 0) (a : A) (s u : List ℕ) → Last P a s u → u ≡ []
last_ends P a s u (b, t, p, (e, w, ended, (known, same))) = same ∙ ended.1

rest_ends : {A B : Type 0} (P : A → List ℕ → List ℕ → Type 0) (f : A → List ℕ → B) (b : B) (s u : List ℕ)
    → Next P (λ a. Next IsRest (λ t. Known (f a t))) b s u → u ≡ []
rest_ends P f b s u (a, t, p, (w, x, (is, none), (known, same))) = same ∙ none

known_ends : {A B : Type 0} (P : A → List ℕ → List ℕ → Type 0) (f : A → B) (b : B) (s u : List ℕ)
    → ((a : A) (t : List ℕ) → P a s t → t ≡ []) → Next P (λ a. Known (f a)) b s u → u ≡ []
known_ends P f b s u ends (a, t, p, (known, same)) = same ∙ ends a t p

pieces_end : (n : ℕ) (s u : List ℕ) → ArePieces n s u → u ≡ []
pieces_end n s u (inl is) = is.1.1
pieces_end n s u (inr (b, t, by, piece)) = last_ends IsPiece n t u piece

event_of_ends : (v : Verb) (e : Event) (s u : List ℕ) → IsEventOf v e s u → u ≡ []
event_of_ends verb.Ask e s u (label, t, p, (name, w, q, ask)) =
    rest_ends IsVersionPart (λ version rest. ev.Ask label name version rest) e w u ask
event_of_ends verb.Best e s u (label, t, p, best) = rest_ends IsNamePart (λ name rest. ev.Best label name rest) e t u best
event_of_ends verb.Fail e s u (label, t, p, (bytes, w, quoted, (known, same))) = same ∙ quoted.1
event_of_ends verb.At e s u is = known_ends (Last IsMoment) (λ now. ev.At now) e s u (λ a t p. last_ends IsMoment a s t p) is
event_of_ends (verb.OfLabel v) e s u is = known_ends (Last IsLabel) (label_event v) e s u (λ a t p. last_ends IsLabel a s t p) is
event_of_ends (verb.OfValue v) e s u is =
    known_ends IsWorded (value_event v) e s u (λ a t p. rest_ends IsLabel (λ label rest. record { label = label; text = rest }) a s t p) is
event_of_ends (verb.Move v) e s u is =
    known_ends IsMovementPart (move_event v) e s u
    (λ m t (count, w, p, (by, x, pieces, (known, same))). same ∙ pieces_end by w x pieces) is
event_of_ends (verb.OfParty v) e s u is = known_ends (Last IsParty) (party_event v) e s u (λ a t p. last_ends IsParty a s t p) is

pub event_ends : (e : Event) (s u : List ℕ) → IsLineOfEvent e s u → u ≡ []
event_ends e s u (v, t, p, is) = event_of_ends v e t u is
