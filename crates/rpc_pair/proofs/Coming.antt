-- What an event comes to, by what was found and read.
use Rattle.std.proofs.Common.{◌≡◌, refl, sym, ap, subst, ℕ, ℤ, true, false, List, inl, inr}
use Rattle.std.specs.Prelude.{Option, Some, None, Result, Ok, Err, IfOk, MatchOption}
use Rattle.std.specs.Option.{is_some}
use Rattle.bp_value.specs.Form.{form_of}
use Rattle.bp_value.specs.declared.value.Value.TheVariants as val
use Rattle.rpc_schema.specs.Choice.{menu_description}
use Rattle.rpc_schema.specs.declared.desc.Entry.{Entry}
use Rattle.rpc_schema.specs.declared.desc.RpcDesc.{RpcDesc}
use Rattle.rpc_schedule.specs.declared.event.Event.TheVariants as ev
use Rattle.rpc_meeting.specs.Deeds.{Deed, Refuse, Call, Reveal, AsText, AsksEntry, AsksLine, UnlessTaken, find_label, menu_deed, show_deed}
use Rattle.rpc_meeting.specs.Menus.{is_called}
use Rattle.rpc_meeting.specs.Talks.{Dispatch, line_named}
use Rattle.rpc_meeting.specs.declared.answer.Refusal.TheVariants.{BadValue, LabelTaken, NoSuchLabel, NoSuchRpc}
use Rattle.rpc_meeting.specs.declared.answer.StepAnswer.{StepAnswer}
use Rattle.rpc_meeting.specs.declared.answer.StepAnswer.TheVariants.{Refused, Shown}
use Rattle.rpc_book.specs.Books.{BookState}
use Rattle.rpc_book.specs.Calls.{IsBooked}
use Rattle.rpc_pair.specs.Asked.{BookAsks}
use Rattle.rpc_pair.specs.Callers.{dispatched_as}
use Rattle.rpc_pair.specs.Made.{dispatches_of}
use Rattle.rpc_pair.specs.Pairs.{PairState, Answers, AsksLineOf, Comes, IsDeedAt, with_book}

-- where a call went well, what it says is so turned
pub ok_comes : {A E : Type 0} {P Q : A → Type 0} (result : Result A E) → ((a : A) → P a → Q a) → IfOk result P → IfOk result Q
ok_comes (Ok a) turns did = turns a did
ok_comes (Err e) turns did = tt

-- what was seen was found
pub seen_some : {A : Type 0} (found : Option Dispatch) (o : Option A) (seen : A → Dispatch) → is_some o ≡ true → MatchOption o (found ≡ None) (λ a. found ≡ Some (seen a))
    → (d : Dispatch) × (found ≡ Some d)
seen_some found (Some a) seen some is = (seen a, is)
seen_some found None seen some is = absurd cc

-- and what was not seen was not
pub seen_none : {A : Type 0} (found : Option Dispatch) (o : Option A) (seen : A → Dispatch) → is_some o ≡ false → MatchOption o (found ≡ None) (λ a. found ≡ Some (seen a)) → found ≡ None
seen_none found (Some a) seen none is = absurd cc
seen_none found None seen none is = is

module _ (p : PairState) where
  -- a deed of one kind is one of another
  pub comes_as : (Is Was : Deed → Type 0) (answer : StepAnswer) (new : PairState) → ((deed : Deed) → Was deed → Is deed) → Comes Was p answer new → Comes Is p answer new
  comes_as Is Was answer new turns (deed, was, does) = (deed, turns deed was, does)

  -- ---- a dispatch

  -- by the text of its query
  pub text_comes : (label : List ℕ) (d : RpcDesc) (text : List ℕ) (answer : StepAnswer) (new : BookState)
      → BookAsks p.book p.book.limits.max_message label d text answer new
      → Comes (AsText p.book.limits.max_message (form_of d.query) text (Call label d)) p answer (with_book p new)
  text_comes label d text answer new (inl (v, (is, fits), does)) = (Call label d v, inl (v, is, fits, refl), (new, does, refl))
  text_comes label d text answer new (inr (none, refused, same)) = (Refuse BadValue, inr (none, refl), (refused, ap (with_book p) same))

  module _ (label text name : List ℕ) (version : ℤ) where
    abbrev line : Option Entry
    line = line_named p.server.rules.entries name version

    entry_as : (o : Option Entry) → line ≡ o → (deed : Deed) → AsksEntry p.book.limits.max_message label text o deed → AsksLineOf p label text name version deed
    entry_as o here deed asks = subst (λ x. AsksEntry p.book.limits.max_message label text x deed) (sym here) asks

    -- no line has the name and the version
    pub none_comes : line ≡ None → Comes (AsksLineOf p label text name version) p (Refused NoSuchRpc) p
    none_comes here = (Refuse NoSuchRpc, entry_as None here (Refuse NoSuchRpc) refl, (refl, refl))

    -- the client has not got it
    pub other_comes : (e : Entry) → line ≡ Some e → is_called e.side ≡ false → Comes (AsksLineOf p label text name version) p (Refused NoSuchRpc) p
    other_comes e here called = (
      Refuse NoSuchRpc,
      entry_as (Some e) here (Refuse NoSuchRpc) (subst (λ b. AsksLine p.book.limits.max_message label text e.desc b (Refuse NoSuchRpc)) (sym called) refl),
      (refl, refl),
    )

    -- it has
    pub line_comes : (e : Entry) (answer : StepAnswer) (new : BookState) → line ≡ Some e → is_called e.side ≡ true
        → BookAsks p.book p.book.limits.max_message label e.desc text answer new → Comes (AsksLineOf p label text name version) p answer (with_book p new)
    line_comes e answer new here called asks =
        comes_as (AsksLineOf p label text name version) (AsText p.book.limits.max_message (form_of e.desc.query) text (Call label e.desc)) answer (with_book p new)
        (λ deed as_text. entry_as (Some e) here deed (subst (λ b. AsksLine p.book.limits.max_message label text e.desc b deed) (sym called) as_text))
        (text_comes label e.desc text answer new asks)

  -- ---- labels

  abbrev under : List ℕ → Option Dispatch
  under label = find_label label (dispatches_of p.book)

  taken_as : (label : List ℕ) (Free : Type 0) (d : Dispatch) → under label ≡ Some d → UnlessTaken (under label) Free (Refuse LabelTaken)
  taken_as label Free d here = subst (λ o. UnlessTaken o Free (Refuse LabelTaken)) (sym here) refl

  pub free_as : (label : List ℕ) (Free : Type 0) (deed : Deed) → under label ≡ None → Free → UnlessTaken (under label) Free deed
  free_as label Free deed here free = subst (λ o. UnlessTaken o Free deed) (sym here) free

  pub ask_taken : (label name : List ℕ) (version : ℤ) (text : List ℕ) (d : Dispatch) → under label ≡ Some d
      → Comes (IsDeedAt p (ev.Ask label name version text)) p (Refused LabelTaken) p
  ask_taken label name version text d here = (Refuse LabelTaken, taken_as label _ d here, (refl, refl))

  pub ask_free : (label name : List ℕ) (version : ℤ) (text : List ℕ) (answer : StepAnswer) (new : PairState) → under label ≡ None
      → Comes (AsksLineOf p label text name version) p answer new → Comes (IsDeedAt p (ev.Ask label name version text)) p answer new
  ask_free label name version text answer new here comes =
      comes_as (IsDeedAt p (ev.Ask label name version text)) (AsksLineOf p label text name version) answer new
      (λ deed asks. free_as label (AsksLineOf p label text name version deed) deed here asks) comes

  pub best_taken : (label name text : List ℕ) (d : Dispatch) → under label ≡ Some d → Comes (IsDeedAt p (ev.Best label name text)) p (Refused LabelTaken) p
  best_taken label name text d here = (Refuse LabelTaken, taken_as label _ d here, (refl, refl))

  -- ---- the menu

  pub menu_taken : (label : List ℕ) (d : Dispatch) → under label ≡ Some d → Comes (IsDeedAt p (ev.Menu label)) p (Refused LabelTaken) p
  menu_taken label d here = (Refuse LabelTaken, ap (menu_deed label) (sym here), (refl, refl))

  pub menu_free : (label : List ℕ) (answer : StepAnswer) (new : BookState) → under label ≡ None
      → Answers (IsBooked p.book label menu_description val.Unit) dispatched_as answer new → Comes (IsDeedAt p (ev.Menu label)) p answer (with_book p new)
  menu_free label answer new here did = (Call label menu_description val.Unit, ap (menu_deed label) (sym here), (new, did, refl))

  -- ---- what is shown

  pub show_some : (label : List ℕ) (d : Dispatch) → under label ≡ Some d → Comes (IsDeedAt p (ev.Show label)) p Shown p
  show_some label d here = (Reveal, ap show_deed (sym here), (refl, refl))

  pub show_none : (label : List ℕ) → under label ≡ None → Comes (IsDeedAt p (ev.Show label)) p (Refused NoSuchLabel) p
  show_none label here = (Refuse NoSuchLabel, ap show_deed (sym here), (refl, refl))
