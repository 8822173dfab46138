-- What an act of a value and the best version of a name come to.
use Rattle.std.proofs.Common.{◌≡◌, refl, sym, ap, ◌∙◌, subst, ℕ, ℤ, true, false, List, inl, inr}
use Rattle.std.specs.Prelude.{Option, Some, None}
use Rattle.bp_value.specs.declared.value.Value.{Value}
use Rattle.rpc_schema.specs.Choice.{IsChoice, menu_value}
use Rattle.rpc_schema.specs.declared.desc.Listing.{Listing}
use Rattle.rpc_schedule.specs.declared.event.Event.TheVariants as ev
use Rattle.rpc_meeting.specs.Deeds.{Deed, Refuse, Tell, AsksBest, AsksVersion, TellsKind, TellsValue, find_label}
use Rattle.rpc_meeting.specs.Menus.{best_version, called_versions, listings_told}
use Rattle.rpc_meeting.specs.Talks.{Dispatch}
use Rattle.rpc_meeting.specs.declared.answer.Refusal.TheVariants.{BadValue, NoMenu, NoSuchLabel, NoVersion, WrongKind}
use Rattle.rpc_meeting.specs.declared.answer.StepAnswer.{StepAnswer}
use Rattle.rpc_meeting.specs.declared.answer.StepAnswer.TheVariants.{Refused}
use Rattle.rpc_server.specs.Servers.{ServerState}
use Rattle.rpc_pair.specs.Asked.{ServerTells}
use Rattle.rpc_pair.specs.Made.{dispatches_of}
use Rattle.rpc_pair.specs.Pairs.{PairState, AsksLineOf, Comes, IsDeedAt, with_server}
use Rattle.rpc_pair.specs.Standing.{booked_menu}
use Rattle.rpc_pair.specs.Tellings.{is_told_of, act_told, told_event, told_form}
use Rattle.rpc_pair.specs.declared.telling.Telling.{Telling}
use Rattle.rpc_pair.specs.declared.telling.Telling.TheVariants as telling
use Rattle.rpc_pair.proofs.Choices.{choice_best, menu_told}
use Rattle.rpc_pair.proofs.Coming.{comes_as, free_as}

module _ (p : PairState) where
  abbrev m : ℕ
  m = p.book.limits.max_message

  abbrev under : List ℕ → Option Dispatch
  under label = find_label label (dispatches_of p.book)

  -- ---- acts

  told_as : (t : Telling) (label text : List ℕ) (deed : Deed) → TellsValue m (is_told_of t) (told_form t) (act_told t) text (under label) deed → IsDeedAt p (told_event t label text) deed
  told_as telling.Reply label text deed tells = tells
  told_as telling.Begin label text deed tells = tells
  told_as telling.Decline label text deed tells = tells
  told_as telling.Item label text deed tells = tells

  abbrev OfOne : Telling → List ℕ → Option Dispatch → Deed → Type 0
  OfOne t text o deed = TellsValue m (is_told_of t) (told_form t) (act_told t) text o deed

  pub tell_none : (t : Telling) (label text : List ℕ) → under label ≡ None → Comes (IsDeedAt p (told_event t label text)) p (Refused NoSuchLabel) p
  tell_none t label text here =
      (Refuse NoSuchLabel, told_as t label text (Refuse NoSuchLabel) (subst (λ o. OfOne t text o (Refuse NoSuchLabel)) (sym here) refl), (refl, refl))

  pub tell_wrong : (t : Telling) (label text : List ℕ) (d : Dispatch) → under label ≡ Some d → is_told_of t d.desc.kind ≡ false
      → Comes (IsDeedAt p (told_event t label text)) p (Refused WrongKind) p
  tell_wrong t label text d here kind = (
    Refuse WrongKind,
    told_as t label text (Refuse WrongKind) (subst (λ o. OfOne t text o (Refuse WrongKind)) (sym here)
        (subst (λ b. TellsKind m (told_form t d.desc) (act_told t) text d b (Refuse WrongKind)) (sym kind) refl)),
    (refl, refl),
  )

  pub tell_comes : (t : Telling) (label text : List ℕ) (d : Dispatch) (answer : StepAnswer) (new : ServerState) → under label ≡ Some d → is_told_of t d.desc.kind ≡ true
      → ServerTells p.server m d.id (told_form t d.desc) (act_told t) text answer new → Comes (IsDeedAt p (told_event t label text)) p answer (with_server p new)
  tell_comes t label text d answer new here kind (inl (v, (is, fits), does)) =
      let deed = Tell d (act_told t v) in (
        deed,
        told_as t label text deed (subst (λ o. OfOne t text o deed) (sym here)
            (subst (λ b. TellsKind m (told_form t d.desc) (act_told t) text d b deed) (sym kind) (inl (v, is, fits, refl)))),
        (new, does, refl),
      )
  tell_comes t label text d answer new here kind (inr (none, refused, same)) = (
    Refuse BadValue,
    told_as t label text (Refuse BadValue) (subst (λ o. OfOne t text o (Refuse BadValue)) (sym here)
        (subst (λ b. TellsKind m (told_form t d.desc) (act_told t) text d b (Refuse BadValue)) (sym kind) (inr (none, refl)))),
    (refused, ap (with_server p) same),
  )

  -- ---- the best version

  module _ (label name text : List ℕ) (free : under label ≡ None) where
    abbrev Best : Option Value → Deed → Type 0
    Best menu deed = AsksBest m p.server.rules.entries label name text menu deed

    best_as : (menu : Option Value) → booked_menu p.book ≡ menu → (deed : Deed) → Best menu deed → IsDeedAt p (ev.Best label name text) deed
    best_as menu here deed asks = free_as p label (Best (booked_menu p.book) deed) deed free (subst (λ o. Best o deed) (sym here) asks)

    pub best_menu : booked_menu p.book ≡ None → Comes (IsDeedAt p (ev.Best label name text)) p (Refused NoMenu) p
    best_menu here = (Refuse NoMenu, best_as None here (Refuse NoMenu) refl, (refl, refl))

    module _ (ls : List Listing) (here : booked_menu p.book ≡ Some (menu_value ls)) where
      version_as : (o : Option ℤ) → IsChoice (called_versions p.server.rules.entries name) ls name o → (deed : Deed)
          → AsksVersion m p.server.rules.entries label name text o deed → IsDeedAt p (ev.Best label name text) deed
      version_as o choice deed asks =
          let own = called_versions p.server.rules.entries name in
          let chosen : o ≡ best_version own (listings_told (menu_value ls)) name = choice_best own ls name o choice ∙ ap (λ l. best_version own l name) (sym (menu_told ls)) in
          best_as (Some (menu_value ls)) here deed (subst (λ v. AsksVersion m p.server.rules.entries label name text v deed) chosen asks)

      pub best_version_none : IsChoice (called_versions p.server.rules.entries name) ls name None → Comes (IsDeedAt p (ev.Best label name text)) p (Refused NoVersion) p
      best_version_none choice = (Refuse NoVersion, version_as None choice (Refuse NoVersion) refl, (refl, refl))

      pub best_comes : (version : ℤ) (answer : StepAnswer) (new : PairState) → IsChoice (called_versions p.server.rules.entries name) ls name (Some version)
          → Comes (AsksLineOf p label text name version) p answer new → Comes (IsDeedAt p (ev.Best label name text)) p answer new
      best_comes version answer new choice comes =
          comes_as p (IsDeedAt p (ev.Best label name text)) (AsksLineOf p label text name version) answer new (λ deed asks. version_as (Some version) choice deed asks) comes
