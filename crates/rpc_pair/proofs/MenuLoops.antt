-- A walk back over dispatches, to the last reply of the menu.
use Rattle.std.proofs.Common.{◌≡◌, refl, sym, ap, ◌∙◌, ℕ, ◌+◌, ◌<◌, Bool, true, false, [], ◌∷◌, ◌++◌, length, take, if◌then◌else◌}
use Rattle.std.specs.Prelude.{Option, Some, None, fold, get_or}
use Rattle.std.proofs.lemmas.List.{take_more}
use Rattle.std.proofs.lemmas.List.Sums.{fold-append}
use Rattle.bp_value.specs.declared.value.Value.{Value}
use Rattle.rpc_talk.specs.Acts.{is_menu}
use Rattle.rpc_meeting.specs.Menus.{reply_or}
use Rattle.rpc_msg.specs.declared.shared.Ending.{Ending}
use Rattle.rpc_msg.specs.declared.shared.Ending.TheVariants as ending
use Rattle.rpc_book.specs.Books.{BookState, Booked, find_booked, held_in}
use Rattle.rpc_pair.specs.Kept.{IsKept}
use Rattle.rpc_pair.specs.Menus.{AnswersMenu, reply_of}
use Rattle.rpc_pair.specs.Standing.{menu_held_or}

-- a reply is what it is, whatever came before
reply_some : (older : Option Value) (o : Option Ending) (v : Value) → reply_or None o ≡ Some v → reply_or older o ≡ Some v
reply_some older None v is = absurd cc
reply_some older (Some (ending.Reply w)) v is = is
reply_some older (Some (ending.Failed e)) v is = absurd cc
reply_some older (Some (ending.BadReply e)) v is = absurd cc
reply_some older (Some (ending.Declined e)) v is = absurd cc
reply_some older (Some ending.Eof) v is = absurd cc
reply_some older (Some ending.Aborted) v is = absurd cc
reply_some older (Some ending.Sent) v is = absurd cc
reply_some older (Some ending.Closed) v is = absurd cc

reply_none : (older : Option Value) (o : Option Ending) → reply_or None o ≡ None → reply_or older o ≡ older
reply_none older None is = refl
reply_none older (Some (ending.Reply w)) is = absurd cc
reply_none older (Some (ending.Failed e)) is = refl
reply_none older (Some (ending.BadReply e)) is = refl
reply_none older (Some (ending.Declined e)) is = refl
reply_none older (Some ending.Eof) is = refl
reply_none older (Some ending.Aborted) is = refl
reply_none older (Some ending.Sent) is = refl
reply_none older (Some ending.Closed) is = refl

module _ (b : BookState) (d : Booked) (found : find_booked d.made.id b.made ≡ Some d) (kept : IsKept d) where
  reply_is : reply_of b (find_booked d.made.id b.made) ≡ reply_or None (held_in b d).ending
  reply_is = ap (reply_of b) found ∙ ap (λ h. if h then None else reply_or None (held_in b d).ending) kept.fresh

  -- the dispatch has the reply
  pub held_some : (older : Option Value) (v : Value) → AnswersMenu b d.made (Some v) → menu_held_or b older d ≡ Some v
  held_some older v answers = by (is_menu d.made.desc.name d.made.desc.version) answers
    where
      by : (m : Bool) → Some v ≡ (if m then reply_of b (find_booked d.made.id b.made) else None) → (if m then reply_or older (held_in b d).ending else older) ≡ Some v
      by true is = reply_some older (held_in b d).ending v (sym reply_is ∙ sym is)
      by false is = absurd cc

  -- or it has none, and that of those before it counts
  pub held_none : (older : Option Value) → AnswersMenu b d.made None → menu_held_or b older d ≡ older
  held_none older answers = by (is_menu d.made.desc.name d.made.desc.version) answers
    where
      by : (m : Bool) → None ≡ (if m then reply_of b (find_booked d.made.id b.made) else None) → (if m then reply_or older (held_in b d).ending else older) ≡ older
      by true is = reply_none older (held_in b d).ending (sym reply_is ∙ sym is)
      by false is = refl

-- one dispatch more
pub fold_more : (b : BookState) (left : ℕ) (d : Booked) → left < length b.made → get_or b.made left d ≡ d
    → fold (menu_held_or b) None (take (left + 1) b.made) ≡ menu_held_or b (fold (menu_held_or b) None (take left b.made)) d
fold_more b left d less at =
    ap (fold (menu_held_or b) None) (take_more b.made left d less ∙ ap (λ x. take left b.made ++ x ∷ []) at) ∙ fold-append (menu_held_or b) None (take left b.made) (d ∷ [])
