-- What a message that comes to a server meets: what is so of the talk, as far as it came, and of what the client got of it.
use Rattle.std.proofs.Common.{◌≡◌, sym, ap, ◌∙◌, subst, ◌-◌, ◌≤◌, List, [], ◌∷◌, ◌++◌, append_assoc, arith}
use Rattle.rpc_msg.specs.declared.message.Message.{Message}
use Rattle.rpc_meeting.specs.Talks.{Common, Talk, heard_up, waiting_count}
use Rattle.rpc_meeting.specs.Worlds.{World, arrived, come, header_size}
use Rattle.rpc_meeting.proofs.Carried.{AreCarried, carried_heard, next_each, IsUp}
use Rattle.rpc_meeting.proofs.Goods.{IsGood, heard_all, unfinished_less}
use Rattle.rpc_meeting.proofs.Heard.{sound_heard}
use Rattle.rpc_meeting.proofs.Lines.{most}
use Rattle.rpc_meeting.proofs.Marks.{AreMarked, marks_heard}
use Rattle.rpc_meeting.proofs.Owners.{IsOk}
use Rattle.rpc_meeting.proofs.Sound.{IsSound}
use Rattle.rpc_meeting.proofs.Whole.{whole_prefix}
use Rattle.readers.specs.Reader.{Each}

-- what is so of every id and message of the talk; no more dispatches are unfinished than may be; what the client got is a front of what goes down
pub record Meets (r : Common) (t : Talk) (came got : List Message) : Type 0 where
  pub sound : IsSound r t came
  pub marks : AreMarked r t came
  pub carried : AreCarried r t
  pub few : waiting_count (most r) got t.made ≤ r.limits.max_open
  pub more : List Message
  pub down : got ++ more ≡ t.downs

-- so it is in every world that a schedule leads to
pub meets_good : (r : Common) (w : World) → IsGood r w → Meets r w.talk (arrived w) (come w)
meets_good r w g =
    let (rest, cut) = whole_prefix w.talk.downs (w.got - header_size) in
    record { sound = g.sound; marks = g.marks; carried = g.carried; few = g.few; more = rest; down = cut }

module _ (r : Common) (t : Talk) (came rest got : List Message) (a : Message) (cut : came ++ a ∷ rest ≡ t.ups) (meets : Meets r t came got) where
  -- what the next message that goes up is
  pub next_up : IsUp r a
  next_up = next_each (IsUp r) came rest a (subst (Each (IsUp r)) (sym cut) meets.carried.ups)

  -- and behind the next message
  pub meets_heard : IsOk r → Meets r (heard_up r t a) (came ++ a ∷ []) got
  meets_heard ok =
      let heard = heard_all r t (a ∷ []) in
      let (added, downs) = heard.downs in
      record {
        sound = sound_heard r ok t came rest meets.sound a cut;
        marks = marks_heard r ok t came rest meets.sound meets.marks a cut;
        carried = carried_heard r t meets.carried a next_up;
        few = subst (λ made. waiting_count (most r) got made ≤ r.limits.max_open) (sym heard.made) meets.few;
        more = meets.more ++ added;
        down = sym (append_assoc got meets.more added) ∙ (ap (λ l. l ++ added) meets.down ∙ sym downs);
      }

  -- what goes up is the same behind it
  pub same_ups : (heard_up r t a).ups ≡ t.ups
  same_ups = (heard_all r t (a ∷ [])).ups

-- and behind the next message that the client got
pub meets_down : (r : Common) (t : Talk) (came got rest : List Message) (a : Message) → Meets r t came got → got ++ a ∷ rest ≡ t.downs → Meets r t came (got ++ a ∷ [])
meets_down r t came got rest a meets cut =
    let less = unfinished_less (most r) got (a ∷ []) t.made in
    record {
      sound = meets.sound;
      marks = meets.marks;
      carried = meets.carried;
      few = omega (arith, less, meets.few);
      more = rest;
      down = append_assoc got (a ∷ []) rest ∙ cut;
    }
