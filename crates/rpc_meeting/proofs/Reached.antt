-- Every world that a schedule leads to is good, and it is the only one, with the only answers.
use Rattle.std.proofs.Common.{◌≡◌, refl, sym, ap, ◌∙◌, subst, max, List, [], ◌∷◌, arith}
use Rattle.rpc_schema.specs.Entries.{AreEntries}
use Rattle.rpc_schedule.specs.declared.event.Event.{Event}
use Rattle.rpc_meeting.specs.Deeds.{Deed, Refuse, Call, Abort, Tell, MoveUp, MoveDown, Tick, CloseClient, CloseServer, Reveal}
use Rattle.rpc_meeting.specs.Menus.{last_menu}
use Rattle.rpc_meeting.specs.Steps.{AreSteps, IsReached, IsStep, StepAnswer, Stepped, after_deed, new_dispatch}
use Rattle.rpc_meeting.specs.Talks.{Common}
use Rattle.rpc_meeting.specs.Worlds.{World, come, first_world}
use Rattle.rpc_meeting.proofs.Acting.{good_server}
use Rattle.rpc_meeting.proofs.Asking.{found_known, good_abort, good_dispatch, own}
use Rattle.rpc_meeting.proofs.Deeds.{IsFounded, deed_known}
use Rattle.rpc_meeting.proofs.Goods.{IsGood}
use Rattle.rpc_meeting.proofs.Lines.{most}
use Rattle.rpc_meeting.proofs.Look.{no_some}
use Rattle.rpc_meeting.proofs.Moves.{good_close_client, good_close_server, good_move_down, good_move_up, good_tick}
use Rattle.rpc_meeting.proofs.OneDeed.{deed_once}
use Rattle.rpc_meeting.proofs.Owners.{IsOk}

pub first_good : (r : Common) → IsGood r first_world
first_good r = record {
  sound = record { lines = λ id. (refl, refl, refl); own = tt; numbered = tt; apart = tt };
  marks = λ id q here. absurd (no_some q here);
  carried = record { ups = tt; downs = tt };
  few = omega arith;
  up = omega arith;
  down = omega arith;
  got = omega arith;
  taken = λ e. refl;
  journal = omega arith;
}

-- ---- deeds and events

module _ (r : Common) (ok : IsOk r) where
  pub good_deed : (w : World) → IsGood r w → (deed : Deed) → IsFounded r w.talk.made deed → IsGood r (after_deed r w deed).world
  good_deed w g (Refuse why) known = g
  good_deed w g (Call label d v) (known, fits) = good_dispatch r ok w g (new_dispatch w label d) v known refl refl fits
  good_deed w g (Abort d) (label, here) = good_abort r ok w g label d here
  good_deed w g (Tell d act) ((label, here), suit, given, handles) = good_server r ok w g d (own r ok w g label d here) act suit given handles
  good_deed w g (MoveUp count by) known = good_move_up r w ok g count by
  good_deed w g (MoveDown count by) known = good_move_down r w ok g count by
  good_deed w g (Tick moment) known = good_tick r w g (max w.now moment)
  good_deed w g (CloseClient why) known = good_close_client r w g why
  good_deed w g (CloseServer why) known = good_close_server r w g why
  good_deed w g Reveal known = g

  pub good_step : (w : World) (e : Event) (to : Stepped) → IsGood r w → IsStep r w e to → IsGood r to.world
  good_step w e to g (deed, comes, is) =
      subst (λ (s : Stepped). IsGood r s.world) (sym is)
      (good_deed w g deed (deed_known r w.talk.made (last_menu (most r) (come w) w.talk.made) e deed comes))

  pub good_steps : (w last : World) (events : List Event) (answers : List StepAnswer) → IsGood r w → AreSteps r w events answers last → IsGood r last
  good_steps w last [] [] g is = subst (IsGood r) (sym is) g
  good_steps w last [] (a ∷ answers) g is = absurd is
  good_steps w last (e ∷ later) [] g is = absurd is
  good_steps w last (e ∷ later) (a ∷ answers) g (to, step, answer, steps) = good_steps to.world last later answers (good_step w e to g step) steps

pub good : (r : Common) (w : World) → IsOk r → IsReached r w → IsGood r w
good r w ok (events, answers, steps) = good_steps r ok first_world w events answers (first_good r) steps

-- ---- one answer, and one world

module _ (r : Common) (ok : IsOk r) (entries : AreEntries r.entries) where
  pub step_once : (w : World) (e : Event) (a b : Stepped) → IsGood r w → IsStep r w e a → IsStep r w e b → a ≡ b
  step_once w e a b g (x, x_comes, a_is) (y, y_comes, b_is) =
      a_is
      ∙ (ap (after_deed r w) (deed_once r entries w.talk.made (last_menu (most r) (come w) w.talk.made) (λ label d here. found_known r ok w g label d here) e x y x_comes y_comes)
      ∙ sym b_is)

  pub steps_once : (w x y : World) (events : List Event) (xs ys : List StepAnswer) → IsGood r w → AreSteps r w events xs x → AreSteps r w events ys y
      → (xs ≡ ys) × (x ≡ y)
  steps_once w x y [] [] [] g x_is y_is = (refl, x_is ∙ sym y_is)
  steps_once w x y [] [] (b ∷ ys) g x_is y_is = absurd y_is
  steps_once w x y [] (a ∷ xs) ys g x_is y_is = absurd x_is
  steps_once w x y (e ∷ later) [] ys g x_is y_is = absurd x_is
  steps_once w x y (e ∷ later) (a ∷ xs) [] g x_is y_is = absurd y_is
  steps_once w x y (e ∷ later) (a ∷ xs) (b ∷ ys) g (s, s_step, a_is, s_later) (t, t_step, b_is, t_later) =
      let same : s ≡ t = step_once w e s t g s_step t_step in
      let (rest, last) = steps_once s.world x y later xs ys (good_step r ok w e s g s_step) s_later
      (subst (λ (z : Stepped). AreSteps r z.world later ys y) (sym same) t_later) in
      (ap (λ z. z ∷ xs) (a_is ∙ (ap (λ (z : Stepped). z.outcome) same ∙ sym b_is)) ∙ ap (λ zs. b ∷ zs) rest, last)
