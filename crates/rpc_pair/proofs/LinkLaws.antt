-- An end that stands for a side goes along with it: at the start, at a close, when a message was heard, and at a moment.
use Rattle.std.proofs.Common.{◌≡◌, refl, sym, ap, ◌∙◌, subst, ℕ, ◌+◌, ◌-◌, ◌≤◌, Bool, true, false, ◌&&◌, nat_le, if◌then◌else◌, List, [], ◌∷◌, ◌++◌, map, append_assoc, arith}
use Rattle.std.specs.Prelude.{Option, Some, None, nat_lt}
use Rattle.std.specs.Option.{is_none, is_some, option_map}
use Rattle.std.proofs.lemmas.List.{append-nil}
use Rattle.rpc_frame.specs.Frames.{frame, frames}
use Rattle.rpc_msg.specs.Beats.{beat_of, moment}
use Rattle.rpc_msg.specs.declared.beat.BeatAct.{BeatAct}
use Rattle.rpc_msg.specs.declared.beat.BeatAct.TheVariants as act
use Rattle.rpc_msg.specs.declared.message.Message.{Message}
use Rattle.rpc_msg.specs.declared.message.Message.TheVariants as message
use Rattle.rpc_msg.specs.declared.shared.CloseCause.TheVariants as cause
use Rattle.rpc_end.specs.Ends.{EndState, acted, after_tick, first_end, heard, is_closed, is_link_open, said, shut, shut_by}
use Rattle.rpc_talk.specs.Acts.{body_of}
use Rattle.rpc_meeting.specs.Talks.{Common, Talk, down_beat, up_beat}
use Rattle.rpc_meeting.specs.Worlds.{Reason, Late, Side, World, close_side, first_side, has_header, is_due, is_late, is_shut, sent_at, set_client, set_server, set_talk, tick_client, tick_server}
use Rattle.rpc_pair.specs.Links.{LinkStands, beats, cause_as, ticked_side}
use Rattle.rpc_pair.specs.Stands.{all_said}

-- ---- what goes out

-- what is said is appended, frame by frame
pub all_said_output : (e : EndState) (log : List Message) → (all_said e log).output ≡ e.output ++ frames (map body_of log)
all_said_output e [] = sym (append-nil e.output)
all_said_output e (a ∷ log) = all_said_output (said e a) log ∙ append_assoc e.output (frame (body_of a)) (frames (map body_of log))

-- saying something leaves an end as its side is
pub said_stands : (r : Common) (n : ℕ) (side : Side) (now : ℕ) (e : EndState) (log : List Message) → LinkStands r n side now e → LinkStands r n side now (all_said e log)
said_stands r n side now e [] s = s
said_stands r n side now e (a ∷ log) s = said_stands r n side now (said e a) log (record {
  max = s.max;
  cause = s.cause;
  greeted = s.greeted;
  every = s.every;
  timeout = s.timeout;
  seen = s.seen;
  heard = s.heard;
  sent = s.sent;
})

-- ---- the start

-- a new end stands for a side of the first world
pub first_stands : (r : Common) → LinkStands r 0 first_side 0 (first_end r.limits 0)
first_stands r = record { max = refl; cause = refl; greeted = λ e. refl; every = refl; timeout = refl; seen = omega arith; heard = refl; sent = refl }

module _ (r : Common) (n : ℕ) (side : Side) (now : ℕ) (e : EndState) (s : LinkStands r n side now e) where
  -- it is closed where its side is
  pub closed_same : is_closed e ≡ is_shut side
  closed_same = ap is_some s.cause ∙ by side.cause
    where
      by : (o : Option Reason) → is_some (option_map cause_as o) ≡ is_some o
      by None = refl
      by (Some why) = refl

  -- ---- a later moment

  -- so does a later moment
  pub later_stands : (at : ℕ) → now ≤ at → LinkStands r n side at e
  later_stands at le = record {
    max = s.max;
    cause = s.cause;
    greeted = s.greeted;
    every = s.every;
    timeout = s.timeout;
    seen = omega (arith, le, s.seen);
    heard = s.heard;
    sent = s.sent;
  }

  -- ---- a close

  -- it closes with its side, once, for the same cause
  pub shut_stands : (why : Reason) → LinkStands r n (close_side side why) now (shut e (cause_as why))
  shut_stands why = by side.cause refl
    where
      closed : is_shut side ≡ false → LinkStands r n (record { cause = Some why; heard = side.heard; sent = side.sent }) now (shut_by e (cause_as why) None)
      closed opened = record {
        max = s.max;
        cause = refl;
        greeted = λ never. absurd cc;
        every = s.every;
        timeout = s.timeout;
        seen = s.seen;
        heard = s.heard;
        sent = s.sent;
      }

      by : (o : Option Reason) → side.cause ≡ o → LinkStands r n (close_side side why) now (shut e (cause_as why))
      by None is =
          subst (λ b. LinkStands r n (if b then side else record { cause = Some why; heard = side.heard; sent = side.sent }) now (shut e (cause_as why))) (sym (ap is_some is))
          (subst (λ o. LinkStands r n (record { cause = Some why; heard = side.heard; sent = side.sent }) now (shut_by e (cause_as why) o))
          (sym (s.cause ∙ ap (option_map cause_as) is)) (closed (ap is_some is)))
      by (Some old) is =
          subst (λ b. LinkStands r n (if b then side else record { cause = Some why; heard = side.heard; sent = side.sent }) now (shut e (cause_as why))) (sym (ap is_some is))
          (subst (λ o. LinkStands r n side now (shut_by e (cause_as why) o)) (sym (s.cause ∙ ap (option_map cause_as) is)) s)

  -- ---- a message was heard, or the header

  -- the greatest moment that it has seen is now
  pub moment_now : moment e.beat now ≡ now
  moment_now = omega (arith, s.seen)

  -- a frame was heard now, behind which the header has come
  pub heard_stands : (more : ℕ) → has_header (n + more) ≡ true → LinkStands r (n + more) (record { cause = side.cause; heard = now; sent = side.sent }) now (heard e now)
  heard_stands more header = record {
    max = s.max;
    cause = s.cause;
    greeted = λ opened. sym header;
    every = s.every;
    timeout = s.timeout;
    seen = omega (arith, moment_now);
    heard = moment_now;
    sent = s.sent;
  }

  -- ---- a moment

  opened_same : is_shut side ≡ false → is_link_open e ≡ has_header n
  opened_same opened = ap (λ b. b && is_none e.cause) (s.greeted opened) ∙ (ap (λ o. has_header n && is_none o) (s.cause ∙ ap (option_map cause_as) (none side.cause opened)) ∙ and_true (has_header n))
    where
      none : (o : Option Reason) → is_some o ≡ false → o ≡ None
      none None e = refl
      none (Some why) e = absurd cc

      and_true : (b : Bool) → (b && true) ≡ b
      and_true true = refl
      and_true false = refl

  -- the end finds out what its side does
  late_same : nat_lt e.beat.timeout (moment e.beat now - e.beat.heard) ≡ is_late r now side
  late_same =
      ap (λ k. nat_lt k (moment e.beat now - e.beat.heard)) s.timeout
      ∙ (ap (λ k. nat_lt r.limits.beat_timeout (k - e.beat.heard)) moment_now ∙ ap (λ k. nat_lt r.limits.beat_timeout (now - k)) s.heard)

  due_same : nat_le e.beat.every (moment e.beat now - e.beat.sent) ≡ is_due r now side
  due_same =
      ap (λ k. nat_le k (moment e.beat now - e.beat.sent)) s.every
      ∙ (ap (λ k. nat_le r.limits.beat_every (k - e.beat.sent)) moment_now ∙ ap (λ k. nat_le r.limits.beat_every (now - k)) s.sent)

  abbrev act_by : Bool → Bool → BeatAct
  act_by late due = if late then act.Late e.beat.heard (moment e.beat now) else if due then act.Send else act.Quiet

  beat_same : is_shut side ≡ false → beat_of e.beat now (is_link_open e) ≡ act_by (is_late r now side) (has_header n && is_due r now side)
  beat_same opened =
      ap (λ b. act_by b (is_link_open e && nat_le e.beat.every (moment e.beat now - e.beat.sent))) late_same
      ∙ (ap (λ b. act_by (is_late r now side) (b && nat_le e.beat.every (moment e.beat now - e.beat.sent))) (opened_same opened)
      ∙ ap (λ b. act_by (is_late r now side) (has_header n && b)) due_same)

  abbrev side_by : Bool → Bool → Side
  side_by late due = if late then close_side side (Late side.heard now) else if due then sent_at side now else side

  abbrev beats_by : Bool → Bool → List Message
  beats_by late due = if late then [] else if due then message.Heartbeat ∷ [] else []

  abbrev IsTicked : Side → List Message → EndState → Type 0
  IsTicked new log link = LinkStands r n new now link × (link.output ≡ e.output ++ frames (map body_of log))

  ticked_open : is_shut side ≡ false → (late due : Bool) → IsTicked (side_by late due) (beats_by late due) (acted e now (act_by late due))
  ticked_open opened false false = (
    record {
      max = s.max;
      cause = s.cause;
      greeted = s.greeted;
      every = s.every;
      timeout = s.timeout;
      seen = omega (arith, moment_now);
      heard = s.heard;
      sent = s.sent;
    },
    sym (append-nil e.output),
  )
  ticked_open opened false true = (
    record {
      max = s.max;
      cause = s.cause;
      greeted = s.greeted;
      every = s.every;
      timeout = s.timeout;
      seen = omega (arith, moment_now);
      heard = s.heard;
      sent = moment_now;
    },
    ap (λ x. e.output ++ x) (sym (append-nil (frame (body_of message.Heartbeat)))),
  )
  ticked_open opened true due =
      subst (λ b. IsTicked (if b then side else record { cause = Some (Late side.heard now); heard = side.heard; sent = side.sent }) [] (acted e now (act.Late e.beat.heard (moment e.beat now))))
      (sym opened) (
        record {
          max = s.max;
          cause = ap (λ k. Some (cause.Late k (moment e.beat now))) s.heard ∙ ap (λ k. Some (cause.Late side.heard k)) moment_now;
          greeted = λ never. absurd cc;
          every = s.every;
          timeout = s.timeout;
          seen = omega (arith, moment_now);
          heard = s.heard;
          sent = s.sent;
        },
        sym (append-nil e.output),
      )

  -- It closes, or a heartbeat goes out, just where that is so of its side.
  pub tick_stands : IsTicked (ticked_side r n now side) (beats r n now side) (after_tick e now)
  tick_stands = by (is_shut side) refl
    where
      by : (b : Bool) → is_shut side ≡ b → IsTicked (ticked_side r n now side) (beats r n now side) (after_tick e now)
      by true shut_now =
          subst (λ b. IsTicked (if b then side else side_by (is_late r now side) (has_header n && is_due r now side)) (if b then [] else beats_by (is_late r now side) (has_header n && is_due r now side))
          (after_tick e now)) (sym shut_now)
          (subst (λ b. IsTicked side [] (if b then e else acted e now (beat_of e.beat now (is_link_open e)))) (sym (closed_same ∙ shut_now)) (s, sym (append-nil e.output)))
      by false opened =
          subst (λ b. IsTicked (if b then side else side_by (is_late r now side) (has_header n && is_due r now side)) (if b then [] else beats_by (is_late r now side) (has_header n && is_due r now side))
          (after_tick e now)) (sym opened)
          (subst (λ b. IsTicked (side_by (is_late r now side) (has_header n && is_due r now side)) (beats_by (is_late r now side) (has_header n && is_due r now side))
          (if b then e else acted e now (beat_of e.beat now (is_link_open e)))) (sym (closed_same ∙ opened))
          (subst (λ a. IsTicked (side_by (is_late r now side) (has_header n && is_due r now side)) (beats_by (is_late r now side) (has_header n && is_due r now side)) (acted e now a))
          (sym (beat_same opened)) (ticked_open opened (is_late r now side) (has_header n && is_due r now side))))

-- ---- the world's moments

-- more goes up, and down
abbrev pub with_ups : Talk → List Message → Talk
with_ups t more = record { ups = t.ups ++ more; downs = t.downs; made = t.made; queries = t.queries }

abbrev pub with_downs : Talk → List Message → Talk
with_downs t more = record { ups = t.ups; downs = t.downs ++ more; made = t.made; queries = t.queries }

module _ (r : Common) (w : World) where
  none_up : with_ups w.talk [] ≡ w.talk
  none_up = ap (λ l. record { ups = l; downs = w.talk.downs; made = w.talk.made; queries = w.talk.queries }) (append-nil w.talk.ups)

  -- a moment of the client is that of its side
  pub client_ticked : tick_client r w ≡ set_talk (set_client w (ticked_side r w.got w.now w.client)) (with_ups w.talk (beats r w.got w.now w.client))
  client_ticked = by (is_shut w.client) (is_late r w.now w.client) (has_header w.got && is_due r w.now w.client)
    where
      by : (a b c : Bool)
          → (if a then w else if b then set_client w (close_side w.client (Late w.client.heard w.now)) else if c then set_talk (set_client w (sent_at w.client w.now)) (up_beat w.talk) else w)
          ≡ set_talk
          (set_client w (if a then w.client else if b then close_side w.client (Late w.client.heard w.now) else if c then sent_at w.client w.now else w.client))
          (with_ups w.talk (if a then [] else if b then [] else if c then message.Heartbeat ∷ [] else []))
      by true b c = ap (set_talk w) (sym none_up)
      by false true c = ap (set_talk (set_client w (close_side w.client (Late w.client.heard w.now)))) (sym none_up)
      by false false true = refl
      by false false false = ap (set_talk w) (sym none_up)

  none_down : with_downs w.talk [] ≡ w.talk
  none_down = ap (λ l. record { ups = w.talk.ups; downs = l; made = w.talk.made; queries = w.talk.queries }) (append-nil w.talk.downs)

  -- and one of the server
  pub server_ticked : tick_server r w ≡ set_talk (set_server w (ticked_side r w.up w.now w.server)) (with_downs w.talk (beats r w.up w.now w.server))
  server_ticked = by (is_shut w.server) (is_late r w.now w.server) (has_header w.up && is_due r w.now w.server)
    where
      by : (a b c : Bool)
          → (if a then w else if b then set_server w (close_side w.server (Late w.server.heard w.now)) else if c then set_talk (set_server w (sent_at w.server w.now)) (down_beat w.talk) else w)
          ≡ set_talk
          (set_server w (if a then w.server else if b then close_side w.server (Late w.server.heard w.now) else if c then sent_at w.server w.now else w.server))
          (with_downs w.talk (if a then [] else if b then [] else if c then message.Heartbeat ∷ [] else []))
      by true b c = ap (set_talk w) (sym none_down)
      by false true c = ap (set_talk (set_server w (close_side w.server (Late w.server.heard w.now)))) (sym none_down)
      by false false true = refl
      by false false false = ap (set_talk w) (sym none_down)
