-- Each event of a schedule: the next world, and the answer.
use Rattle.std.specs.Prelude.{◌≡◌, ℕ, ◌^◌, min, max, ℤ, pos, Bool, true, false, not, ◌&&◌, List, [], ◌∷◌, length, Option, Some, None, if◌then◌else◌, nat_le, int_lt}
use Rattle.std.specs.Option.{is_some}
use Rattle.bp_value.specs.declared.value.Value.{Value}
use Rattle.rpc_schema.specs.declared.desc.RpcDesc.{RpcDesc}
use Rattle.rpc_schedule.specs.declared.event.Event.{Event}
use Rattle.rpc_talk.specs.Acts.{Act, Reply, Fail, Begin, Decline, Give, End, Stop, answer_by, is_short, response}
use Rattle.rpc_talk.specs.Parts.{Held, is_stream, is_tracked}
use Rattle.rpc_meeting.specs.Deeds.{Deed, Refuse, Call, Abort, Tell, MoveUp, MoveDown, Tick, CloseClient, CloseServer, Reveal, IsDeedOf}
use Rattle.rpc_meeting.specs.Menus.{last_menu}
use Rattle.rpc_meeting.specs.Talks.{Common, Dispatch, Served, new_id, query_of, is_nil, goes_on_still, is_begun, is_stopped, with_dispatch, with_abort, with_answer, told_stopped, find_query, received, waiting_count}
use Rattle.rpc_meeting.specs.Worlds.{World, is_shut, come, has_header, flying, up_pieces, down_pieces, set_client, set_server, set_now, set_talk, close_side, tick_client, tick_server, first_world}
pub use Rattle.rpc_meeting.specs.Deeds.{Refusal, LabelTaken, NoSuchRpc, NoMenu, NoVersion, BadValue, Closed, NotOpen, TooLong, TooManyOpen, IdsSpent, NoSuchLabel, AlreadyEnded, NotStream, NotBegun, WrongKind, NoSuch, Stopped, AlreadyBegun, find_label}
pub use Rattle.rpc_meeting.specs.declared.answer.StepAnswer.{StepAnswer}
pub use Rattle.rpc_meeting.specs.declared.answer.StepAnswer.TheVariants.{Done, Refused, Shown}

-- ---- answers

pub record Stepped : Type 0 where
  pub world : World
  pub outcome : StepAnswer

abbrev pub refused : World → Refusal → Stepped
refused w why = record { world = w; outcome = Refused why }

abbrev pub done : World → Stepped
done w = record { world = w; outcome = Done }

-- ---- dispatches

abbrev pub new_dispatch : World → List ℕ → RpcDesc → Dispatch
new_dispatch w label d = record { label = label; id = new_id w.talk.made d.kind; desc = d; cut = None }

-- the greatest id that is given
abbrev pub last_id : ℤ
last_id = pos (2 ^ 61)

abbrev pub dispatch : Common → World → Dispatch → Value → Stepped
dispatch r w d v =
    if is_shut w.client then refused w Closed
    else if not (has_header w.got) then refused w NotOpen
    else if not (is_short r.limits.max_message (query_of d v)) then refused w TooLong
    else if is_tracked d.desc.kind && nat_le r.limits.max_open (waiting_count r.limits.max_message (come w) w.talk.made) then refused w TooManyOpen
    else if int_lt last_id d.id then refused w IdsSpent
    else done (set_talk w (with_dispatch w.talk d v))

-- ---- aborts

abbrev pub abort_held : Common → World → Dispatch → Held → Stepped
abort_held r w d h =
    if is_shut w.client then refused w Closed
    else if is_some h.ending then refused w AlreadyEnded
    else if not (is_stream d.desc.kind) then refused w NotStream
    else if is_nil h.parts then refused w NotBegun
    else done (set_talk w (with_abort w.talk d (length h.parts)))

-- ---- acts

-- whether an act comes too late or too early, by whether its stream has begun
abbrev pub wrong_time : Act → Bool → Option Refusal
wrong_time (Reply v) begun = None
wrong_time (Fail text) begun = None
wrong_time (Begin v) begun = if begun then Some AlreadyBegun else None
wrong_time (Decline v) begun = if begun then Some AlreadyBegun else None
wrong_time (Give v) begun = if begun then None else Some NotBegun
wrong_time End begun = if begun then None else Some NotBegun
wrong_time Stop begun = if begun then None else Some NotBegun

-- an end of a stream is never too long
abbrev pub may_be_long : Act → Bool
may_be_long (Reply v) = true
may_be_long (Fail text) = true
may_be_long (Begin v) = true
may_be_long (Decline v) = true
may_be_long (Give v) = true
may_be_long End = false
may_be_long Stop = false

abbrev pub act_open : Common → World → Served → Act → Option Refusal → Stepped
act_open r w q act (Some why) = refused w why
act_open r w q act None =
    if may_be_long act && not (is_short r.limits.max_message (response q.id (answer_by q.desc act))) then refused w TooLong
    else done (set_talk w (with_answer w.talk q act))

abbrev pub act_query : Common → World → Act → Option Served → Stepped
act_query r w act None = refused w NoSuch
act_query r w act (Some q) =
    if goes_on_still q then act_open r w q act (wrong_time act (is_begun q))
    else if is_stopped q then record { world = set_talk w (told_stopped w.talk q.id); outcome = Refused Stopped }
    else refused w NoSuch

abbrev pub act_server : Common → World → ℤ → Act → Stepped
act_server r w id act = if is_shut w.server then refused w Closed else act_query r w act (find_query id w.talk.queries)

-- ---- movements

-- all that are in flight, or so many of them at most
abbrev pub moved_bytes : Option ℕ → ℕ → ℕ
moved_bytes None flight = flight
moved_bytes (Some n) flight = min n flight

abbrev pub move_up : Common → World → Option ℕ → ℕ → World
move_up r w count by = let flight = flying w.talk.ups w.up in up_pieces flight r w (moved_bytes count flight) by

abbrev pub move_down : World → Option ℕ → ℕ → World
move_down w count by = let flight = flying w.talk.downs w.down in down_pieces flight w (moved_bytes count flight) by

-- ---- deeds and events

abbrev pub after_deed : Common → World → Deed → Stepped
after_deed r w (Refuse why) = refused w why
after_deed r w (Call label d v) = dispatch r w (new_dispatch w label d) v
after_deed r w (Abort d) = abort_held r w d (received r.limits.max_message (come w) false d)
after_deed r w (Tell d act) = act_server r w d.id act
after_deed r w (MoveUp count by) = done (move_up r w count by)
after_deed r w (MoveDown count by) = done (move_down w count by)
after_deed r w (Tick moment) = done (tick_server r (tick_client r (set_now w (max w.now moment))))
after_deed r w (CloseClient why) = done (set_client w (close_side w.client why))
after_deed r w (CloseServer why) = done (set_server w (close_side w.server why))
after_deed r w Reveal = record { world = w; outcome = Shown }

-- an event leads to what its deed does
abbrev pub IsStep : Common → World → Event → Stepped → Type 0
IsStep r w e to =
    (deed : Deed) × IsDeedOf r.limits.max_message r.entries w.talk.made (last_menu r.limits.max_message (come w) w.talk.made) e deed
    × (to ≡ after_deed r w deed)

-- the events of a schedule, one after the other, each with its answer, lead from the first world to the last
abbrev pub AreSteps : Common → World → List Event → List StepAnswer → World → Type 0
AreSteps r w [] [] last = last ≡ w
AreSteps r w [] (a ∷ answers) last = ⊥
AreSteps r w (e ∷ later) [] last = ⊥
AreSteps r w (e ∷ later) (a ∷ answers) last = (to : Stepped) × IsStep r w e to × (a ≡ to.outcome) × AreSteps r to.world later answers last

-- some schedule leads to this world
abbrev pub IsReached : Common → World → Type 0
IsReached r w = (events : List Event) × (answers : List StepAnswer) × AreSteps r first_world events answers w
