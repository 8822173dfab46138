-- A moment, a close and output that is taken change nothing of what an end took, and a server that stood for a talk stands for it still.
use Rattle.std.proofs.Common.{ℕ, Bool, true, false, if◌then◌else◌, List}
use Rattle.std.specs.Prelude.{Option, Some, None}
use Rattle.rpc_msg.specs.Beats.{BeatState, after_beat, beat_of}
use Rattle.rpc_msg.specs.declared.beat.BeatAct.{BeatAct}
use Rattle.rpc_msg.specs.declared.beat.BeatAct.TheVariants as act
use Rattle.rpc_msg.specs.declared.message.Message.{Message}
use Rattle.rpc_msg.specs.declared.shared.CloseCause.{CloseCause}
use Rattle.rpc_end.specs.Ends.{EndState, after_act, after_tick, is_closed, is_link_open, shut, shut_by, taken_out, with_beat}
use Rattle.rpc_end.specs.Taken.{HasTaken}
use Rattle.rpc_meeting.specs.Talks.{Common, Talk}
use Rattle.rpc_server.specs.Servers.{ServerState, with_end}
use Rattle.rpc_meeting.specs.Worlds.{Side}
use Rattle.rpc_pair.specs.Links.{LinkStands}
use Rattle.rpc_pair.specs.Stands.{ServerStands}

module _ (e : EndState) (given : List ℕ) (bs : List (List ℕ)) (came : List Message) (took : HasTaken e given bs came) where
  acted_taken : (beat : BeatState) (what : BeatAct) → HasTaken (after_act (with_beat e beat) what) given bs came
  acted_taken beat act.Quiet = record { bodies_are = took.bodies_are; place = took.place; start = took.start; greeted = took.greeted; read = took.read }
  acted_taken beat act.Send = record { bodies_are = took.bodies_are; place = took.place; start = took.start; greeted = took.greeted; read = took.read }
  acted_taken beat (act.Late last now) = record { bodies_are = took.bodies_are; place = took.place; start = took.start; greeted = took.greeted; read = took.read }

  -- a moment
  pub tick_taken : (now : ℕ) → HasTaken (after_tick e now) given bs came
  tick_taken now = by (is_closed e) (beat_of e.beat now (is_link_open e))
    where
      by : (b : Bool) (what : BeatAct) → HasTaken (if b then e else after_act (with_beat e (after_beat e.beat now what)) what) given bs came
      by true what = took
      by false what = acted_taken (after_beat e.beat now what) what

  -- a close
  pub shut_taken : (why : CloseCause) → HasTaken (shut e why) given bs came
  shut_taken why = by e.cause
    where
      by : (o : Option CloseCause) → HasTaken (shut_by e why o) given bs came
      by (Some old) = took
      by None = record { bodies_are = took.bodies_are; place = took.place; start = took.start; greeted = took.greeted; read = took.read }

  -- and output that is taken
  pub out_taken : (count : ℕ) → HasTaken (taken_out e count) given bs came
  out_taken count = record { bodies_are = took.bodies_are; place = took.place; start = took.start; greeted = took.greeted; read = took.read }

-- an end whose output is taken stands for its side as before
pub out_stands : (r : Common) (n : ℕ) (side : Side) (now : ℕ) (e : EndState) (count : ℕ) → LinkStands r n side now e → LinkStands r n side now (taken_out e count)
out_stands r n side now e count s = record {
  max = s.max;
  cause = s.cause;
  greeted = s.greeted;
  every = s.every;
  timeout = s.timeout;
  seen = s.seen;
  heard = s.heard;
  sent = s.sent;
}

-- a server of another link
pub link_stands : (r : Common) (s : ServerState) (t : Talk) (e : EndState) → ServerStands r s t → ServerStands r (with_end s e) t
link_stands r s t e stands = record { rules = stands.rules; table = stands.table; count = stands.count }
