-- What a replay reports, and what it leaves on its wires.
use Rattle.std.specs.Prelude.{◌≡◌, ℕ, List, [], map, take, Option, Some}
use Rattle.rpc_msg.specs.Limits.{usual_limits}
use Rattle.rpc_schedule.specs.declared.event.Lined.{Lined}
use Rattle.rpc_schedule.specs.declared.schedule.Schedule.{Schedule}
use Rattle.rpc_meeting.specs.declared.answer.StepAnswer.{StepAnswer}
use Rattle.rpc_meeting.specs.Steps.{IsStep}
use Rattle.rpc_meeting.specs.Talks.{Common}
use Rattle.rpc_meeting.specs.Worlds.{World, first_world, stream_of}
use Rattle.rpc_pair.specs.Pairs.{PairState}
use Rattle.rpc_pair.specs.Played.{IsPlayed, Turn}
use Rattle.rpc_pair.specs.Rules.{IsOfSchema}
use Rattle.rpc_pair.specs.Runs.{Leads}
use Rattle.rpc_pair.specs.Seen.{RunShows}
use Rattle.rpc_pair.specs.Sights.{pair_sight, world_sight}
use Rattle.rpc_tool.specs.Reports.{Told, report_text}

-- ---- wires

-- nothing was put to the wires or given by them, and they tell it
pub record AreFresh (up_sent up_given down_sent down_given : Option (List ℕ)) : Type 0 where
  pub up_put : up_sent ≡ Some []
  pub up_given_none : up_given ≡ Some []
  pub down_put : down_sent ≡ Some []
  pub down_given_none : down_given ≡ Some []

-- the same of two wires, by what they tell
abbrev pub FreshOver : {W : Type 0} → (W → Option (List ℕ)) → (W → Option (List ℕ)) → W → W → Type 0
FreshOver sent given up down = AreFresh (sent up) (given up) (sent down) (given down)

-- and they are honest
pub record HonestOver {W : Type 0} (is_honest : W → Type 0) (sent given : W → Option (List ℕ)) (up down : W) : Type 0 where
  pub up_honest : is_honest up
  pub down_honest : is_honest down
  pub fresh : FreshOver sent given up down

-- ---- over any wires

abbrev pub told_turn : Turn → Told
told_turn t = record { lined = t.lined; answer = t.answer; sight = pair_sight t.behind }

-- Both ends played the schedule over what the wires told, whatever that was, and the report tells their turns and what is seen of them
-- at the end: of each dispatch what the bytes that came down hold for it, and of each end the fault of the bytes that came to it.
pub record IsReported (s : Schedule) (report : List ℕ) (up_sent up_given down_sent down_given : Option (List ℕ)) : Type 0 where
  pub turns : List Turn
  pub last : PairState
  pub played : IsPlayed s.schema usual_limits s.events turns last up_sent up_given down_sent down_given
  pub shows : RunShows usual_limits turns last
  pub text : report ≡ report_text (map told_turn turns) (pair_sight last)

abbrev pub ReportedOver : {W : Type 0} → (W → Option (List ℕ)) → (W → Option (List ℕ)) → W → W → Schedule → List ℕ → Type 0
ReportedOver sent given up down s report = IsReported s report (sent up) (given up) (sent down) (given down)

-- ---- over honest wires

-- an event of a schedule, how the world answers it, and the world behind it
pub record Scene : Type 0 where
  pub lined : Lined
  pub answer : StepAnswer
  pub behind : World

abbrev pub IsScene : Common → World → Scene → World → Type 0
IsScene r old s new = (s.behind ≡ new) × IsStep r old s.lined.event (record { world = s.behind; outcome = s.answer })

abbrev pub AreScenes : Common → World → List Scene → World → Type 0
AreScenes r old scenes new = Leads (IsScene r) old scenes new

abbrev pub told_scene : Common → Scene → Told
told_scene r s = record { lined = s.lined; answer = s.answer; sight = world_sight r s.behind }

-- what both ends of a replay have in common: the lines of the schedule's schema, their menu, and the usual limits
pub record IsCommonTo (s : Schedule) (r : Common) : Type 0 where
  pub entries : r.entries ≡ s.schema
  pub limits : r.limits ≡ usual_limits
  pub schema : IsOfSchema r

-- The report is the text of the world's answers to the schedule and of the last world; of its two streams the wires were put all, and
-- gave the bytes moved.
pub record IsReplayed (s : Schedule) (report : List ℕ) (up_sent up_given down_sent down_given : Option (List ℕ)) : Type 0 where
  pub rules : Common
  pub common : IsCommonTo s rules
  pub scenes : List Scene
  pub last : World
  pub all : map (λ (t : Scene). t.lined) scenes ≡ s.events
  pub run : AreScenes rules first_world scenes last
  pub text : report ≡ report_text (map (told_scene rules) scenes) (world_sight rules last)
  pub up_told : up_sent ≡ Some (stream_of last.talk.ups)
  pub up_came : up_given ≡ Some (take last.up (stream_of last.talk.ups))
  pub down_told : down_sent ≡ Some (stream_of last.talk.downs)
  pub down_came : down_given ≡ Some (take last.down (stream_of last.talk.downs))

abbrev pub ReplayedOver : {W : Type 0} → (W → Option (List ℕ)) → (W → Option (List ℕ)) → W → W → Schedule → List ℕ → Type 0
ReplayedOver sent given up down s report = IsReplayed s report (sent up) (given up) (sent down) (given down)
