-- A whole schedule over any wires: a turn of the pair for each event, and the bytes that went over the wires in all of them.
use Rattle.std.specs.Prelude.{◌≡◌, ℕ, List, ◌++◌, map, Option, Some}
use Rattle.std.specs.List.{concat}
use Rattle.rpc_msg.specs.declared.shared.Limits.{Limits}
use Rattle.rpc_schedule.specs.declared.event.Lined.{Lined}
use Rattle.rpc_schema.specs.declared.desc.Entry.{Entry}
use Rattle.rpc_meeting.specs.declared.answer.StepAnswer.{StepAnswer}
use Rattle.rpc_pair.specs.Pairs.{PairState, Traffic, IsNewPair, IsTurn, all_put}
use Rattle.rpc_pair.specs.Runs.{Leads}

-- ---- turns

-- an event of a schedule, what went over the wires in it, how it was answered, and the pair behind it
pub record Turn : Type 0 where
  pub lined : Lined
  pub traffic : Traffic
  pub answer : StepAnswer
  pub behind : PairState

abbrev pub MakesTurn : PairState → Turn → PairState → Type 0
MakesTurn old t new = (t.behind ≡ new) × IsTurn old t.lined.event t.traffic t.answer new

-- turns, one after the other
abbrev pub AreTurns : PairState → List Turn → PairState → Type 0
AreTurns old turns new = Leads MakesTurn old turns new

-- all that came on a wire in them, and all that was put to it
abbrev pub all_up : List Turn → List ℕ
all_up turns = concat (map (λ t. t.traffic.up_came.bytes) turns)

abbrev pub all_down : List Turn → List ℕ
all_down turns = concat (map (λ t. t.traffic.down_came.bytes) turns)

abbrev pub all_up_put : List Turn → List ℕ
all_up_put turns = concat (map (λ t. t.traffic.up_put) turns)

abbrev pub all_down_put : List Turn → List ℕ
all_down_put turns = concat (map (λ t. t.traffic.down_put) turns)

-- ---- a schedule

-- A new pair of the lines of a schema puts its headers and makes a turn for each event, over wires of which nothing was used; at the end
-- they tell this.
pub record IsPlayed (entries : List Entry) (limits : Limits) (events : List Lined) (turns : List Turn) (last : PairState)
    (up_sent up_given down_sent down_given : Option (List ℕ)) : Type 0 where
  pub first : PairState
  pub fresh : IsNewPair entries limits first
  pub all : map (λ (t : Turn). t.lined) turns ≡ events
  pub run : AreTurns (all_put first) turns last
  pub up_told : up_sent ≡ Some (first.book.link.output ++ all_up_put turns)
  pub up_came : up_given ≡ Some (all_up turns)
  pub down_told : down_sent ≡ Some (first.server.link.output ++ all_down_put turns)
  pub down_came : down_given ≡ Some (all_down turns)
