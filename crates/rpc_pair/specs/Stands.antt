-- What is seen of a server stands for a talk, and follows it as it goes on.
use Rattle.std.specs.Prelude.{◌≡◌, ℕ, ℤ, List, [], ◌∷◌, ◌++◌, Option, Some, None, Result, Ok, Err, if◌then◌else◌}
use Rattle.std.specs.List.{position_or_len}
use Rattle.rpc_msg.specs.declared.message.Message.{Message}
use Rattle.rpc_msg.specs.declared.shared.CloseCause.{CloseCause}
use Rattle.rpc_schema.specs.declared.desc.Entry.{Entry}
use Rattle.rpc_schema.specs.declared.desc.RpcDesc.{RpcDesc}
use Rattle.rpc_end.specs.Ends.{EndState, heard, said}
use Rattle.rpc_talk.specs.Acts.{is_served}
use Rattle.rpc_meeting.specs.declared.answer.Refusal.TheVariants as world
use Rattle.rpc_meeting.specs.declared.answer.StepAnswer.{StepAnswer}
use Rattle.rpc_meeting.specs.declared.answer.StepAnswer.TheVariants.{Done, Refused}
use Rattle.rpc_meeting.specs.Steps.{Stepped}
use Rattle.rpc_meeting.specs.Talks.{Common, Served, Talk, find_query, goes_on_still, is_begun, is_stopped, open_queries}
use Rattle.rpc_server.specs.Servers.{ServerState}
use Rattle.rpc_server.specs.Tables.{standing, unfinished}
use Rattle.rpc_server.specs.declared.arrival.Arrival.{Arrival}
use Rattle.rpc_server.specs.declared.error.ActError.{ActError}
use Rattle.rpc_server.specs.declared.error.ActError.TheVariants as refused
use Rattle.rpc_server.specs.declared.table.Standing.{Standing}
use Rattle.rpc_server.specs.declared.table.Standing.TheVariants.{Nowhere, Open, Stopped}
use Rattle.rpc_pair.specs.Rules.{rules_of}

-- ---- how a query stands

-- the place of the line of a procedure that is answered
abbrev pub line_place : List Entry → RpcDesc → ℕ
line_place entries d = position_or_len (is_served d.name d.version) entries

abbrev pub standing_of_query : Common → Served → Standing
standing_of_query r q =
    if goes_on_still q then Open (line_place r.entries q.desc) (is_begun q)
    else if is_stopped q then Stopped
    else Nowhere

abbrev pub standing_as : Common → Option Served → Standing
standing_as r None = Nowhere
standing_as r (Some q) = standing_of_query r q

-- ---- a server and a talk

-- its rules are those of the world; each id stands as its query in the talk does, and as many are open
pub record ServerStands (r : Common) (s : ServerState) (t : Talk) : Type 0 where
  pub rules : s.rules ≡ rules_of r
  pub table : (id : ℤ) → standing s.table id ≡ standing_as r (find_query id t.queries)
  pub count : unfinished s.table ≡ open_queries t.queries

-- all of these go out
abbrev pub all_said : EndState → List Message → EndState
all_said e [] = e
all_said e (a ∷ later) = all_said (said e a) later

-- it stands for the talk as that went on, and what it said, from where its link was so, is just what the talk has more that goes down
pub record GoesAlong (r : Common) (link : EndState) (old now : Talk) (s : ServerState) : Type 0 where
  pub stands : ServerStands r s now
  pub more : List Message
  pub downs : now.downs ≡ old.downs ++ more
  pub said : s.link ≡ all_said link more

-- ---- a message

-- it closes no server: the server hears it, and goes along
abbrev pub HearsAlong : Common → EndState → ℕ → Talk → Talk → Result (Option Arrival) CloseCause → ServerState → Type 0
HearsAlong r link now old new (Ok a) s = GoesAlong r (heard link now) old new s
HearsAlong r link now old new (Err why) s = ⊥

-- ---- an act

-- what the world answers to an act that the server answers so; nothing where memory ran out
abbrev pub answer_as : Result (Unit {0}) ActError → Option StepAnswer
answer_as (Ok u) = Some Done
answer_as (Err refused.Closed) = Some (Refused world.Closed)
answer_as (Err refused.NoSuch) = Some (Refused world.NoSuch)
answer_as (Err refused.Stopped) = Some (Refused world.Stopped)
answer_as (Err refused.WrongKind) = Some (Refused world.WrongKind)
answer_as (Err refused.AlreadyBegun) = Some (Refused world.AlreadyBegun)
answer_as (Err refused.NotBegun) = Some (Refused world.NotBegun)
answer_as (Err refused.BadValue) = Some (Refused world.BadValue)
answer_as (Err (refused.TooLong max)) = Some (Refused world.TooLong)
answer_as (Err refused.OutOfMemory) = None

-- the world answers the same, and the server goes along; or it is as it was
abbrev pub ActsAlong : Option StepAnswer → Common → ServerState → Talk → Stepped → ServerState → Type 0
ActsAlong (Some answer) r old t to new = (to.outcome ≡ answer) × GoesAlong r old.link t to.world.talk new
ActsAlong None r old t to new = new ≡ old
