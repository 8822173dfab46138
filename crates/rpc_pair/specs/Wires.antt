-- What a step of a pair is over two wires, and how a pair stands for a world over wires that tell their bytes.
use Rattle.std.specs.Prelude.{◌≡◌, ℕ, true, List, [], length, take, Option, Some, option_map}
use Rattle.bp_base.specs.Moves.{in_flight}
use Rattle.bp_base.specs.Told.{Gains}
use Rattle.rpc_schedule.specs.declared.event.Event.{Event}
use Rattle.rpc_msg.specs.declared.shared.Received.{Received}
use Rattle.rpc_talk.specs.Parts.{Held}
use Rattle.rpc_meeting.specs.Deeds.{Deed, MoveDown, MoveUp, find_label}
use Rattle.rpc_meeting.specs.declared.answer.StepAnswer.{StepAnswer}
use Rattle.rpc_meeting.specs.declared.answer.StepAnswer.TheVariants.{Done}
use Rattle.rpc_meeting.specs.Steps.{IsReached, IsStep, Stepped}
use Rattle.rpc_meeting.specs.Talks.{Common, received}
use Rattle.rpc_meeting.specs.Worlds.{World, come, is_shut, stream_of}
use Rattle.rpc_pair.specs.Moving.{IsSpent}
use Rattle.rpc_pair.specs.Pairs.{PairState, Came, IsDeedAt, Traffic, IsTurn, IsNewPair, DoesOver, all_put, nothing}
use Rattle.rpc_pair.specs.Rules.{IsOfSchema}
use Rattle.rpc_pair.specs.Standing.{EndsStand, ShowsReceived}

-- ---- any wires

-- these bytes were put to a wire, and these it gave; an honest one that came short had no more in flight
pub record WireTells {W : Type 0} (honest : W → Type 0) (sent given : W → Option (List ℕ)) (old new : W) (put : List ℕ) (came : Came) : Type 0 where
  pub put_is : Gains sent old new put
  pub came_is : Gains given old new came.bytes
  pub spent : honest old → came.short ≡ true → IsSpent (in_flight (sent old) (given new))

-- a pair makes a turn over two wires
pub record TurnsOver {W : Type 0} (honest : W → Type 0) (sent given : W → Option (List ℕ)) (up up_new down down_new : W) (old : PairState) (e : Event)
    (answer : StepAnswer) (new : PairState) : Type 0 where
  pub traffic : Traffic
  pub turn : IsTurn old e traffic answer new
  pub up_tells : WireTells honest sent given up up_new traffic.up_put traffic.up_came
  pub down_tells : WireTells honest sent given down down_new traffic.down_put traffic.down_came

-- an event is answered so, and nothing of what the ends have to say went out
pub record ActsOver {W : Type 0} (honest : W → Type 0) (sent given : W → Option (List ℕ)) (up up_new down down_new : W) (old : PairState) (e : Event)
    (answer : StepAnswer) (new : PairState) : Type 0 where
  pub deed : Deed
  pub comes : IsDeedAt old e deed
  pub up_came : Came
  pub down_came : Came
  pub does : DoesOver deed old up_came down_came answer new
  pub up_tells : WireTells honest sent given up up_new [] up_came
  pub down_tells : WireTells honest sent given down down_new [] down_came

-- ---- a world

-- one way: all that an end wrote was put, its first bytes were given, and both were counted
pub record Flows (stream : List ℕ) (moved : ℕ) (sent given : Option (List ℕ)) (put_count moved_count : ℕ) : Type 0 where
  pub sent_is : sent ≡ Some stream
  pub given_is : given ≡ Some (take moved stream)
  pub put_counted : put_count ≡ length stream
  pub moved_counted : moved_count ≡ moved

-- A pair stands for a world that a schedule leads to: each end stands for its part, and nothing is left to go out.
pub record StandsFor (r : Common) (w : World) (p : PairState) (up_sent up_given down_sent down_given : Option (List ℕ)) : Type 0 where
  pub reached : IsReached r w
  pub taken : List ℕ
  pub ends : EndsStand r w p.book p.server taken
  pub moment : p.now ≡ w.now
  pub client_out : p.book.link.output ≡ []
  pub server_out : p.server.link.output ≡ []
  pub up : Flows (stream_of w.talk.ups) w.up up_sent up_given p.moved.up_put p.moved.up
  pub down : Flows (stream_of w.talk.downs) w.down down_sent down_given p.moved.down_put p.moved.down

-- by what two wires tell
abbrev pub StandsOver : {W : Type 0} → (W → Option (List ℕ)) → (W → Option (List ℕ)) → Common → World → PairState → W → W → Type 0
StandsOver sent given r w p up down = StandsFor r w p (sent up) (given up) (sent down) (given down)

-- it does so over honest wires, and the world is one of its schema
pub record IsHonestly {W : Type 0} (honest : W → Type 0) (sent given : W → Option (List ℕ)) (r : Common) (w : World) (p : PairState) (up down : W) : Type 0 where
  pub schema : IsOfSchema r
  pub up_honest : honest up
  pub down_honest : honest down
  pub stands : StandsOver sent given r w p up down

-- the answer is the world's, and the pair stands for the next world
pub record StepsTo {W : Type 0} (sent given : W → Option (List ℕ)) (r : Common) (w : World) (e : Event) (answer : StepAnswer) (new : PairState) (up down : W)
    : Type 0 where
  pub to : Stepped
  pub step : IsStep r w e to
  pub outcome : to.outcome ≡ answer
  pub stands : StandsOver sent given r to.world new up down

-- ---- what is shown

-- what the dispatch of a label received in a world; nothing where none has the label
abbrev pub received_under : Common → World → List ℕ → Option Held
received_under r w label = option_map (received r.limits.max_message (come w) (is_shut w.client)) (find_label label w.talk.made)

-- in whatever world a pair stands for, over whatever wires, just this is what the dispatch of a label received
abbrev pub ShowsWorld : PairState → List ℕ → Option Received → Type 0
ShowsWorld p label shown = (r : Common) (w : World) (up_sent up_given down_sent down_given : Option (List ℕ)) → IsOfSchema r
    → StandsFor r w p up_sent up_given down_sent down_given → ShowsReceived (received_under r w label) shown

-- ---- the start

-- the headers are put, and nothing is given
pub record PutsOver {W : Type 0} (sent given : W → Option (List ℕ)) (old new : PairState) (up up_new down down_new : W) : Type 0 where
  pub state : new ≡ all_put old
  pub up_sent : Gains sent up up_new old.book.link.output
  pub up_given : given up_new ≡ given up
  pub down_sent : Gains sent down down_new old.server.link.output
  pub down_given : given down_new ≡ given down

-- a new pair of a schema, and wires that tell that nothing was put or given
pub record StartsOver {W : Type 0} (sent given : W → Option (List ℕ)) (r : Common) (p : PairState) (up down : W) : Type 0 where
  pub schema : IsOfSchema r
  pub pair : IsNewPair r.entries r.limits p
  pub up_sent : sent up ≡ Some []
  pub up_given : given up ≡ Some []
  pub down_sent : sent down ≡ Some []
  pub down_given : given down ≡ Some []

-- ---- movements of one end

-- the server takes what comes up
pub record MovesUpOver {W : Type 0} (honest : W → Type 0) (sent given : W → Option (List ℕ)) (old : PairState) (count : Option ℕ) (by : ℕ) (up up_new : W)
    (new : PairState) : Type 0 where
  pub came : Came
  pub does : DoesOver (MoveUp count by) old came nothing Done new
  pub tells : WireTells honest sent given up up_new [] came

-- and the client what comes down
pub record MovesDownOver {W : Type 0} (honest : W → Type 0) (sent given : W → Option (List ℕ)) (old : PairState) (count : Option ℕ) (by : ℕ) (down down_new : W)
    (new : PairState) : Type 0 where
  pub came : Came
  pub does : DoesOver (MoveDown count by) old nothing came Done new
  pub tells : WireTells honest sent given down down_new [] came
