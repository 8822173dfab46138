-- What a dispatch received, against what was sent to it.
use Rattle.std.specs.Prelude.{◌≡◌, ◌≢◌, ℤ, Bool, false, List, [], ◌∷◌, ◌++◌, Option, Some, None, if◌then◌else◌}
use Rattle.std.specs.List.{list_any}
use Rattle.std.specs.Ordering.{int_eq}
use Rattle.rpc_msg.specs.declared.fault.MsgFault.{MsgFault}
use Rattle.rpc_msg.specs.declared.message.Answer.{Answer}
use Rattle.rpc_msg.specs.declared.message.Message.{Message}
use Rattle.rpc_msg.specs.declared.message.Message.TheVariants as message
use Rattle.rpc_msg.specs.declared.shared.Ending.TheVariants as ending
use Rattle.rpc_msg.specs.declared.shared.Part.{Part}
use Rattle.rpc_log.specs.Logs.{responses_of}
use Rattle.rpc_talk.specs.Acts.{fitting, says, unimplemented}
use Rattle.rpc_talk.specs.Legal.{AreLegal}
use Rattle.rpc_talk.specs.Parts.{Ends, parts_of}
use Rattle.rpc_meeting.specs.Talks.{Common, Dispatch, Served, Answerer, Menu, Nobody, Listener, Handler, find_query, menu_answer, answerer, parts_in, received}
use Rattle.rpc_meeting.specs.Worlds.{World, arrived, come, is_shut}

-- a query with this id
abbrev pub asks_with : ℤ → Message → Bool
asks_with id message.Heartbeat = false
asks_with id (message.Query q) = int_eq q.id id
asks_with id (message.Response a) = false

-- what the server answers by itself
abbrev pub own_answers : Answerer → Common → Dispatch → List Answer
own_answers Menu r d = menu_answer r d.id ∷ []
own_answers Nobody r d = fitting r.limits.max_message d.id (unimplemented d.desc.name d.desc.version) ∷ []
own_answers Listener r d = []
own_answers (Handler desc) r d = []

abbrev pub sent_by : Option Served → Common → World → Dispatch → List Answer
sent_by (Some q) r w d = says d.desc q.acts
sent_by None r w d = if list_any (asks_with d.id) (arrived w) then own_answers (answerer r d.desc.name d.desc.version) r d else []

-- what was sent to a dispatch: what its own query's handler did says it; and where no handler has it, what the server answers by itself
-- once its query came
abbrev pub sent_to : Common → World → Dispatch → List Answer
sent_to r w d = sent_by (find_query d.id w.talk.queries) r w d

abbrev pub AreLegalOf : Option Served → Type 0
AreLegalOf None = Unit {0}
AreLegalOf (Some q) = AreLegal q.desc.kind q.acts

-- the headline of one dispatch: it received the beginning of what was sent to it whose frames have wholly come, and nothing else
pub record IsHeadline (r : Common) (w : World) (d : Dispatch) : Type 0 where
  -- all answers with its id are what was sent to it
  pub all : responses_of d.id w.talk.downs ≡ sent_to r w d
  -- in order, each once: those that have come are the first of these
  pub rest : List Answer
  pub come_first : responses_of d.id (come w) ++ rest ≡ sent_to r w d
  -- its parts are the first of what these make, up to its abort
  pub more : List Part
  pub parts_first : (received r.limits.max_message (come w) (is_shut w.client) d).parts ++ more ≡ (parts_of r.limits.max_message d.desc (sent_to r w d)).parts
  -- its handler's acts are legal: at most one ending
  pub legal : AreLegalOf (find_query d.id w.talk.queries)
  -- and no reply could not be read
  pub readable : (why : MsgFault) → (parts_in r.limits.max_message (come w) d).mark ≢ Ends (ending.BadReply why)
