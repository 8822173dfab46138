-- Which messages a client takes, by the calls that it made and the messages before; what of a log it accepts, and what its stream has at fault.
use Rattle.std.specs.Prelude.{ℕ, ℤ, Bool, true, false, not, ◌&&◌, List, [], ◌∷◌, ◌++◌, Option, Some, None, if◌then◌else◌}
use Rattle.std.specs.List.{find}
use Rattle.std.specs.Ordering.{int_eq}
use Rattle.rpc_msg.specs.declared.message.Answer.{Answer}
use Rattle.rpc_msg.specs.declared.message.Answer.TheVariants as answer
use Rattle.rpc_msg.specs.declared.message.Message.{Message}
use Rattle.rpc_msg.specs.declared.message.Message.TheVariants as message
use Rattle.rpc_schema.specs.declared.desc.Kind.{Kind}
use Rattle.rpc_schema.specs.declared.desc.Kind.TheVariants.{Plain, OneWay, Pipe, State}
use Rattle.rpc_schema.specs.declared.desc.RpcDesc.{RpcDesc}
use Rattle.rpc_log.specs.Logs.{responses_of}
use Rattle.rpc_talk.specs.Parts.{Held, parts_of, held_by, goes_on, is_broken}

-- what the answers to a call are read by
pub record Call : Type 0 where
  pub id : ℤ
  pub desc : RpcDesc

abbrev pub has_id : ℤ → Call → Bool
has_id id call = int_eq call.id id

abbrev pub find_call : ℤ → List Call → Option Call
find_call id calls = find (has_id id) calls

-- ---- one message

-- a stream that goes on takes what does not break it
abbrev pub is_welcome_stream : ℕ → RpcDesc → List Answer → Answer → Bool
is_welcome_stream m d before a = goes_on (parts_of m d before).mark && not (is_broken (parts_of m d (before ++ a ∷ [])).mark)

-- a one-way call takes errors
abbrev pub is_error : Answer → Bool
is_error (answer.Ok body) = false
is_error (answer.Error e) = true

abbrev pub is_welcome_by : Kind → ℕ → RpcDesc → List Answer → Answer → Bool
is_welcome_by Plain m d before a = goes_on (parts_of m d before).mark
is_welcome_by OneWay m d before a = is_error a
is_welcome_by Pipe m d before a = is_welcome_stream m d before a
is_welcome_by State m d before a = is_welcome_stream m d before a

-- the answer is welcome to a call of the procedure, behind those before it
abbrev pub is_welcome_answer : ℕ → RpcDesc → List Answer → Answer → Bool
is_welcome_answer m d before a = is_welcome_by d.kind m d before a

abbrev pub is_welcome_to : ℕ → Option Call → List Answer → Answer → Bool
is_welcome_to m None before a = false
is_welcome_to m (Some call) before a = is_welcome_answer m call.desc before a

-- a heartbeat and a query always are
abbrev pub is_welcome : ℕ → List Call → List Message → Message → Bool
is_welcome m calls before message.Heartbeat = true
is_welcome m calls before (message.Query q) = true
is_welcome m calls before (message.Response r) = is_welcome_to m (find_call r.id calls) (responses_of r.id before) r.result

-- ---- a log

-- of these messages, behind those before, the ones up to the first that is not welcome
abbrev pub accepted_after : ℕ → List Call → List Message → List Message → List Message
accepted_after m calls before [] = []
accepted_after m calls before (a ∷ later) = if is_welcome m calls before a then a ∷ accepted_after m calls (before ++ a ∷ []) later else []

abbrev pub accepted : ℕ → List Call → List Message → List Message
accepted m calls log = accepted_after m calls [] log

-- what a call holds: by the messages of a log that the client accepts, how many parts it had when it was aborted, and whether the client is closed
abbrev pub held : ℕ → List Call → List Message → Call → Option ℕ → Bool → Held
held m calls log call cut closed = held_by (parts_of m call.desc (responses_of call.id (accepted m calls log))) cut closed
