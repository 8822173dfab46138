-- The messages of a stream of bytes, and the responses to a query among them.
use Rattle.std.specs.Prelude.{ℕ, ℤ, Bool, false, if◌then◌else◌, List, [], ◌∷◌, Option, Some, None}
use Rattle.std.specs.List.{filter_map}
use Rattle.std.specs.Ordering.{int_eq}
use Rattle.rpc_frame.specs.Streams.{bodies}
use Rattle.rpc_msg.specs.declared.message.Header.{Header}
use Rattle.rpc_msg.specs.declared.message.Answer.{Answer}
use Rattle.rpc_msg.specs.declared.message.Message.{Message}
use Rattle.rpc_msg.specs.declared.message.Message.TheVariants as message
use Rattle.rpc_log.specs.Readings.{header_in, message_in, has_one}

abbrev pub then_messages : Option Message → List Message → List Message
then_messages None behind = []
then_messages (Some m) behind = m ∷ behind

-- the messages that bodies read as, up to the first body that reads as none
abbrev pub messages_in : ℕ → List (List ℕ) → List Message
messages_in m [] = []
messages_in m (body ∷ rest) = then_messages (message_in m body) (messages_in m rest)

abbrev pub is_opening : Option Header → Bool
is_opening None = false
is_opening (Some header) = has_one header

-- a body is a header that has version 1
abbrev pub opens : ℕ → List ℕ → Bool
opens m body = is_opening (header_in m body)

-- behind a body that opens the stream, messages
abbrev pub log_in : ℕ → List (List ℕ) → List Message
log_in m [] = []
log_in m (head ∷ rest) = if opens m head then messages_in m rest else []

-- the messages of a stream, with each body, text and list at most m long
abbrev pub log_of : ℕ → List ℕ → List Message
log_of m stream = log_in m (bodies m stream)

-- what a message answers to the query of this id
abbrev pub response_for : ℤ → Message → Option Answer
response_for id message.Heartbeat = None
response_for id (message.Query query) = None
response_for id (message.Response response) = if int_eq response.id id then Some response.result else None

-- the answers of a log to the query of this id, in order
abbrev pub responses_of : ℤ → List Message → List Answer
responses_of id log = filter_map (response_for id) log
