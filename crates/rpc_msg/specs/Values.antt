-- What frames hold as values of their forms.
use Rattle.std.specs.Prelude.{◌≡◌, ℕ, ℤ, pos, List, [], ◌∷◌, map}
use Rattle.std.specs.List.{Any}
use Rattle.bp_value.specs.declared.value.Value.{Value}
use Rattle.bp_value.specs.declared.value.Value.TheVariants.{Num, Text, Items, Parts, Case, Sexp}
use Rattle.rpc_msg.specs.declared.message.Header.{Header}
use Rattle.rpc_msg.specs.declared.message.Query.{Query}
use Rattle.rpc_msg.specs.declared.message.Response.{Response}
use Rattle.rpc_msg.specs.declared.message.Answer.{Answer}
use Rattle.rpc_msg.specs.declared.message.Answer.TheVariants as answer
use Rattle.rpc_msg.specs.declared.message.RpcError.{RpcError}
use Rattle.rpc_msg.specs.declared.message.RpcError.TheVariants as error
use Rattle.rpc_msg.specs.declared.message.Message.{Message}
use Rattle.rpc_msg.specs.declared.message.Message.TheVariants as message
use Rattle.rpc_msg.specs.declared.data.StreamQuery.{StreamQuery}
use Rattle.rpc_msg.specs.declared.data.StreamQuery.TheVariants as stream
use Rattle.rpc_msg.specs.declared.data.First.{First}
use Rattle.rpc_msg.specs.declared.data.First.TheVariants as first

abbrev pub header_value : Header → Value
header_value header = Items (map Num header.versions)

abbrev pub unimplemented_values : List ℕ × ℤ → List Value
unimplemented_values p = Text p.0 ∷ Case 0 (Num p.1 ∷ []) ∷ []

abbrev pub error_value : RpcError → Value
error_value (error.BinIo s) = Case 0 (Sexp s ∷ [])
error_value error.ConnectionClosed = Case 1 []
error_value (error.WriteError s) = Case 2 (Sexp s ∷ [])
error_value (error.Uncaught s) = Case 3 (Sexp s ∷ [])
error_value (error.Unimplemented tag version) = Case 4 (unimplemented_values (tag, version))
error_value (error.UnknownId id) = Case 5 (Num id ∷ [])

abbrev pub answer_value : Answer → Value
answer_value (answer.Ok body) = Case 0 (Text body ∷ [])
answer_value (answer.Error e) = Case 1 (error_value e ∷ [])

abbrev pub query_value : Query → Value
query_value q = Parts (Text q.tag ∷ Num q.version ∷ Num q.id ∷ Text q.body ∷ [])

abbrev pub response_value : Response → Value
response_value r = Parts (Num r.id ∷ answer_value r.result ∷ [])

abbrev pub message_value : Message → Value
message_value message.Heartbeat = Case 0 []
message_value (message.Query q) = Case 1 (query_value q ∷ [])
message_value (message.Response r) = Case 2 (response_value r ∷ [])

-- ---- the data of streams

abbrev pub stream_query_value : StreamQuery → Value
stream_query_value (stream.Query body) = Case 0 (Text body ∷ [])
stream_query_value stream.Abort = Case 1 []

abbrev pub result_value : First → Value
result_value (first.Begun v) = Case 0 (v ∷ [])
result_value (first.Declined v) = Case 1 (v ∷ [])

-- the first answer of a stream, with the number that is not used
abbrev pub first_value : ℤ → First → Value
first_value unused f = Parts (Num unused ∷ result_value f ∷ [])

abbrev pub unused_first : ℤ × First → Value
unused_first p = first_value p.0 p.1

-- a later part, whose item is spelled so
abbrev pub item_value : List ℕ → Value
item_value body = Case 0 (Text body ∷ [])

abbrev pub eof_value : Value
eof_value = Case 1 []

-- version 1 is among the versions
abbrev pub HasOne : Header → Type 0
HasOne header = Any (λ version. version ≡ pos 1) header.versions
