-- The bytes of queries.
use Rattle.std.specs.Prelude.{◌≡◌, ℕ, ◌+◌, ◌-◌, ◌^◌, ◌<◌, min, List, ◌++◌, length}
use Rattle.bp_grammar.specs.Written.{written, written_bytes}
use Rattle.bp_num.specs.Forms.{little_endian, written_nat}
use Rattle.bp_value.specs.declared.value.Value.{Value}
use Rattle.bp_value.specs.Form.{form_of}
use Rattle.rpc_msg.specs.declared.message.Message.{Message}
use Rattle.rpc_msg.specs.declared.message.Message.TheVariants as message
use Rattle.rpc_schema.specs.declared.desc.RpcDesc.{RpcDesc}
use Rattle.rpc_client.specs.declared.error.DispatchError.{DispatchError}
use Rattle.rpc_client.specs.declared.error.DispatchError.TheVariants as dispatch

-- a number that stays at the last value of a u64
abbrev pub at_most_word : ℕ → ℕ
at_most_word n = min n (2 ^ 64 - 1)

abbrev pub text_length : List ℕ → ℕ
text_length text = at_most_word (length (written_bytes text))

-- the tag and the length in front of the text of a stream's query
abbrev pub query_head : ℕ → List ℕ
query_head count = little_endian 4 0xE22FF5D1 ++ written_nat count

-- the spelling of a query has more bytes than a message may
abbrev pub IsDataRefused : ℕ → RpcDesc → Value → DispatchError → Type 0
IsDataRefused max d v dispatch.Closed = ⊥
IsDataRefused max d v dispatch.NotOpen = ⊥
IsDataRefused max d v dispatch.BadValue = ⊥
IsDataRefused max d v (dispatch.TooLong most) = (most ≡ max) × (max < length (written (form_of d.query) v))
IsDataRefused max d v (dispatch.TooManyOpen count) = ⊥
IsDataRefused max d v (dispatch.IdsSpent id) = ⊥
IsDataRefused max d v dispatch.OutOfMemory = Unit {0}

abbrev pub IsQuery : Message → Type 0
IsQuery message.Heartbeat = ⊥
IsQuery (message.Query q) = Unit {0}
IsQuery (message.Response r) = ⊥
