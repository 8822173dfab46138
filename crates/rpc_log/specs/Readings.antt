-- What a value of the forms of headers and messages says, and what a whole body reads as.
use Rattle.std.specs.Prelude.{ℕ, zero, suc, ◌-◌, ℤ, pos, Bool, List, [], ◌∷◌, length, Option, Some, None}
use Rattle.std.specs.Option.{option_map, option_and_then}
use Rattle.std.specs.List.{list_any}
use Rattle.std.specs.Ordering.{int_eq}
use Rattle.readers.specs.Reader.{Outcome, whole, more, bad}
use Rattle.bp_num.specs.declared.number.Why.{Why}
use Rattle.bp_value.specs.declared.value.Sexp.{Sexp}
use Rattle.bp_value.specs.declared.value.Value.{Value, out-Value}
use Rattle.bp_value.specs.declared.value.Value.TheOpen.{Value-F}
use Rattle.bp_value.specs.declared.value.Value.TheOpen as layer
use Rattle.bp_value.specs.Form.{Form}
use Rattle.bp_grammar.specs.Reading.{read}
use Rattle.rpc_msg.specs.declared.fault.MsgFault.{MsgFault}
use Rattle.rpc_msg.specs.declared.fault.MsgFault.TheVariants as fault
use Rattle.rpc_msg.specs.Forms.{header_form, message_form}
use Rattle.rpc_msg.specs.declared.message.Header.{Header}
use Rattle.rpc_msg.specs.declared.message.Query.{Query}
use Rattle.rpc_msg.specs.declared.message.Response.{Response}
use Rattle.rpc_msg.specs.declared.message.Answer.{Answer}
use Rattle.rpc_msg.specs.declared.message.Answer.TheVariants as answer
use Rattle.rpc_msg.specs.declared.message.RpcError.{RpcError}
use Rattle.rpc_msg.specs.declared.message.RpcError.TheVariants as error
use Rattle.rpc_msg.specs.declared.message.Message.{Message}
use Rattle.rpc_msg.specs.declared.message.Message.TheVariants as message

-- ---- the content of a value of each kind

abbrev pub number_by : Value-F Value → Option ℤ
number_by (layer.Num n) = Some n
number_by other = None

abbrev pub text_by : Value-F Value → Option (List ℕ)
text_by (layer.Text t) = Some t
text_by other = None

abbrev pub items_by : Value-F Value → Option (List Value)
items_by (layer.Items vs) = Some vs
items_by other = None

abbrev pub parts_by : Value-F Value → Option (List Value)
parts_by (layer.Parts vs) = Some vs
parts_by other = None

abbrev pub case_by : Value-F Value → Option (ℕ × List Value)
case_by (layer.Case place vs) = Some (place, vs)
case_by other = None

abbrev pub sexp_by : Value-F Value → Option Sexp
sexp_by (layer.Sexp s) = Some s
sexp_by other = None

abbrev pub number_told : Value → Option ℤ
number_told v = number_by (out-Value v)

abbrev pub text_told : Value → Option (List ℕ)
text_told v = text_by (out-Value v)

abbrev pub items_told : Value → Option (List Value)
items_told v = items_by (out-Value v)

abbrev pub parts_told : Value → Option (List Value)
parts_told v = parts_by (out-Value v)

abbrev pub case_told : Value → Option (ℕ × List Value)
case_told v = case_by (out-Value v)

abbrev pub sexp_told : Value → Option Sexp
sexp_told v = sexp_by (out-Value v)

-- ---- the message that a value is

abbrev pub both_of : {A B : Type 0} → Option A → Option B → Option (A × B)
both_of (Some a) (Some b) = Some (a, b)
both_of a b = None

-- a case with one argument
abbrev pub only_told : List Value → Option Value
only_told (v ∷ []) = Some v
only_told vs = None

abbrev pub version_by : ℕ × List Value → Option ℤ
version_by (zero, vs) = option_and_then number_told (only_told vs)
version_by (suc place, vs) = None

abbrev pub unimplemented_by : List ℕ × ℤ → RpcError
unimplemented_by p = error.Unimplemented p.0 p.1

abbrev pub unimplemented_told : List Value → Option RpcError
unimplemented_told (tag ∷ version ∷ []) = option_map unimplemented_by (both_of (text_told tag) (option_and_then version_by (case_told version)))
unimplemented_told vs = None

abbrev pub error_at : ℕ → List Value → Option RpcError
error_at zero vs = option_map error.BinIo (option_and_then sexp_told (only_told vs))
error_at (suc zero) vs = Some error.ConnectionClosed
error_at (suc (suc zero)) vs = option_map error.WriteError (option_and_then sexp_told (only_told vs))
error_at (suc (suc (suc zero))) vs = option_map error.Uncaught (option_and_then sexp_told (only_told vs))
error_at (suc (suc (suc (suc zero)))) vs = unimplemented_told vs
error_at (suc (suc (suc (suc (suc place))))) vs = option_map error.UnknownId (option_and_then number_told (only_told vs))

abbrev pub error_told : Value → Option RpcError
error_told v = option_and_then (λ c. error_at c.0 c.1) (case_told v)

abbrev pub answer_at : ℕ → List Value → Option Answer
answer_at zero vs = option_map answer.Ok (option_and_then text_told (only_told vs))
answer_at (suc place) vs = option_map answer.Error (option_and_then error_told (only_told vs))

abbrev pub answer_told : Value → Option Answer
answer_told v = option_and_then (λ c. answer_at c.0 c.1) (case_told v)

abbrev pub query_by : (List ℕ × ℤ) × (ℤ × List ℕ) → Query
query_by p = record { tag = p.0.0; version = p.0.1; id = p.1.0; body = p.1.1 }

abbrev pub query_from : List Value → Option Query
query_from (tag ∷ version ∷ id ∷ body ∷ []) =
    option_map query_by (both_of (both_of (text_told tag) (number_told version)) (both_of (number_told id) (text_told body)))
query_from vs = None

abbrev pub query_told : Value → Option Query
query_told v = option_and_then query_from (parts_told v)

abbrev pub response_by : ℤ × Answer → Response
response_by p = record { id = p.0; result = p.1 }

abbrev pub response_from : List Value → Option Response
response_from (id ∷ result ∷ []) = option_map response_by (both_of (number_told id) (answer_told result))
response_from vs = None

abbrev pub response_told : Value → Option Response
response_told v = option_and_then response_from (parts_told v)

abbrev pub message_at : ℕ → List Value → Option Message
message_at zero vs = Some message.Heartbeat
message_at (suc zero) vs = option_map message.Query (option_and_then query_told (only_told vs))
message_at (suc (suc place)) vs = option_map message.Response (option_and_then response_told (only_told vs))

abbrev pub message_of : Value → Option Message
message_of v = option_and_then (λ c. message_at c.0 c.1) (case_told v)

abbrev pub numbers_told : List Value → Option (List ℤ)
numbers_told [] = Some []
numbers_told (v ∷ vs) = option_map (λ p. p.0 ∷ p.1) (both_of (number_told v) (numbers_told vs))

abbrev pub header_by : List ℤ → Header
header_by versions = record { versions = versions }

abbrev pub header_of : Value → Option Header
header_of v = option_map header_by (option_and_then numbers_told (items_told v))

-- ---- what a body reads as, with each text and list at most m long

-- the value whose spelling takes the whole of a body
abbrev pub whole_value : Outcome ℕ Why Value → Option Value
whole_value (whole v []) = Some v
whole_value (whole v (b ∷ u)) = None
whole_value more = None
whole_value (bad n w) = None

abbrev pub value_in : ℕ → Form → List ℕ → Option Value
value_in m f body = whole_value (read m f body)

-- why none does, of a body of so many bytes
abbrev pub whole_fault : ℕ → Outcome ℕ Why Value → Option MsgFault
whole_fault count (whole v []) = None
whole_fault count (whole v (b ∷ u)) = Some (fault.Trailing (count - length (b ∷ u)))
whole_fault count more = Some (fault.Cut count)
whole_fault count (bad n w) = Some (fault.Bad (count - n) w)

abbrev pub fault_in : ℕ → Form → List ℕ → Option MsgFault
fault_in m f body = whole_fault (length body) (read m f body)

abbrev pub message_in : ℕ → List ℕ → Option Message
message_in m body = option_and_then message_of (value_in m message_form body)

abbrev pub header_in : ℕ → List ℕ → Option Header
header_in m body = option_and_then header_of (value_in m header_form body)

-- version 1 is among the versions
abbrev pub has_one : Header → Bool
has_one header = list_any (λ version. int_eq version (pos 1)) header.versions
