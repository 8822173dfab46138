-- What the answers to a call say, their data read by the shapes of its procedure, within the limit m on texts and lists.
use Rattle.std.specs.Prelude.{ℕ, zero, suc, ◌-◌, List, [], ◌∷◌, length, map, Option, Some, None, Result, Ok, Err}
use Rattle.std.specs.Option.{option_map, option_and_then}
use Rattle.readers.specs.Reader.{Outcome, whole, more, bad}
use Rattle.bp_num.specs.declared.number.Why.{Why}
use Rattle.bp_value.specs.declared.value.Value.{Value}
use Rattle.bp_value.specs.Form.{Form, form_of}
use Rattle.bp_grammar.specs.Reading.{read}
use Rattle.rpc_msg.specs.declared.fault.MsgFault.{MsgFault}
use Rattle.rpc_msg.specs.declared.fault.MsgFault.TheVariants as fault
use Rattle.rpc_msg.specs.declared.message.Answer.{Answer}
use Rattle.rpc_msg.specs.declared.message.Answer.TheVariants as answer
use Rattle.rpc_msg.specs.declared.message.RpcError.{RpcError}
use Rattle.rpc_msg.specs.Bodies.{behind}
use Rattle.rpc_msg.specs.Forms.{first_form, part_form}
use Rattle.rpc_log.specs.Readings.{only_told, text_told, parts_told, case_told}
use Rattle.rpc_schema.specs.declared.desc.Kind.{Kind}
use Rattle.rpc_schema.specs.declared.desc.Kind.TheVariants.{Plain, OneWay, Pipe, State}
use Rattle.rpc_schema.specs.declared.desc.RpcDesc.{RpcDesc}

-- what an answer says: the reply of a plain procedure; a stream's first answer; its later ones; data that cannot be read; an error
pub data Said : Type 0 where
  Reply : Value → Said
  Begun : Value → Said
  Declined : Value → Said
  Item : Value → Said
  Eof : Said
  Unreadable : MsgFault → Said
  Failed : RpcError → Said

-- ---- what the whole of some data reads as, or why it reads as nothing

abbrev pub all_read : ℕ → Outcome ℕ Why Value → Result Value MsgFault
all_read count (whole v []) = Ok v
all_read count (whole v (b ∷ u)) = Err (fault.Trailing (count - length (b ∷ u)))
all_read count more = Err (fault.Cut count)
all_read count (bad n w) = Err (fault.Bad (count - n) w)

abbrev pub value_read : ℕ → Form → List ℕ → Result Value MsgFault
value_read m f body = all_read (length body) (read m f body)

abbrev pub said_by : (Value → Said) → Result Value MsgFault → Said
said_by tell (Ok v) = tell v
said_by tell (Err why) = Unreadable why

-- ---- a plain answer, a first answer, a later part

abbrev pub plain_said : ℕ → Form → List ℕ → Said
plain_said m f body = said_by Reply (value_read m f body)

-- a value of another form tells nothing; none is read
abbrev pub said_or_none : Option Said → Said
said_or_none (Some said) = said
said_or_none None = Unreadable (fault.Cut zero)

-- the result in a first answer
abbrev pub result_at : ℕ → List Value → Option Said
result_at zero vs = option_map Begun (only_told vs)
result_at (suc place) vs = option_map Declined (only_told vs)

abbrev pub result_in : List Value → Option Said
result_in (unused ∷ result ∷ []) = option_and_then (λ c. result_at c.0 c.1) (case_told result)
result_in vs = None

abbrev pub first_told : Value → Said
first_told v = said_or_none (option_and_then result_in (parts_told v))

abbrev pub first_said : ℕ → Form → Form → List ℕ → Said
first_said m begun declined body = said_by first_told (value_read m (first_form begun declined) body)

-- the item that the last bytes of a body spell, behind so many others
abbrev pub item_said : ℕ → Form → ℕ → Result Value MsgFault → Said
item_said m item front (Ok v) = Item v
item_said m item front (Err why) = Unreadable (behind front why)

abbrev pub text_said : ℕ → Form → ℕ → List ℕ → Said
text_said m item count text = item_said m item (count - length text) (value_read m item text)

abbrev pub part_case : ℕ → Form → ℕ → ℕ → List Value → Option Said
part_case m item count zero vs = option_map (text_said m item count) (option_and_then text_told (only_told vs))
part_case m item count (suc place) vs = Some Eof

abbrev pub part_told : ℕ → Form → ℕ → Value → Said
part_told m item count v = said_or_none (option_and_then (λ c. part_case m item count c.0 c.1) (case_told v))

abbrev pub part_said : ℕ → Form → List ℕ → Said
part_said m item body = said_by (part_told m item (length body)) (value_read m part_form body)

-- ---- the answers to a call, in order

abbrev pub answer_said : (List ℕ → Said) → Answer → Said
answer_said reads (answer.Ok body) = reads body
answer_said reads (answer.Error e) = Failed e

-- how the first answer of a procedure is read, and how the later ones are
abbrev pub first_by : Kind → ℕ → RpcDesc → List ℕ → Said
first_by Plain m d body = plain_said m (form_of d.first) body
first_by OneWay m d body = plain_said m (form_of d.first) body
first_by Pipe m d body = first_said m (form_of d.first) (form_of d.error) body
first_by State m d body = first_said m (form_of d.first) (form_of d.error) body

abbrev pub later_by : Kind → ℕ → RpcDesc → List ℕ → Said
later_by Plain m d body = plain_said m (form_of d.first) body
later_by OneWay m d body = plain_said m (form_of d.first) body
later_by Pipe m d body = part_said m (form_of d.item) body
later_by State m d body = part_said m (form_of d.item) body

-- what an answer says behind those before it
abbrev pub said_behind : ℕ → RpcDesc → List Answer → Answer → Said
said_behind m d [] a = answer_said (first_by d.kind m d) a
said_behind m d (b ∷ before) a = answer_said (later_by d.kind m d) a

abbrev pub says_in : ℕ → RpcDesc → List Answer → List Said
says_in m d [] = []
says_in m d (a ∷ later) = answer_said (first_by d.kind m d) a ∷ map (answer_said (later_by d.kind m d)) later
