-- What a handler does, what it says by it, and who answers a query.
use Rattle.std.specs.Prelude.{ℕ, ℤ, pos, Bool, true, false, ◌&&◌, List, [], ◌∷◌, map, nat_le, codes, length, Option, Some, None, if◌then◌else◌}
use Rattle.std.specs.List.{position}
use Rattle.std.specs.Str.{bytes_eq}
use Rattle.std.specs.Ordering.{int_eq}
use Rattle.bp_value.specs.declared.value.Sexp.TheVariants as sexp
use Rattle.bp_value.specs.declared.value.Value.{Value}
use Rattle.bp_value.specs.Form.{form_of}
use Rattle.bp_grammar.specs.Written.{written}
use Rattle.rpc_msg.specs.declared.data.First.{First}
use Rattle.rpc_msg.specs.declared.data.First.TheVariants as first
use Rattle.rpc_msg.specs.declared.message.Answer.{Answer}
use Rattle.rpc_msg.specs.declared.message.Answer.TheVariants as answer
use Rattle.rpc_msg.specs.declared.message.RpcError.TheVariants as error
use Rattle.rpc_msg.specs.declared.message.Message.{Message}
use Rattle.rpc_msg.specs.declared.message.Message.TheVariants as message
use Rattle.rpc_msg.specs.Forms.{message_form, first_form, part_form}
use Rattle.rpc_msg.specs.Values.{message_value, first_value, item_value, eof_value}
use Rattle.rpc_schema.specs.Choice.{is_offered}
use Rattle.rpc_schema.specs.Entries.{menu_name}
use Rattle.rpc_schema.specs.declared.desc.Entry.{Entry}
use Rattle.rpc_schema.specs.declared.desc.Kind.{Kind}
use Rattle.rpc_schema.specs.declared.desc.RpcDesc.{RpcDesc}
use Rattle.rpc_talk.specs.Parts.{takes_reply, is_stream, is_tracked}

-- ---- acts

-- what a handler does with a query, and what an abort makes of a stream
pub data Act : Type 0 where
  Reply : Value → Act
  Fail : List ℕ → Act
  Begin : Value → Act
  Decline : Value → Act
  Give : Value → Act
  End : Act
  Stop : Act

-- an error with this text
abbrev pub failed_with : List ℕ → Answer
failed_with text = answer.Error (error.Uncaught (sexp.Atom text))

abbrev pub first_bytes : RpcDesc → First → List ℕ
first_bytes d result = written (first_form (form_of d.first) (form_of d.error)) (first_value (pos 0) result)

-- what an act says: each value in its shortest spelling, and 0 for the number that is not used
abbrev pub answer_by : RpcDesc → Act → Answer
answer_by d (Reply v) = answer.Ok (written (form_of d.first) v)
answer_by d (Fail text) = failed_with text
answer_by d (Begin v) = answer.Ok (first_bytes d (first.Begun v))
answer_by d (Decline v) = answer.Ok (first_bytes d (first.Declined v))
answer_by d (Give v) = answer.Ok (written part_form (item_value (written (form_of d.item) v)))
answer_by d End = answer.Ok (written part_form eof_value)
answer_by d Stop = answer.Ok (written part_form eof_value)

abbrev pub says : RpcDesc → List Act → List Answer
says d acts = map (answer_by d) acts

-- the kinds of procedures whose handlers do it
abbrev pub suits : Act → Kind → Bool
suits (Reply v) kind = takes_reply kind
suits (Fail text) kind = is_tracked kind
suits (Begin v) kind = is_stream kind
suits (Decline v) kind = is_stream kind
suits (Give v) kind = is_stream kind
suits End kind = is_stream kind
suits Stop kind = is_stream kind

-- whether a query is over behind it
abbrev pub finishes : Act → Bool
finishes (Reply v) = true
finishes (Fail text) = true
finishes (Begin v) = false
finishes (Decline v) = true
finishes (Give v) = false
finishes End = true
finishes Stop = true

-- ---- who answers a query

-- the end that answers has the entry, of this name and version
abbrev pub is_served : List ℕ → ℤ → Entry → Bool
is_served tag version e = bytes_eq e.desc.name tag && int_eq e.desc.version version && is_offered e.side

-- the menu, version 1; nobody; or the entry at a place
pub data Owner : Type 0 where
  Menu : Owner
  Nobody : Owner
  Line : ℕ → Owner

abbrev pub is_menu : List ℕ → ℤ → Bool
is_menu tag version = bytes_eq tag menu_name && int_eq version (pos 1)

abbrev pub owner_at : Option ℕ → Owner
owner_at None = Nobody
owner_at (Some place) = Line place

abbrev pub owner : List Entry → List ℕ → ℤ → Owner
owner entries tag version = if is_menu tag version then Menu else owner_at (position (is_served tag version) entries)

-- ---- what an end writes by itself

-- the list of versions that an end speaks: 1 alone
abbrev pub own_header : List ℕ
own_header = 1 ∷ 1 ∷ []

abbrev pub unreadable_query : List ℕ
unreadable_query = codes "unreadable query"

abbrev pub answer_too_long : List ℕ
answer_too_long = codes "answer too long"

abbrev pub unimplemented : List ℕ → ℤ → Answer
unimplemented tag version = answer.Error (error.Unimplemented tag version)

abbrev pub cannot_read : Answer
cannot_read = answer.Error (error.BinIo (sexp.Atom unreadable_query))

-- the body of a message's frame, in its shortest spelling
abbrev pub body_of : Message → List ℕ
body_of a = written message_form (message_value a)

abbrev pub response : ℤ → Answer → Message
response id a = message.Response (record { id = id; result = a })

-- a message of this body has at most m bytes
abbrev pub is_short : ℕ → Message → Bool
is_short m a = nat_le (length (body_of a)) m

-- an answer that an end writes by itself, or that it is too long
abbrev pub fitting : ℕ → ℤ → Answer → Answer
fitting m id a = if is_short m (response id a) then a else failed_with answer_too_long
