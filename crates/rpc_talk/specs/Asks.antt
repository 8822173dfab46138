-- What the data of a query asks, read by the shapes of its procedure, within the limit m on texts and lists.
use Rattle.std.specs.Prelude.{ℕ, zero, suc, Bool, true, false, List, Option, Some, None}
use Rattle.std.specs.Option.{option_and_then}
use Rattle.bp_value.specs.declared.value.Value.{Value}
use Rattle.bp_value.specs.Form.{Form, form_of, unit}
use Rattle.rpc_msg.specs.Forms.{stream_query_form}
use Rattle.rpc_schema.specs.declared.desc.Kind.{Kind}
use Rattle.rpc_schema.specs.declared.desc.Kind.TheVariants.{Plain, OneWay, Pipe, State}
use Rattle.rpc_schema.specs.declared.desc.RpcDesc.{RpcDesc}
use Rattle.rpc_log.specs.Readings.{only_told, text_told, case_told, value_in}

-- a call with this query, the abort of a stream, or data that cannot be read
pub data Asks : Type 0 where
  Calls : Value → Asks
  Aborts : Asks
  Unclear : Asks

abbrev pub calls_in : Option Value → Asks
calls_in None = Unclear
calls_in (Some v) = Calls v

abbrev pub plain_asks : ℕ → Form → List ℕ → Asks
plain_asks m f body = calls_in (value_in m f body)

-- the text of a stream's query, which one value spells
abbrev pub text_asks : ℕ → Form → Option (List ℕ) → Asks
text_asks m f None = Unclear
text_asks m f (Some text) = plain_asks m f text

abbrev pub case_asks : ℕ → Form → ℕ → List Value → Asks
case_asks m f zero vs = text_asks m f (option_and_then text_told (only_told vs))
case_asks m f (suc place) vs = Aborts

abbrev pub told_asks : ℕ → Form → Option (ℕ × List Value) → Asks
told_asks m f None = Unclear
told_asks m f (Some c) = case_asks m f c.0 c.1

abbrev pub stream_asks : ℕ → Form → List ℕ → Asks
stream_asks m f body = told_asks m f (option_and_then case_told (value_in m stream_query_form body))

abbrev pub asks_by : Kind → ℕ → Form → List ℕ → Asks
asks_by Plain m f body = plain_asks m f body
asks_by OneWay m f body = plain_asks m f body
asks_by Pipe m f body = stream_asks m f body
asks_by State m f body = stream_asks m f body

-- what a query to a procedure asks
abbrev pub asks_in : ℕ → RpcDesc → List ℕ → Asks
asks_in m d body = asks_by d.kind m (form_of d.query) body

abbrev pub is_abort : Asks → Bool
is_abort (Calls v) = false
is_abort Aborts = true
is_abort Unclear = false

-- whether the menu is asked for by unit
abbrev pub asks_menu : ℕ → List ℕ → Asks
asks_menu m body = plain_asks m unit body
