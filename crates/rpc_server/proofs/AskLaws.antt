-- What the data of a query asks, by what it reads as.
use Rattle.std.proofs.Common.{◌≡◌, refl, sym, ap, ◌∙◌, subst, ℕ, zero, Bool, true, false, List, [], ◌∷◌}
use Rattle.std.specs.Prelude.{Option, Some, None}
use Rattle.std.specs.Option.{option_map, option_and_then}
use Rattle.bp_value.specs.declared.value.Value.{Value}
use Rattle.bp_value.specs.declared.value.Value.TheVariants.{Text, Case}
use Rattle.bp_value.specs.Form.{Form, form_of}
use Rattle.bp_value.proofs.Layers.{out_text, out_case}
use Rattle.rpc_log.specs.Readings.{text_by, case_by, only_told, text_told, case_told, value_in}
use Rattle.rpc_msg.specs.Forms.{stream_query_form}
use Rattle.rpc_msg.specs.Values.{stream_query_value}
use Rattle.rpc_msg.specs.declared.data.StreamQuery.{StreamQuery}
use Rattle.rpc_msg.specs.declared.data.StreamQuery.TheVariants as stream
use Rattle.rpc_schema.specs.declared.desc.Kind.{Kind}
use Rattle.rpc_schema.specs.declared.desc.Kind.TheVariants.{Plain, OneWay, Pipe, State}
use Rattle.rpc_schema.specs.declared.desc.RpcDesc.{RpcDesc}
use Rattle.rpc_talk.specs.Asks.{Asks, Calls, Aborts, Unclear, calls_in, plain_asks, text_asks, case_asks, told_asks, stream_asks, asks_by, asks_in, is_abort}
use Rattle.rpc_talk.specs.Parts.{is_stream}
use Rattle.rpc_server.specs.Asking.{is_end}

abbrev asks_from : ℕ → Form → Option Value → Asks
asks_from m f o = told_asks m f (option_and_then case_told o)

-- a query with a text, and an abort
pub query_asks : (m : ℕ) (f : Form) (text : List ℕ) → asks_from m f (Some (stream_query_value (stream.Query text))) ≡ plain_asks m f text
query_asks m f text =
    ap (told_asks m f) (ap case_by (out_case 0 (Text text ∷ []))) ∙ ap (text_asks m f) (ap text_by (out_text text))

pub abort_asks : (m : ℕ) (f : Form) → asks_from m f (Some (stream_query_value stream.Abort)) ≡ Aborts
abort_asks m f = ap (told_asks m f) (ap case_by (out_case 1 []))

pub stream_by : (m : ℕ) (f : Form) (body : List ℕ) (o : Option StreamQuery) → option_map stream_query_value o ≡ value_in m stream_query_form body
    → asks_from m f (option_map stream_query_value o) ≡ stream_asks m f body
stream_by m f body o e = ap (asks_from m f) e

no_abort : (o : Option Value) → is_abort (calls_in o) ≡ false
no_abort None = refl
no_abort (Some v) = refl

ends_by : (m : ℕ) (f : Form) (o : Option StreamQuery) → is_end o ≡ is_abort (asks_from m f (option_map stream_query_value o))
ends_by m f None = refl
ends_by m f (Some (stream.Query text)) = sym (ap is_abort (query_asks m f text) ∙ no_abort (value_in m f text))
ends_by m f (Some stream.Abort) = sym (ap is_abort (abort_asks m f))

false_true : false ≡ true → ⊥
false_true e = cc

pub is_abort_by : (m : ℕ) (kind : Kind) (f : Form) (body : List ℕ) (o : Option StreamQuery) → is_stream kind ≡ true
    → option_map stream_query_value o ≡ value_in m stream_query_form body → is_end o ≡ is_abort (asks_by kind m f body)
is_abort_by m Plain f body o streams e = absurd (false_true streams)
is_abort_by m OneWay f body o streams e = absurd (false_true streams)
is_abort_by m Pipe f body o streams e = ends_by m f o ∙ ap is_abort (stream_by m f body o e)
is_abort_by m State f body o streams e = ends_by m f o ∙ ap is_abort (stream_by m f body o e)
