-- Acts without their values.
use Rattle.std.specs.Prelude.{◌≡◌, ℕ, ℤ, pos, Bool, true, false, List, Option, Some, None, Result, Ok, Err, if◌then◌else◌, length, slice_get, ◌<◌}
use Rattle.bp_grammar.specs.Written.{written}
use Rattle.bp_value.specs.Fits.{Fits}
use Rattle.bp_value.specs.Form.{form_of}
use Rattle.bp_value.specs.declared.shape.Shape.{Shape}
use Rattle.bp_value.specs.declared.value.Value.{Value}
use Rattle.rpc_msg.specs.Forms.{part_form}
use Rattle.rpc_msg.specs.Values.{item_value}
use Rattle.rpc_msg.specs.declared.data.First.TheVariants as first
use Rattle.rpc_schema.specs.declared.desc.Entry.{Entry}
use Rattle.rpc_schema.specs.declared.desc.Kind.{Kind}
use Rattle.rpc_schema.specs.declared.desc.RpcDesc.{RpcDesc}
use Rattle.rpc_talk.specs.Acts.{Act, Reply, Fail, Begin, Decline, Give, End, Stop, first_bytes}
use Rattle.rpc_talk.specs.Parts.{takes_reply, is_stream, is_tracked}
use Rattle.rpc_server.specs.Rules.{Rules}
use Rattle.rpc_server.specs.Tables.{place_in_schema}
use Rattle.rpc_server.specs.declared.error.ActError.{ActError}
use Rattle.rpc_server.specs.declared.error.ActError.TheVariants as refused
use Rattle.rpc_server.specs.declared.table.Standing.{Standing}
use Rattle.rpc_server.specs.declared.table.Standing.TheVariants.{Nowhere, Open, Stopped}
use Rattle.rpc_server.specs.declared.steps.Step.{Step}
use Rattle.rpc_server.specs.declared.steps.Step.TheVariants as step
use Rattle.rpc_server.specs.declared.steps.Telling.{Telling}
use Rattle.rpc_server.specs.declared.steps.Telling.TheVariants as telling

abbrev pub told_act : Telling → Value → Act
told_act telling.Reply v = Reply v
told_act telling.Begin v = Begin v
told_act telling.Decline v = Decline v
told_act telling.Item v = Give v

abbrev pub step_of : Act → Step
step_of (Reply v) = step.Tells telling.Reply
step_of (Fail text) = step.Fail
step_of (Begin v) = step.Tells telling.Begin
step_of (Decline v) = step.Tells telling.Decline
step_of (Give v) = step.Tells telling.Item
step_of End = step.End
step_of Stop = step.End

abbrev pub telling_suits : Telling → Kind → Bool
telling_suits telling.Reply kind = takes_reply kind
telling_suits telling.Begin kind = is_stream kind
telling_suits telling.Decline kind = is_stream kind
telling_suits telling.Item kind = is_stream kind

abbrev pub step_suits : Step → Kind → Bool
step_suits (step.Tells t) kind = telling_suits t kind
step_suits step.Fail kind = is_tracked kind
step_suits step.End kind = is_stream kind

abbrev pub telling_refusal : Telling → Bool → Option ActError
telling_refusal telling.Reply begun = None
telling_refusal telling.Begin begun = if begun then Some refused.AlreadyBegun else None
telling_refusal telling.Decline begun = if begun then Some refused.AlreadyBegun else None
telling_refusal telling.Item begun = if begun then None else Some refused.NotBegun

abbrev pub order_refusal : Step → Bool → Option ActError
order_refusal (step.Tells t) begun = telling_refusal t begun
order_refusal step.Fail begun = None
order_refusal step.End begun = if begun then None else Some refused.NotBegun

abbrev pub step_refusal : Step → Kind → Bool → Option ActError
step_refusal s kind begun = if step_suits s kind then order_refusal s begun else Some refused.WrongKind

abbrev pub step_kind_refusal : Step → Bool → Option Entry → Option ActError
step_kind_refusal s begun None = Some refused.NoSuch
step_kind_refusal s begun (Some e) = step_refusal s e.desc.kind begun

abbrev pub step_standing_refusal : Rules → Step → Standing → Option ActError
step_standing_refusal r s Nowhere = Some refused.NoSuch
step_standing_refusal r s Stopped = Some refused.Stopped
step_standing_refusal r s (Open place begun) = step_kind_refusal s begun (slice_get r.entries place)

-- the place of the entry that is called, or why the act is refused
abbrev pub IsAdmitted : Option ActError → Standing → Result ℕ ActError → Type 0
IsAdmitted why s (Ok place) = (why ≡ None) × (place_in_schema s ≡ Some place)
IsAdmitted why s (Err error) = why ≡ Some error

-- how a query to the entry at the place stands behind it
abbrev pub telling_after : Telling → ℕ → Standing
telling_after telling.Reply place = Nowhere
telling_after telling.Begin place = Open place true
telling_after telling.Decline place = Nowhere
telling_after telling.Item place = Open place true

-- the shape of its value, and the data that tells it
abbrev pub shape_for : Telling → RpcDesc → Shape
shape_for telling.Reply d = d.first
shape_for telling.Begin d = d.first
shape_for telling.Decline d = d.error
shape_for telling.Item d = d.item

abbrev pub data_for : Telling → RpcDesc → Value → List ℕ
data_for telling.Reply d v = written (form_of d.first) v
data_for telling.Begin d v = first_bytes d (first.Begun v)
data_for telling.Decline d v = first_bytes d (first.Declined v)
data_for telling.Item d v = written part_form (item_value (written (form_of d.item) v))

-- the data of an act; or its value is none of its shape; or the data is too long
abbrev pub MakesData : ℕ → Telling → RpcDesc → Value → Result (List ℕ) ActError → Type 0
MakesData m t d v (Ok bytes) = Fits m (form_of (shape_for t d)) v × (bytes ≡ data_for t d v)
MakesData m t d v (Err refused.BadValue) = Fits m (form_of (shape_for t d)) v → ⊥
MakesData m t d v (Err (refused.TooLong max)) = Fits m (form_of (shape_for t d)) v × (max ≡ m) × (m < length (data_for t d v))
MakesData m t d v (Err refused.OutOfMemory) = Unit {0}
MakesData m t d v (Err refused.Closed) = ⊥
MakesData m t d v (Err refused.NoSuch) = ⊥
MakesData m t d v (Err refused.Stopped) = ⊥
MakesData m t d v (Err refused.WrongKind) = ⊥
MakesData m t d v (Err refused.AlreadyBegun) = ⊥
MakesData m t d v (Err refused.NotBegun) = ⊥
