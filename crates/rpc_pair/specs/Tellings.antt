-- The acts by which a handler tells a value.
use Rattle.std.specs.Prelude.{ℕ, Bool, List}
use Rattle.bp_value.specs.declared.value.Value.{Value}
use Rattle.bp_value.specs.Form.{Form, form_of}
use Rattle.rpc_schema.specs.declared.desc.Kind.{Kind}
use Rattle.rpc_schema.specs.declared.desc.RpcDesc.{RpcDesc}
use Rattle.rpc_schedule.specs.declared.event.Event.{Event}
use Rattle.rpc_schedule.specs.declared.event.Event.TheVariants as ev
use Rattle.rpc_talk.specs.Acts.{Act, Reply, Begin, Decline, Give}
use Rattle.rpc_talk.specs.Parts.{is_stream, takes_reply}
use Rattle.rpc_pair.specs.declared.telling.Telling.{Telling}
use Rattle.rpc_pair.specs.declared.telling.Telling.TheVariants as telling

abbrev pub act_told : Telling → Value → Act
act_told telling.Reply v = Reply v
act_told telling.Begin v = Begin v
act_told telling.Decline v = Decline v
act_told telling.Item v = Give v

-- of which kinds of procedures they are
abbrev pub is_told_of : Telling → Kind → Bool
is_told_of telling.Reply kind = takes_reply kind
is_told_of telling.Begin kind = is_stream kind
is_told_of telling.Decline kind = is_stream kind
is_told_of telling.Item kind = is_stream kind

-- the form of the value
abbrev pub told_form : Telling → RpcDesc → Form
told_form telling.Reply d = form_of d.first
told_form telling.Begin d = form_of d.first
told_form telling.Decline d = form_of d.error
told_form telling.Item d = form_of d.item

-- the event of such an act
abbrev pub told_event : Telling → List ℕ → List ℕ → Event
told_event telling.Reply label text = ev.Reply label text
told_event telling.Begin label text = ev.Begin label text
told_event telling.Decline label text = ev.Decline label text
told_event telling.Item label text = ev.Item label text
