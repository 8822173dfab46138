-- The report of a replay: a line for each event that was refused, the lines of a dispatch for each that shows one, and the closing lines.
use Rattle.std.specs.Prelude.{ℕ, List, [], ◌++◌, codes, Option, Some, None}
use Rattle.std.specs.Fmt.{decimal}
use Rattle.std.specs.List.{find, flat_map}
use Rattle.std.specs.Str.{bytes_eq}
use Rattle.rpc_msg.specs.declared.shared.Ending.{Ending}
use Rattle.rpc_schema.specs.declared.desc.RpcDesc.{RpcDesc}
use Rattle.rpc_schedule.specs.declared.event.Event.{Event}
use Rattle.rpc_schedule.specs.declared.event.Event.TheVariants as ev
use Rattle.rpc_schedule.specs.declared.event.Lined.{Lined}
use Rattle.rpc_meeting.specs.declared.answer.Refusal.{Refusal}
use Rattle.rpc_meeting.specs.declared.answer.Refusal.TheVariants as refusal
use Rattle.rpc_meeting.specs.declared.answer.StepAnswer.{StepAnswer}
use Rattle.rpc_meeting.specs.declared.answer.StepAnswer.TheVariants.{Done, Refused, Shown}
use Rattle.rpc_pair.specs.Sights.{Condition, Opening, Opened, Shut, Seen, Sight}
use Rattle.rpc_report.specs.Dispatches.{ending_text, head_text, line_below, part_text}
use Rattle.rpc_report.specs.Texts.{cause_text}
use Rattle.rpc_tool.specs.Lines.{line, line_about}

-- ---- a dispatch

abbrev pub last_text : RpcDesc → Option Ending → List ℕ
last_text d None = line_below (codes "waiting")
last_text d (Some e) = ending_text d e

-- its head, a line for each part, and that of its ending
abbrev pub seen_text : Seen → List ℕ
seen_text s = head_text s.label s.id s.desc.name s.desc.version ++ (flat_map (part_text s.desc) s.held.parts ++ last_text s.desc s.held.ending)

abbrev pub found_text : Option Seen → List ℕ
found_text None = []
found_text (Some s) = seen_text s

-- ---- an event

abbrev pub refusal_text : Refusal → List ℕ
refusal_text refusal.LabelTaken = codes "label taken"
refusal_text refusal.NoSuchRpc = codes "no such rpc"
refusal_text refusal.NoMenu = codes "no menu"
refusal_text refusal.NoVersion = codes "no version"
refusal_text refusal.BadValue = codes "bad value"
refusal_text refusal.Closed = codes "closed"
refusal_text refusal.NotOpen = codes "not open"
refusal_text refusal.TooLong = codes "too long"
refusal_text refusal.TooManyOpen = codes "too many open"
refusal_text refusal.IdsSpent = codes "ids spent"
refusal_text refusal.NoSuchLabel = codes "no such label"
refusal_text refusal.AlreadyEnded = codes "already ended"
refusal_text refusal.NotStream = codes "not stream"
refusal_text refusal.NotBegun = codes "not begun"
refusal_text refusal.WrongKind = codes "wrong kind"
refusal_text refusal.NoSuch = codes "no such"
refusal_text refusal.Stopped = codes "stopped"
refusal_text refusal.AlreadyBegun = codes "already begun"

-- an event, its answer, and what is seen of both ends behind it
pub record Told : Type 0 where
  pub lined : Lined
  pub answer : StepAnswer
  pub sight : Sight

-- the lines of the dispatch that an event shows
abbrev pub shown_text : Event → Sight → List ℕ
shown_text (ev.Show label) sight = found_text (find (λ s. bytes_eq s.label label) sight.dispatches)
shown_text (ev.Ask label name version text) sight = []
shown_text (ev.Menu label) sight = []
shown_text (ev.Best label name text) sight = []
shown_text (ev.Abort label) sight = []
shown_text (ev.Reply label text) sight = []
shown_text (ev.Begin label text) sight = []
shown_text (ev.Decline label text) sight = []
shown_text (ev.Item label text) sight = []
shown_text (ev.Fail label text) sight = []
shown_text (ev.End label) sight = []
shown_text (ev.Up count by) sight = []
shown_text (ev.Down count by) sight = []
shown_text (ev.At now) sight = []
shown_text ev.CloseClient sight = []
shown_text ev.CloseServer sight = []
shown_text ev.EofClient sight = []
shown_text ev.EofServer sight = []

abbrev pub answer_text : Lined → StepAnswer → Sight → List ℕ
answer_text l Done sight = []
answer_text l (Refused why) sight = line_about l.line (refusal_text why)
answer_text l Shown sight = shown_text l.event sight

abbrev pub told_text : Told → List ℕ
told_text t = answer_text t.lined t.answer t.sight

-- ---- the closing lines

abbrev pub condition_text : Condition → List ℕ
condition_text Opening = codes "opening"
condition_text Opened = codes "open"
condition_text (Shut why) = codes "closed: " ++ cause_text why

abbrev pub end_line : List ℕ → Condition → List ℕ
end_line name c = line (name ++ condition_text c)

abbrev pub moved_line : List ℕ → ℕ → ℕ → List ℕ
moved_line way moved put = line (way ++ (decimal moved ++ (codes " of " ++ decimal put)))

-- those of the dispatches, then how both ends stand, and the bytes moved and put
abbrev pub closing_text : Sight → List ℕ
closing_text s =
    flat_map seen_text s.dispatches
    ++ (end_line (codes "client ") s.client
    ++ (end_line (codes "server ") s.server
    ++ (moved_line (codes "up ") s.moved.up s.moved.up_put
    ++ moved_line (codes "down ") s.moved.down s.moved.down_put)))

-- the events in their order, and what is seen at the end
abbrev pub report_text : List Told → Sight → List ℕ
report_text tolds last = flat_map told_text tolds ++ closing_text last
