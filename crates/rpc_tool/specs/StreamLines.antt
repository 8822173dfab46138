-- The lines that `frames` writes about what a stream has.
use Rattle.std.specs.Prelude.{ℕ, List, ◌++◌, codes}
use Rattle.std.specs.Fmt.{decimal}
use Rattle.std.specs.List.{flat_map}
use Rattle.hex.specs.Hex.{encode_lower}
use Rattle.bp_text_grammar.specs.Printed.{decimal_text, quoted_text}
use Rattle.bp_text_grammar.specs.PrintedTexts.{value_text}
use Rattle.rpc_msg.specs.Forms.{header_form}
use Rattle.rpc_msg.specs.Values.{header_value}
use Rattle.rpc_msg.specs.declared.message.Header.{Header}
use Rattle.rpc_msg.specs.declared.message.Query.{Query}
use Rattle.rpc_msg.specs.declared.message.Answer.{Answer}
use Rattle.rpc_msg.specs.declared.message.Answer.TheVariants as answer
use Rattle.rpc_msg.specs.declared.message.Message.{Message}
use Rattle.rpc_msg.specs.declared.message.Message.TheVariants as message
use Rattle.rpc_report.specs.Texts.{cause_text, error_text}
use Rattle.rpc_tool.specs.Lines.{line}
use Rattle.rpc_tool.specs.declared.stream_reading.Stop.{Stop}
use Rattle.rpc_tool.specs.declared.stream_reading.Stop.TheVariants as stop

-- ---- what was read

-- the versions, as the text of their list
abbrev pub header_line : Header → List ℕ
header_line header = line (codes "versions " ++ value_text header_form (header_value header))

abbrev pub query_text : Query → List ℕ
query_text q =
    codes "query " ++ (quoted_text q.tag ++ (codes " " ++ (decimal_text q.version ++ (codes " " ++ (decimal_text q.id ++ (codes " " ++ encode_lower q.body))))))

abbrev pub answer_text : Answer → List ℕ
answer_text (answer.Ok body) = codes "ok " ++ encode_lower body
answer_text (answer.Error e) = codes "error " ++ error_text e

abbrev pub message_text : Message → List ℕ
message_text message.Heartbeat = codes "heartbeat"
message_text (message.Query q) = query_text q
message_text (message.Response r) = codes "response " ++ (decimal_text r.id ++ (codes " " ++ answer_text r.result))

abbrev pub message_line : Message → List ℕ
message_line m = line (message_text m)

abbrev pub told_lines : Header → List Message → List ℕ
told_lines header messages = header_line header ++ flat_map message_line messages

-- ---- why no more was read

abbrev pub stop_line : Stop → List ℕ
stop_line (stop.Closed cause) = line (cause_text cause)
stop_line (stop.Cut at) = line (codes "frame cut at " ++ decimal at)
