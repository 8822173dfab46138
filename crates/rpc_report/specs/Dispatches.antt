-- The lines of a dispatch: its head, a part, and its ending. Each has its end.
use Rattle.std.specs.Prelude.{ℕ, ℤ, List, [], ◌∷◌, ◌++◌, codes}
use Rattle.bp_value.specs.Form.{form_of}
use Rattle.bp_text.specs.Printing.{IsOf}
use Rattle.bp_text_grammar.specs.Printed.{decimal_text}
use Rattle.bp_text_grammar.specs.PrintedTexts.{value_text}
use Rattle.rpc_msg.specs.declared.shared.Ending.{Ending}
use Rattle.rpc_msg.specs.declared.shared.Ending.TheVariants as ending
use Rattle.rpc_msg.specs.declared.shared.Part.{Part}
use Rattle.rpc_msg.specs.declared.shared.Part.TheVariants as part
use Rattle.rpc_schema.specs.TextLines.{line_end}
use Rattle.rpc_schema.specs.declared.desc.RpcDesc.{RpcDesc}
use Rattle.rpc_report.specs.Texts.{error_text, fault_text}

-- ---- the head

abbrev pub head_text : List ℕ → ℤ → List ℕ → ℤ → List ℕ
head_text label id name version =
    label ++ (codes " id " ++ (decimal_text id ++ (codes " " ++ (name ++ (codes " " ++ (decimal_text version ++ line_end ∷ []))))))

-- ---- the lines below it

abbrev pub line_below : List ℕ → List ℕ
line_below words = codes "  " ++ (words ++ line_end ∷ [])

abbrev pub part_words : RpcDesc → Part → List ℕ
part_words d (part.First v) = codes "first " ++ value_text (form_of d.first) v
part_words d (part.Item v) = codes "item " ++ value_text (form_of d.item) v

abbrev pub part_text : RpcDesc → Part → List ℕ
part_text d p = line_below (part_words d p)

-- the first answer of a stream and the one answer of a plain procedure have one shape
abbrev pub ending_words : RpcDesc → Ending → List ℕ
ending_words d (ending.Reply v) = codes "reply " ++ value_text (form_of d.first) v
ending_words d (ending.Failed e) = codes "failed " ++ error_text e
ending_words d (ending.BadReply f) = codes "bad reply " ++ fault_text f
ending_words d (ending.Declined v) = codes "declined " ++ value_text (form_of d.error) v
ending_words d ending.Eof = codes "eof"
ending_words d ending.Aborted = codes "aborted"
ending_words d ending.Sent = codes "sent"
ending_words d ending.Closed = codes "closed"

abbrev pub ending_text : RpcDesc → Ending → List ℕ
ending_text d e = line_below (ending_words d e)

-- ---- what has such lines

-- the value is of the shape that it is printed by, however long its texts and lists are
abbrev pub IsPartOf : RpcDesc → Part → Type 0
IsPartOf d (part.First v) = IsOf (form_of d.first) v
IsPartOf d (part.Item v) = IsOf (form_of d.item) v

abbrev pub IsEndingOf : RpcDesc → Ending → Type 0
IsEndingOf d (ending.Reply v) = IsOf (form_of d.first) v
IsEndingOf d (ending.Declined v) = IsOf (form_of d.error) v
IsEndingOf d (ending.Failed e) = Unit {0}
IsEndingOf d (ending.BadReply f) = Unit {0}
IsEndingOf d ending.Eof = Unit {0}
IsEndingOf d ending.Aborted = Unit {0}
IsEndingOf d ending.Sent = Unit {0}
IsEndingOf d ending.Closed = Unit {0}
