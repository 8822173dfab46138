-- The forms of what frames hold (`protocol.ml`): a header, a message and what it says, and the data of streams.
use Rattle.std.specs.Prelude.{[], codes}
use Rattle.bp_value.specs.Form.{Form, Parts, Cases, int, text, listed, fields, sum, poly, sexp, end, part, end_cases, case}

-- one argument of a case
abbrev pub only : Form → Parts
only f = part [] f end

-- an `int list`
abbrev pub header_form : Form
header_form = listed int

abbrev pub version_form : Form
version_form = poly (case (codes "Version") (only int) end_cases)

-- the name and the version that no procedure has
abbrev pub unimplemented_parts : Parts
unimplemented_parts = part [] text (only version_form)

abbrev pub error_cases : Cases
error_cases =
    case (codes "Bin_io_exn") (only sexp)
    (case (codes "Connection_closed") end
    (case (codes "Write_error") (only sexp)
    (case (codes "Uncaught_exn") (only sexp)
    (case (codes "Unimplemented_rpc") unimplemented_parts
    (case (codes "Unknown_query_id") (only int) end_cases)))))

abbrev pub error_form : Form
error_form = sum error_cases

abbrev pub query_form : Form
query_form = fields (part (codes "tag") text (part (codes "version") int (part (codes "id") int (part (codes "body") text end))))

abbrev pub answer_form : Form
answer_form = sum (case (codes "Ok") (only text) (case (codes "Error") (only error_form) end_cases))

abbrev pub response_form : Form
response_form = fields (part (codes "id") int (part (codes "result") answer_form end))

abbrev pub message_form : Form
message_form =
    sum (case (codes "Heartbeat") end (case (codes "Query") (only query_form) (case (codes "Response") (only response_form) end_cases)))

-- ---- the data of streams

abbrev pub query_cases : Cases
query_cases = case (codes "Query") (only text) (case (codes "Abort") end end_cases)

abbrev pub stream_query_form : Form
stream_query_form = poly query_cases

-- a first answer, by the forms of what begins the stream and of what declines it
abbrev pub first_cases : Form → Form → Cases
first_cases first error = case (codes "Ok") (only first) (case (codes "Error") (only error) end_cases)

abbrev pub first_form : Form → Form → Form
first_form first error = fields (part (codes "unused") int (part (codes "result") (sum (first_cases first error)) end))

abbrev pub part_cases : Cases
part_cases = case (codes "Ok") (only text) (case (codes "Eof") end end_cases)

abbrev pub part_form : Form
part_form = poly part_cases
