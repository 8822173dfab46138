-- The calls of a client, in the order in which they were made, and found by their ids.
use Rattle.std.specs.Prelude.{◌≡◌, ℕ, ◌+◌, ◌*◌, ◌≤◌, ◌^◌, ℤ, pos, Bool, true, false, not, List, [], ◌∷◌, Option, Some, None, Result, Ok, Err, if◌then◌else◌}
use Rattle.std.specs.List.{count_by, find}
use Rattle.std.specs.Ordering.{int_eq}
use Rattle.rpc_msg.specs.declared.message.Answer.{Answer}
use Rattle.rpc_msg.specs.declared.shared.CloseCause.{CloseCause}
use Rattle.rpc_msg.specs.declared.shared.CloseCause.TheVariants as cause
use Rattle.rpc_schema.specs.declared.desc.Kind.{Kind}
use Rattle.rpc_talk.specs.Parts.{is_stream, is_tracked}
use Rattle.bp_grammar.specs.Written.{written}
use Rattle.bp_value.specs.declared.value.Value.{Value}
use Rattle.bp_value.specs.Form.{form_of}
use Rattle.rpc_msg.specs.declared.data.StreamQuery.TheVariants as stream
use Rattle.rpc_msg.specs.declared.message.Message.{Message}
use Rattle.rpc_msg.specs.declared.message.Message.TheVariants as message
use Rattle.rpc_msg.specs.declared.shared.Ending.{Ending}
use Rattle.rpc_msg.specs.declared.shared.Received.{Received}
use Rattle.rpc_msg.specs.Forms.{stream_query_form}
use Rattle.rpc_msg.specs.Values.{stream_query_value}
use Rattle.rpc_schema.specs.declared.desc.RpcDesc.{RpcDesc}
use Rattle.rpc_end.specs.Ends.{EndState, said}
use Rattle.rpc_client.specs.declared.error.AbortError.{AbortError}
use Rattle.rpc_client.specs.declared.error.AbortError.TheVariants as refused
use Rattle.rpc_client.specs.declared.entry.Took.{Took}
use Rattle.rpc_client.specs.declared.entry.Took.TheVariants as took
use Rattle.rpc_client.specs.Rows.{Row, abort_refusal, row_aborted, is_row_open, row_answered, answer_taken, after_take, ShowsRow}

-- ---- ids

abbrev pub has_row_id : ℤ → Row → Bool
has_row_id id row = int_eq row.id id

abbrev pub find_row : ℤ → List Row → Option Row
find_row id rows = find (has_row_id id) rows

abbrev pub is_answered : Row → Bool
is_answered row = is_tracked row.desc.kind

abbrev pub is_unanswered : Row → Bool
is_unanswered row = not (is_tracked row.desc.kind)

-- a call that is answered has twice the number of those before it, and one that is not the odd number behind
abbrev pub call_number : Bool → List Row → ℕ
call_number true rows = 2 * count_by is_answered rows
call_number false rows = 2 * count_by is_unanswered rows + 1

abbrev pub next_number : Kind → List Row → ℕ
next_number kind rows = call_number (is_tracked kind) rows

abbrev pub next_call_id : Kind → List Row → ℤ
next_call_id kind rows = pos (next_number kind rows)

-- how many calls there are, of each sort: the last id of a sort is 2^61 at most
pub record AreCounted (rows : List Row) (tracked one_way : ℕ) : Type 0 where
  pub answered : tracked ≡ count_by is_answered rows
  pub unanswered : one_way ≡ count_by is_unanswered rows
  pub few : tracked ≤ 2 ^ 60 + 1
  pub few_one_way : one_way ≤ 2 ^ 60 + 1

-- an answer is waited for
abbrev pub is_waited_for : Row → Bool
is_waited_for row = is_row_open row

-- ---- one row

-- the rows with this one in place of the first of its id
abbrev pub with_row : Row → List Row → List Row
with_row new [] = []
with_row new (row ∷ rows) = if has_row_id new.id row then new ∷ rows else row ∷ with_row new rows

abbrev pub rows_with : List Row → Result Row CloseCause → Result (List Row) CloseCause
rows_with rows (Ok row) = Ok (with_row row rows)
rows_with rows (Err why) = Err why

abbrev pub row_heard : ℕ → List Row → ℤ → Answer → Option Row → Result (List Row) CloseCause
row_heard m rows id a None = Err (cause.UnknownId id)
row_heard m rows id a (Some row) = rows_with rows (row_answered m row a)

-- the rows after an answer to a call, or why the client closes
abbrev pub rows_heard : ℕ → List Row → ℤ → Answer → Result (List Row) CloseCause
rows_heard m rows id a = row_heard m rows id a (find_row id rows)

abbrev pub RowTaken : Bool → List Row → Took → List Row → Option Row → Type 0
RowTaken closed old answer new None = (answer ≡ took.Stranger) × (new ≡ old)
RowTaken closed old answer new (Some row) = (answer ≡ answer_taken closed row) × (new ≡ with_row (after_take closed row) old)

-- a take of the call with an id answers so, and leaves these rows
abbrev pub TakesRow : Bool → List Row → ℤ → Took → List Row → Type 0
TakesRow closed old id answer new = RowTaken closed old answer new (find_row id old)

-- ---- queries

-- the data of a query: its spelling, which a stream has as a text of a variant
abbrev pub data_by : Bool → List ℕ → List ℕ
data_by false text = text
data_by true text = written stream_query_form (stream_query_value (stream.Query text))

abbrev pub query_data : RpcDesc → Value → List ℕ
query_data d v = data_by (is_stream d.kind) (written (form_of d.query) v)

abbrev pub call_query : RpcDesc → ℤ → List ℕ → Message
call_query d id body = message.Query (record { tag = d.name; version = d.version; id = id; body = body })

abbrev pub abort_data : List ℕ
abort_data = written stream_query_form (stream_query_value stream.Abort)

-- ---- what is shown

-- what is shown of the call with an id, if its ending was not taken
abbrev pub ShownOf : Option Ending → Option Row → Option Received → Type 0
ShownOf closed None shown = shown ≡ None
ShownOf closed (Some row) shown = ShowsRow row closed shown

-- ---- aborts

-- why the call with an id cannot be aborted, if it cannot
abbrev pub refusal_at : Option Row → Option AbortError
refusal_at None = Some refused.Stranger
refusal_at (Some row) = abort_refusal row

-- it is cut, and its abort goes out
abbrev pub AbortsRow : List Row → EndState → Option Row → List Row → EndState → Type 0
AbortsRow old link None new behind = ⊥
AbortsRow old link (Some row) new behind = (new ≡ with_row (row_aborted row) old) × (behind ≡ said link (call_query row.desc row.id abort_data))

abbrev pub RefusedBy : Option AbortError → AbortError → Type 0
RefusedBy why refused.Closed = why ≡ Some refused.Closed
RefusedBy why refused.Stranger = why ≡ Some refused.Stranger
RefusedBy why refused.AlreadyEnded = why ≡ Some refused.AlreadyEnded
RefusedBy why refused.NotStream = why ≡ Some refused.NotStream
RefusedBy why refused.NotBegun = why ≡ Some refused.NotBegun
RefusedBy why refused.OutOfMemory = Unit {0}

abbrev pub AbortsIn : List Row → EndState → ℤ → Result (Unit {0}) AbortError → List Row → EndState → Type 0
AbortsIn old link id (Ok u) new behind = (refusal_at (find_row id old) ≡ None) × AbortsRow old link (find_row id old) new behind
AbortsIn old link id (Err why) new behind = RefusedBy (refusal_at (find_row id old)) why × (new ≡ old) × (behind ≡ link)
