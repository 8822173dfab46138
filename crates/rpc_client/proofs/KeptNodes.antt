-- What a client keeps decoded has no more nodes than the client got bytes.
use Rattle.std.proofs.Common.{◌≡◌, ◌≢◌, refl, sym, ap, ◌∙◌, subst, ℕ, ◌+◌, ◌≤◌, ℤ, Bool, true, false, if◌then◌else◌, List, [], ◌∷◌, drop, length, arith}
use Rattle.std.specs.Prelude.{Option, Some, None}
use Rattle.std.specs.List.{sum_by, cons_option}
use Rattle.std.specs.Ordering.{int_eq}
use Rattle.std.proofs.lemmas.Bool.Decides.{Decides-int_eq}
use Rattle.std.proofs.lemmas.List.Sums.{sum_by-cons, sum_by-take-drop, sum_by-take-le}
use Rattle.readers.specs.Reader.{Each}
use Rattle.rpc_msg.specs.declared.message.Message.{Message}
use Rattle.rpc_msg.specs.declared.message.Message.TheVariants as message
use Rattle.rpc_msg.specs.declared.message.Response.{Response}
use Rattle.rpc_msg.specs.declared.shared.Part.{Part}
use Rattle.rpc_log.specs.Logs.{log_of, responses_of}
use Rattle.rpc_end.proofs.Taken.{limit_few}
use Rattle.rpc_end.specs.Ends.{is_closed}
use Rattle.rpc_talk.specs.Parts.{Fate, Goes_on, Ends, Broken, CallParts, cut_parts, cut_ending, parts_of}
use Rattle.rpc_client.specs.Clients.{ClientState}
use Rattle.rpc_client.specs.Kept.{accepted_of, row_calls, ending_kept, Holds, HasGot, HaveOwnIds, IsKept}
use Rattle.rpc_client.specs.Nodes.{stream_part_nodes, nodes_at_end, row_nodes, kept_count}
use Rattle.rpc_client.specs.Rows.{Row, IsCallable}
use Rattle.rpc_client.proofs.LogNodes.{message_size, AnswersBytes, stream_short, accepted_short}
use Rattle.rpc_client.proofs.SaidNodes.{answer_size, HasBytes, fate_nodes, parts_nodes, parts_few}

-- ---- one row

cut_few : (cut : Option ℕ) (ps : List Part) → sum_by stream_part_nodes (cut_parts cut ps) ≤ sum_by stream_part_nodes ps
cut_few None ps = omega arith
cut_few (Some c) ps = sum_by-take-le stream_part_nodes ps c

left_few : (taken : ℕ) (ps : List Part) → sum_by stream_part_nodes (drop taken ps) ≤ sum_by stream_part_nodes ps
left_few taken ps = omega (arith, sum_by-take-drop stream_part_nodes ps taken)

ending_few : (handed : Bool) (cut : Option ℕ) (mark : Fate)
    → nodes_at_end (ending_kept handed (cut_ending cut mark false)) ≤ fate_nodes mark
ending_few true cut mark = omega arith
ending_few false (Some c) mark = omega arith
ending_few false None Goes_on = omega arith
ending_few false None (Ends e) = omega arith
ending_few false None Broken = omega arith

-- a row keeps a part of what the answers make of its call
row_few : (p : CallParts) (closed : Bool) (row : Row) → Holds p closed row → row_nodes row ≤ parts_nodes p
row_few p closed row holds =
    let waits = ap (sum_by stream_part_nodes) holds.waiting in
    let left = left_few row.taken (cut_parts row.cut p.parts) in
    let cut = cut_few row.cut p.parts in
    let ends = ap nodes_at_end holds.ending in
    let last = ending_few row.handed row.cut p.mark in
    omega (arith, waits, left, cut, ends, last)

-- ---- the answers to a call

responses_bytes : (id : ℤ) (log : List Message) → Each AnswersBytes log → Each HasBytes (responses_of id log)
responses_bytes id [] vs = tt
responses_bytes id (message.Heartbeat ∷ log) (here, there) = responses_bytes id log there
responses_bytes id (message.Query q ∷ log) (here, there) = responses_bytes id log there
responses_bytes id (message.Response r ∷ log) (here, there) = by (int_eq r.id id) (responses_bytes id log there)
  where
    by : (b : Bool) → Each HasBytes (responses_of id log)
        → Each HasBytes (cons_option (if b then Some r.result else None) (responses_of id log))
    by true rest = (here, rest)
    by false rest = rest

-- how large the answers to the call of a row are
abbrev answers_to : List Message → Row → ℕ
answers_to log row = sum_by answer_size (responses_of row.id log)

abbrev all_answers : List Message → List Row → ℕ
all_answers log rows = sum_by (answers_to log) rows

-- with a response before them that is one of these or is not
abbrev answers_if : Bool → Response → List Message → Row → ℕ
answers_if b r log row = sum_by answer_size (cons_option (if b then Some r.result else None) (responses_of row.id log))

-- an answer to none of these calls adds nothing
to_others : (r : Response) (log : List Message) (rows : List Row) → Each (λ row. row.id ≢ r.id) rows
    → all_answers (message.Response r ∷ log) rows ≡ all_answers log rows
to_others r log [] differ = refl
to_others r log (row ∷ rows) (differs, differ) =
    let rest = to_others r log rows differ in
    let here : answers_to (message.Response r ∷ log) row ≡ answers_to log row = by (int_eq r.id row.id) refl in
    omega (arith, rest, here, sum_by-cons (answers_to (message.Response r ∷ log)) row rows, sum_by-cons (answers_to log) row rows)
  where
    by : (b : Bool) → int_eq r.id row.id ≡ b → answers_if b r log row ≡ answers_to log row
    by true e = absurd (differs (sym ((Decides-int_eq r.id row.id).0 e)))
    by false e = refl

-- an answer is one to a call at most
to_one : (r : Response) (log : List Message) (rows : List Row) → HaveOwnIds rows
    → all_answers (message.Response r ∷ log) rows ≤ answer_size r.result + all_answers log rows
to_one r log [] own = omega arith
to_one r log (row ∷ rows) (differ, own) = by (int_eq r.id row.id) refl (to_one r log rows own)
  where
    by : (b : Bool) → int_eq r.id row.id ≡ b → all_answers (message.Response r ∷ log) rows ≤ answer_size r.result + all_answers log rows
        → all_answers (message.Response r ∷ log) (row ∷ rows) ≤ answer_size r.result + all_answers log (row ∷ rows)
    by true e more =
        let same : r.id ≡ row.id = (Decides-int_eq r.id row.id).0 e in
        let rest = to_others r log rows (subst (λ i. Each (λ other. other.id ≢ i) rows) (sym same) differ) in
        let here : answers_to (message.Response r ∷ log) row ≡ answer_size r.result + answers_to log row =
        ap (λ b. answers_if b r log row) e ∙ sum_by-cons answer_size r.result (responses_of row.id log) in
        omega (arith, rest, here, sum_by-cons (answers_to (message.Response r ∷ log)) row rows, sum_by-cons (answers_to log) row rows)
    by false e rest =
        let here : answers_to (message.Response r ∷ log) row ≡ answers_to log row = ap (λ b. answers_if b r log row) e in
        omega (arith, rest, here, sum_by-cons (answers_to (message.Response r ∷ log)) row rows, sum_by-cons (answers_to log) row rows)

none_to : (rows : List Row) → all_answers [] rows ≡ 0
none_to [] = refl
none_to (row ∷ rows) = omega (arith, none_to rows, sum_by-cons (answers_to []) row rows)

-- the answers to calls with different ids are those of the log
answers_few : (log : List Message) (rows : List Row) → HaveOwnIds rows → all_answers log rows ≤ sum_by message_size log
answers_few [] rows own = omega (arith, none_to rows)
answers_few (message.Heartbeat ∷ log) rows own =
    let rest = answers_few log rows own in
    omega (arith, rest, sum_by-cons message_size message.Heartbeat log)
answers_few (message.Query q ∷ log) rows own =
    let rest = answers_few log rows own in
    omega (arith, rest, sum_by-cons message_size (message.Query q) log)
answers_few (message.Response r ∷ log) rows own =
    let rest = answers_few log rows own in
    let one = to_one r log rows own in
    omega (arith, rest, one, sum_by-cons message_size (message.Response r) log)

-- ---- all rows

rows_few : (m : ℕ) (closed : Bool) (log : List Message) (rows : List Row) → Each AnswersBytes log
    → Each (λ row. IsKept m closed (responses_of row.id log) row) rows
    → Each (λ row. IsCallable row.desc) rows → kept_count rows ≤ all_answers log rows
rows_few m closed log [] vs kept good = omega arith
rows_few m closed log (row ∷ rows) vs (here, kept) (callable, good) =
    let rest = rows_few m closed log rows vs kept good in
    let keeps = row_few (parts_of m row.desc (responses_of row.id log)) closed row here.holds in
    let said = parts_few m row.desc (responses_of row.id log) callable (responses_bytes row.id log vs) in
    omega (arith, rest, keeps, said, sum_by-cons row_nodes row rows, sum_by-cons (answers_to log) row rows)

-- whatever bytes came: the values of all parts and endings that are kept have no more nodes together
pub kept_nodes : (c : ClientState) (got : List ℕ) → HasGot c got → kept_count c.rows ≤ length got
kept_nodes c got has =
    let m = c.link.max in
    let all = stream_short m got (limit_few m has.limit) has.bytes in
    let (short, bytes) = accepted_short m (row_calls c.rows) (log_of m got) (length got) all in
    let keeps = rows_few m (is_closed c.link) (accepted_of m c.rows got) c.rows bytes has.kept has.calls.callable in
    let sent = answers_few (accepted_of m c.rows got) c.rows has.calls.apart in
    omega (arith, short, keeps, sent)
