-- The answers of a log, their data by bytes and their errors by nodes, are together no larger than the stream that has the log.
use Rattle.std.proofs.Common.{◌≡◌, refl, ap, ◌∙◌, subst, ℕ, ◌<◌, ◌≤◌, ◌^◌, Bool, true, false, if◌then◌else◌, List, [], ◌∷◌, ◌++◌, length, arith}
use Rattle.std.specs.Prelude.{Option, Some, None}
use Rattle.std.specs.List.{sum_by}
use Rattle.std.proofs.lemmas.List.{length-append}
use Rattle.std.proofs.lemmas.List.Sums.{sum_by-cons, sum_by-append}
use Rattle.readers.specs.Reader.{Each, IsByte}
use Rattle.readers.proofs.Readers.{each-front, each-rest}
use Rattle.bp_num.specs.Forms.{little_endian}
use Rattle.bp_value.specs.declared.value.Value.TheVariants as val
use Rattle.bp_grammar.specs.Nodes.{node_count}
use Rattle.bp_grammar.specs.Spells.{Spells}
use Rattle.bp_grammar.proofs.NodeCounts.{node_count-case, node_count-sexp}
use Rattle.bp_grammar.proofs.Nodes.{nodes_spelled}
use Rattle.rpc_frame.specs.Frames.{frame, frames}
use Rattle.rpc_frame.specs.Streams.{bodies}
use Rattle.rpc_frame.proofs.StreamBodies.{all_bodies}
use Rattle.rpc_msg.specs.declared.message.Answer.{Answer}
use Rattle.rpc_msg.specs.declared.message.Answer.TheVariants as answer
use Rattle.rpc_msg.specs.declared.message.Message.{Message}
use Rattle.rpc_msg.specs.declared.message.Message.TheVariants as message
use Rattle.rpc_msg.specs.declared.message.RpcError.{RpcError}
use Rattle.rpc_msg.specs.declared.message.RpcError.TheVariants as error
use Rattle.rpc_msg.specs.Forms.{answer_form}
use Rattle.rpc_msg.specs.Values.{error_value, answer_value}
use Rattle.rpc_log.specs.Logs.{then_messages, messages_in, opens, log_in, log_of}
use Rattle.rpc_log.specs.Readings.{message_in}
use Rattle.rpc_log.proofs.Told.{message_spelled}
use Rattle.rpc_talk.specs.Welcome.{Call, is_welcome, accepted_after, accepted}
use Rattle.rpc_client.specs.Nodes.{error_nodes}
use Rattle.rpc_client.proofs.Inside.{inside_bytes, inside_long, answer_inside, data_inside}
use Rattle.rpc_client.proofs.SaidNodes.{answer_size, HasBytes}

abbrev pub message_size : Message → ℕ
message_size message.Heartbeat = 0
message_size (message.Query q) = 0
message_size (message.Response r) = answer_size r.result

abbrev pub AnswersBytes : Message → Type 0
AnswersBytes message.Heartbeat = Unit {0}
AnswersBytes (message.Query q) = Unit {0}
AnswersBytes (message.Response r) = HasBytes r.result

-- ---- one message

error_counted : (e : RpcError) → error_nodes e ≤ node_count (error_value e)
error_counted (error.BinIo s) = omega (arith, node_count-case 0 (val.Sexp s ∷ []), node_count-sexp s)
error_counted error.ConnectionClosed = omega arith
error_counted (error.WriteError s) = omega (arith, node_count-case 2 (val.Sexp s ∷ []), node_count-sexp s)
error_counted (error.Uncaught s) = omega (arith, node_count-case 3 (val.Sexp s ∷ []), node_count-sexp s)
error_counted (error.Unimplemented tag version) = omega arith
error_counted (error.UnknownId id) = omega arith

-- an answer is no larger than its spelling, and the bytes of a spelling's data are bytes
answer_short : (m : ℕ) (a : Answer) (s : List ℕ) → Spells m answer_form (answer_value a) s → answer_size a ≤ length s
answer_short m (answer.Ok body) s spelled = inside_long body s (data_inside m body s spelled)
answer_short m (answer.Error e) s spelled =
    let few = error_counted e in
    let outer = node_count-case 1 (error_value e ∷ []) in
    let long = nodes_spelled m answer_form (answer_value (answer.Error e)) s spelled in
    omega (arith, few, outer, long)

answer_bytes : (m : ℕ) (a : Answer) (s : List ℕ) → Each IsByte s → Spells m answer_form (answer_value a) s → HasBytes a
answer_bytes m (answer.Ok body) s vs spelled = inside_bytes body s (data_inside m body s spelled) vs
answer_bytes m (answer.Error e) s vs spelled = tt

abbrev IsShortOf : Message → List ℕ → Type 0
IsShortOf a body = (message_size a ≤ length body) × AnswersBytes a

message_short : (m : ℕ) (body : List ℕ) (a : Message) → Each IsByte body → message_in m body ≡ Some a → IsShortOf a body
message_short m body message.Heartbeat vs e = (omega arith, tt)
message_short m body (message.Query q) vs e = (omega arith, tt)
message_short m body (message.Response r) vs e =
    let (x, within, spelled) = answer_inside m r body (message_spelled m body (message.Response r) vs e) in
    let short = answer_short m r.result x spelled in
    let long = inside_long x body within in
    (omega (arith, short, long), answer_bytes m r.result x (inside_bytes x body within vs) spelled)

-- ---- all messages

abbrev pub AreAtMost : List Message → ℕ → Type 0
AreAtMost log count = (sum_by message_size log ≤ count) × Each AnswersBytes log

messages_short : (m : ℕ) (bs : List (List ℕ)) → Each (Each IsByte) bs → AreAtMost (messages_in m bs) (sum_by length bs)
messages_short m [] vs = (omega arith, tt)
messages_short m (body ∷ bs) (here, there) = by (message_in m body) refl (messages_short m bs there)
  where
    by : (o : Option Message) → message_in m body ≡ o → AreAtMost (messages_in m bs) (sum_by length bs)
        → AreAtMost (then_messages o (messages_in m bs)) (sum_by length (body ∷ bs))
    by None e rest = (omega arith, tt)
    by (Some a) e (few, bytes) =
        let (short, its) = message_short m body a here e in
        let size = sum_by-cons message_size a (messages_in m bs) in
        let long = sum_by-cons length body bs in
        (omega (arith, few, short, size, long), (its, bytes))

log_short : (m : ℕ) (bs : List (List ℕ)) → Each (Each IsByte) bs → AreAtMost (log_in m bs) (sum_by length bs)
log_short m [] vs = (omega arith, tt)
log_short m (head ∷ bs) (here, there) = by (opens m head) (messages_short m bs there)
  where
    by : (b : Bool) → AreAtMost (messages_in m bs) (sum_by length bs)
        → AreAtMost (if b then messages_in m bs else []) (sum_by length (head ∷ bs))
    by true (few, bytes) = let long = sum_by-cons length head bs in (omega (arith, few, long), bytes)
    by false rest = (omega arith, tt)

-- ---- the bodies of a stream

bodies_short : (bs : List (List ℕ)) → sum_by length bs ≤ length (frames bs)
bodies_short [] = omega arith
bodies_short (body ∷ bs) =
    let rest = bodies_short bs in
    let outer = length-append (frame body) (frames bs) in
    let inner = length-append (little_endian 8 (length body)) body in
    let long = sum_by-cons length body bs in
    omega (arith, rest, outer, inner, long)

bodies_bytes : (bs : List (List ℕ)) → Each IsByte (frames bs) → Each (Each IsByte) bs
bodies_bytes [] vs = tt
bodies_bytes (body ∷ bs) vs =
    let here : Each IsByte (frame body) = each-front IsByte (frame body) (frames bs) vs in
    let there : Each IsByte (frames bs) = each-rest IsByte (frame body) (frames bs) vs in
    (each-rest IsByte (little_endian 8 (length body)) body here, bodies_bytes bs there)

pub stream_short : (m : ℕ) (got : List ℕ) → m < 256 ^ 8 → Each IsByte got → AreAtMost (log_of m got) (length got)
stream_short m got few vs =
    let has = all_bodies m few got vs in
    let bs = bodies m got in
    let bytes : Each IsByte (frames bs) = each-front IsByte (frames bs) has.rest (subst (Each IsByte) has.whole vs) in
    let (short, answers) = log_short m bs (bodies_bytes bs bytes) in
    let within = bodies_short bs in
    let whole = ap length has.whole ∙ length-append (frames bs) has.rest in
    (omega (arith, short, within, whole), answers)

-- ---- the messages that are accepted

-- they are the first of a log
accepted_first : (m : ℕ) (calls : List Call) (before log : List Message)
    → (rest : List Message) × (log ≡ accepted_after m calls before log ++ rest)
accepted_first m calls before [] = ([], refl)
accepted_first m calls before (a ∷ log) = by (is_welcome m calls before a) (accepted_first m calls (before ++ a ∷ []) log)
  where
    by : (b : Bool) → (rest : List Message) × (log ≡ accepted_after m calls (before ++ a ∷ []) log ++ rest)
        → (rest : List Message) × (a ∷ log ≡ (if b then a ∷ accepted_after m calls (before ++ a ∷ []) log else []) ++ rest)
    by true (rest, is) = (rest, ap (λ ms. a ∷ ms) is)
    by false more = (a ∷ log, refl)

pub accepted_short : (m : ℕ) (calls : List Call) (log : List Message) (count : ℕ) → AreAtMost log count
    → AreAtMost (accepted m calls log) count
accepted_short m calls log count (short, bytes) =
    let (rest, is) = accepted_first m calls [] log in
    let both = ap (sum_by message_size) is ∙ sum_by-append message_size (accepted m calls log) rest in
    (omega (arith, short, both), each-front AnswersBytes (accepted m calls log) rest (subst (Each AnswersBytes) is bytes))
