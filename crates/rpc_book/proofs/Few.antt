-- A dispatch has no more parts than its book got bytes.
use Rattle.std.proofs.Common.{◌≡◌, refl, ap, ℕ, zero, suc, ◌≤◌, ℤ, Bool, true, false, if◌then◌else◌, List, [], ◌∷◌, ◌++◌, length, arith}
use Rattle.std.specs.Prelude.{Option, Some, None}
use Rattle.std.specs.List.{cons_option}
use Rattle.std.proofs.lemmas.List.{length-map, length-take}
use Rattle.readers.specs.Reader.{Outcome, bad, more, whole}
use Rattle.bp_num.specs.declared.number.Why.{Why}
use Rattle.rpc_frame.specs.Frames.{frame_at}
use Rattle.rpc_frame.specs.Streams.{bodies, first_bodies, then_bodies}
use Rattle.rpc_msg.specs.declared.message.Answer.{Answer}
use Rattle.rpc_msg.specs.declared.message.Message.{Message}
use Rattle.rpc_msg.specs.declared.shared.Part.{Part}
use Rattle.rpc_log.specs.Logs.{log_in, log_of, messages_in, opens, response_for, responses_of, then_messages}
use Rattle.rpc_log.specs.Readings.{message_in}
use Rattle.rpc_schema.specs.declared.desc.Kind.{Kind}
use Rattle.rpc_schema.specs.declared.desc.Kind.TheVariants.{Plain, OneWay, Pipe, State}
use Rattle.rpc_schema.specs.declared.desc.RpcDesc.{RpcDesc}
use Rattle.rpc_talk.specs.Parts.{cut_parts, kind_parts, later_parts, parts_of, plain_parts, stream_parts}
use Rattle.rpc_talk.specs.Said.{Said, Reply, Begun, Declined, Item, Eof, Unreadable, Failed, answer_said, later_by, says_in}
use Rattle.rpc_talk.specs.Welcome.{Call, accepted, accepted_after, is_welcome}

few_bodies : (k m : ℕ) (s : List ℕ) → length (first_bodies k m s) ≤ k
unfolding first_bodies
few_bodies zero m s = omega arith
few_bodies (suc k) m s = by (frame_at m s) (few_bodies k m)
  where
    by : (o : Outcome ℕ Why (List ℕ)) → ((t : List ℕ) → length (first_bodies k m t) ≤ k) → length (then_bodies o (first_bodies k m)) ≤ suc k
    by (whole body rest) later = let le = later rest in omega (arith, le)
    by more later = omega arith
    by (bad n w) later = omega arith

few_messages : (m : ℕ) (bs : List (List ℕ)) → length (messages_in m bs) ≤ length bs
few_messages m [] = omega arith
few_messages m (body ∷ bs) = by (message_in m body) (few_messages m bs)
  where
    by : (o : Option Message) → length (messages_in m bs) ≤ length bs → length (then_messages o (messages_in m bs)) ≤ suc (length bs)
    by None le = omega arith
    by (Some a) le = omega (arith, le)

few_log : (m : ℕ) (bs : List (List ℕ)) → length (log_in m bs) ≤ length bs
few_log m [] = omega arith
few_log m (head ∷ bs) = by (opens m head) (few_messages m bs)
  where
    by : (b : Bool) → length (messages_in m bs) ≤ length bs → length (if b then messages_in m bs else []) ≤ suc (length bs)
    by true le = omega (arith, le)
    by false le = omega arith

few_accepted : (m : ℕ) (calls : List Call) (before log : List Message) → length (accepted_after m calls before log) ≤ length log
few_accepted m calls before [] = omega arith
few_accepted m calls before (a ∷ log) = by (is_welcome m calls before a) (few_accepted m calls (before ++ a ∷ []) log)
  where
    by : (b : Bool) → length (accepted_after m calls (before ++ a ∷ []) log) ≤ length log
        → length (if b then a ∷ accepted_after m calls (before ++ a ∷ []) log else []) ≤ suc (length log)
    by true le = omega (arith, le)
    by false le = omega arith

few_responses : (id : ℤ) (log : List Message) → length (responses_of id log) ≤ length log
few_responses id [] = omega arith
few_responses id (a ∷ log) = by (response_for id a) (few_responses id log)
  where
    by : (o : Option Answer) → length (responses_of id log) ≤ length log → length (cons_option o (responses_of id log)) ≤ suc (length log)
    by None le = omega (arith, le)
    by (Some x) le = omega (arith, le)

few_says : (m : ℕ) (d : RpcDesc) (answers : List Answer) → length (says_in m d answers) ≡ length answers
few_says m d [] = refl
few_says m d (a ∷ later) = ap suc (length-map later (answer_said (later_by d.kind m d)))

few_later : (says : List Said) → length (later_parts says).parts ≤ length says
few_later [] = omega arith
few_later (Failed e ∷ says) = omega arith
few_later (Item v ∷ says) = let le = few_later says in omega (arith, le)
few_later (Eof ∷ says) = omega arith
few_later (Reply v ∷ says) = omega arith
few_later (Begun v ∷ says) = omega arith
few_later (Declined v ∷ says) = omega arith
few_later (Unreadable why ∷ says) = omega arith

few_stream : (says : List Said) → length (stream_parts says).parts ≤ length says
few_stream [] = omega arith
few_stream (Failed e ∷ says) = omega arith
few_stream (Begun v ∷ says) = let le = few_later says in omega (arith, le)
few_stream (Declined v ∷ says) = omega arith
few_stream (Reply v ∷ says) = omega arith
few_stream (Item v ∷ says) = omega arith
few_stream (Eof ∷ says) = omega arith
few_stream (Unreadable why ∷ says) = omega arith

few_plain : (says : List Said) → length (plain_parts says).parts ≤ length says
few_plain [] = omega arith
few_plain (s ∷ says) = omega arith

few_kind : (kind : Kind) (says : List Said) → length (kind_parts kind says).parts ≤ length says
few_kind Plain says = few_plain says
few_kind OneWay says = omega arith
few_kind Pipe says = few_stream says
few_kind State says = few_stream says

few_cut : (cut : Option ℕ) (ps : List Part) → length (cut_parts cut ps) ≤ length ps
few_cut None ps = omega arith
few_cut (Some c) ps = let is = length-take c ps in omega (arith, is)

pub few_parts : (m : ℕ) (calls : List Call) (got : List ℕ) (id : ℤ) (d : RpcDesc) (cut : Option ℕ)
    → length (cut_parts cut (parts_of m d (responses_of id (accepted m calls (log_of m got)))).parts) ≤ length got
few_parts m calls got id d cut =
    let log = log_of m got in
    let answers = responses_of id (accepted m calls log) in
    let one = few_cut cut (parts_of m d answers).parts in
    let two = few_kind d.kind (says_in m d answers) in
    let three : length (says_in m d answers) ≡ length answers = few_says m d answers in
    let four = few_responses id (accepted m calls log) in
    let five = few_accepted m calls [] log in
    let six = few_log m (bodies m got) in
    let seven = few_bodies (length got) m got in
    omega (arith, one, two, three, four, five, six, seven)
