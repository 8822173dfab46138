-- The answers that came as bytes have data of bytes, and errors that can be spelled.
use Rattle.std.proofs.Common.{◌≡◌, refl, sym, subst, ℕ, zero, suc, ℤ, Bool, true, false, if◌then◌else◌, List, [], ◌∷◌, ◌++◌, length}
use Rattle.std.specs.Prelude.{Option, Some, None, codes}
use Rattle.std.specs.List.{cons_option}
use Rattle.std.specs.Ordering.{int_eq}
use Rattle.readers.specs.Reader.{Outcome, whole, more, bad, Each, IsByte}
use Rattle.readers.proofs.Readers.{each-front, each-rest}
use Rattle.bp_num.specs.declared.number.Why.{Why}
use Rattle.bp_value.specs.declared.value.Value.{Value}
use Rattle.bp_value.specs.declared.value.Value.TheVariants as val
use Rattle.bp_value.specs.declared.value.Sexp.{Sexp}
use Rattle.bp_value.specs.Form.{Cases, case, end_cases, int, poly, sexp, sum, text}
use Rattle.bp_value.specs.Limits.{deepest_sexp}
use Rattle.bp_value.specs.Fits.{Fits, FitParts, FitCase, FitsSexp, InRange}
use Rattle.bp_value.proofs.Layers.{num_is, sexp_is, case_is, case_place}
use Rattle.bp_grammar.specs.Spells.{Spells}
use Rattle.rpc_frame.specs.Frames.{frame_at}
use Rattle.rpc_frame.specs.Streams.{then_bodies, first_bodies, bodies}
use Rattle.rpc_frame.proofs.FrameReads.{right_frame}
use Rattle.rpc_msg.specs.declared.message.Answer.{Answer}
use Rattle.rpc_msg.specs.declared.message.Answer.TheVariants as answer
use Rattle.rpc_msg.specs.declared.message.Message.{Message}
use Rattle.rpc_msg.specs.declared.message.Message.TheVariants as message
use Rattle.rpc_msg.specs.declared.message.RpcError.{RpcError}
use Rattle.rpc_msg.specs.declared.message.RpcError.TheVariants as error
use Rattle.rpc_msg.specs.Forms.{answer_form, error_cases, error_form, only}
use Rattle.rpc_msg.specs.Values.{answer_value, error_value, unimplemented_values}
use Rattle.rpc_log.specs.Logs.{then_messages, messages_in, opens, log_in, log_of, responses_of}
use Rattle.rpc_log.specs.Readings.{message_in}
use Rattle.rpc_log.proofs.Told.{message_spelled}
use Rattle.rpc_talk.specs.Spellable.{IsShallow, IsSpellableAnswer, IsSpellableError}
use Rattle.rpc_talk.specs.Welcome.{Call, is_welcome, accepted_after}
use Rattle.rpc_client.proofs.Inside.{answer_inside, data_inside, inside_bytes}
use Rattle.rpc_client.proofs.SaidNodes.{HasBytes}
use Rattle.rpc_book.specs.Books.{BookState, accepted_in, calls_of, messages_of}
use Rattle.rpc_pair.proofs.SpelledFits.{spelled_fits}

-- data of bytes, or an error that can be spelled
abbrev pub IsOfBytes : Answer → Type 0
IsOfBytes a = HasBytes a × IsSpellableAnswer a

abbrev pub AnswersOfBytes : Message → Type 0
AnswersOfBytes message.Heartbeat = Unit {0}
AnswersOfBytes (message.Query q) = Unit {0}
AnswersOfBytes (message.Response r) = IsOfBytes r.result

-- ---- errors whose values fit

-- the cases of an answer, and of a version
abbrev answer_cases : Cases
answer_cases = case (codes "Ok") (only text) (case (codes "Error") (only error_form) end_cases)

abbrev version_cases : Cases
version_cases = case (codes "Version") (only int) end_cases

sum_fits : (m : ℕ) (cs : Cases) (place : ℕ) (vs : List Value) → Fits m (sum cs) (val.Case place vs) → FitCase m cs place vs
unfolding Fits
sum_fits m cs place vs (other, (ws, is, fits)) =
    subst (λ k. FitCase m cs k vs) (sym (case_place place other vs ws is)) (subst (FitCase m cs other) (sym (case_is place other vs ws is)) fits)

poly_fits : (m : ℕ) (cs : Cases) (place : ℕ) (vs : List Value) → Fits m (poly cs) (val.Case place vs) → FitCase m cs place vs
unfolding Fits
poly_fits m cs place vs (other, (ws, is, fits)) =
    subst (λ k. FitCase m cs k vs) (sym (case_place place other vs ws is)) (subst (FitCase m cs other) (sym (case_is place other vs ws is)) fits)

number_fits : (m : ℕ) (n : ℤ) → Fits m int (val.Num n) → InRange 62 n
unfolding Fits
number_fits m n (k, is, within) = subst (InRange 62) (sym (num_is n k is)) within

sexp_fits : (m : ℕ) (x : Sexp) → Fits m sexp (val.Sexp x) → IsShallow x
unfolding Fits
sexp_fits m x (y, is, fits) = (m, subst (FitsSexp m deepest_sexp) (sym (sexp_is x y is)) fits)

error_spellable : (m : ℕ) (e : RpcError) → Fits m error_form (error_value e) → IsSpellableError e
unfolding FitParts FitCase
error_spellable m (error.BinIo x) fits = sexp_fits m x (sum_fits m error_cases 0 (val.Sexp x ∷ []) fits).0
error_spellable m error.ConnectionClosed fits = tt
error_spellable m (error.WriteError x) fits = sexp_fits m x (sum_fits m error_cases 2 (val.Sexp x ∷ []) fits).0
error_spellable m (error.Uncaught x) fits = sexp_fits m x (sum_fits m error_cases 3 (val.Sexp x ∷ []) fits).0
error_spellable m (error.Unimplemented tag version) fits =
    let (tagged, versions) = sum_fits m error_cases 4 (unimplemented_values (tag, version)) fits in
    number_fits m version (poly_fits m version_cases 0 (val.Num version ∷ []) versions.0).0
error_spellable m (error.UnknownId id) fits = number_fits m id (sum_fits m error_cases 5 (val.Num id ∷ []) fits).0

-- ---- one message

answer_of_bytes : (m : ℕ) (a : Answer) (s : List ℕ) → Each IsByte s → Spells m answer_form (answer_value a) s → IsOfBytes a
unfolding FitParts FitCase
answer_of_bytes m (answer.Ok body) s vs spelled = (inside_bytes body s (data_inside m body s spelled) vs, tt)
answer_of_bytes m (answer.Error e) s vs spelled =
    let fits = spelled_fits m answer_form (answer_value (answer.Error e)) s spelled in
    (tt, error_spellable m e (sum_fits m answer_cases 1 (error_value e ∷ []) fits).0)

message_of_bytes : (m : ℕ) (body : List ℕ) (a : Message) → Each IsByte body → message_in m body ≡ Some a → AnswersOfBytes a
message_of_bytes m body message.Heartbeat vs e = tt
message_of_bytes m body (message.Query q) vs e = tt
message_of_bytes m body (message.Response r) vs e =
    let (x, within, spelled) = answer_inside m r body (message_spelled m body (message.Response r) vs e) in
    answer_of_bytes m r.result x (inside_bytes x body within vs) spelled

-- ---- the bodies of a stream of bytes

bodies_bytes : (k max : ℕ) (s : List ℕ) → Each IsByte s → Each (Each IsByte) (first_bodies k max s)
unfolding first_bodies
bodies_bytes zero max s vs = tt
bodies_bytes (suc k) max s vs = by (bodies_bytes k max) (frame_at max s) refl
  where
    by : ((u : List ℕ) → Each IsByte u → Each (Each IsByte) (first_bodies k max u)) → (o : Outcome ℕ Why (List ℕ)) → frame_at max s ≡ o
        → Each (Each IsByte) (then_bodies o (first_bodies k max))
    by behind more e = tt
    by behind (bad n w) e = tt
    by behind (whole body u) e =
        let (t, cut, (n, x, y, at, head, (same, long, any)), follows) = (right_frame max).sound s body u vs e in
        let both : Each IsByte (t ++ u) = subst (Each IsByte) cut vs in
        let frame : Each IsByte (x ++ y) = subst (Each IsByte) at (each-front IsByte t u both) in
        (subst (Each IsByte) (sym same) (each-rest IsByte x y frame), behind u (each-rest IsByte t u both))

-- ---- all messages

messages_of_bytes : (m : ℕ) (bs : List (List ℕ)) → Each (Each IsByte) bs → Each AnswersOfBytes (messages_in m bs)
messages_of_bytes m [] vs = tt
messages_of_bytes m (body ∷ bs) (here, there) = by (message_in m body) refl (messages_of_bytes m bs there)
  where
    by : (o : Option Message) → message_in m body ≡ o → Each AnswersOfBytes (messages_in m bs) → Each AnswersOfBytes (then_messages o (messages_in m bs))
    by None e rest = tt
    by (Some a) e rest = (message_of_bytes m body a here e, rest)

log_of_bytes : (m : ℕ) (bs : List (List ℕ)) → Each (Each IsByte) bs → Each AnswersOfBytes (log_in m bs)
log_of_bytes m [] vs = tt
log_of_bytes m (head ∷ bs) (here, there) = by (opens m head) (messages_of_bytes m bs there)
  where
    by : (b : Bool) → Each AnswersOfBytes (messages_in m bs) → Each AnswersOfBytes (if b then messages_in m bs else [])
    by true all = all
    by false all = tt

pub stream_of_bytes : (m : ℕ) (got : List ℕ) → Each IsByte got → Each AnswersOfBytes (log_of m got)
stream_of_bytes m got vs = log_of_bytes m (bodies m got) (bodies_bytes (length got) m got vs)

-- ---- those that are accepted, and the answers to a call among them

-- what holds of all messages holds of those that are accepted
pub accepted_each : (P : Message → Type 0) (m : ℕ) (calls : List Call) (before log : List Message) → Each P log → Each P (accepted_after m calls before log)
accepted_each P m calls before [] all = tt
accepted_each P m calls before (a ∷ log) (its, all) = by (is_welcome m calls before a) (accepted_each P m calls (before ++ a ∷ []) log all)
  where
    by : (b : Bool) → Each P (accepted_after m calls (before ++ a ∷ []) log) → Each P (if b then a ∷ accepted_after m calls (before ++ a ∷ []) log else [])
    by true rest = (its, rest)
    by false rest = tt

responses_of_bytes : (id : ℤ) (log : List Message) → Each AnswersOfBytes log → Each IsOfBytes (responses_of id log)
responses_of_bytes id [] all = tt
responses_of_bytes id (message.Heartbeat ∷ log) (its, all) = responses_of_bytes id log all
responses_of_bytes id (message.Query q ∷ log) (its, all) = responses_of_bytes id log all
responses_of_bytes id (message.Response r ∷ log) (its, all) = by (int_eq r.id id) (responses_of_bytes id log all)
  where
    by : (b : Bool) → Each IsOfBytes (responses_of id log) → Each IsOfBytes (cons_option (if b then Some r.result else None) (responses_of id log))
    by true rest = (its, rest)
    by false rest = rest

-- the answers to a dispatch, of a book to which bytes came
pub answers_of_bytes : (b : BookState) (id : ℤ) → Each IsByte b.got → Each IsOfBytes (responses_of id (accepted_in b))
answers_of_bytes b id vs =
    let m = b.limits.max_message in
    responses_of_bytes id (accepted_in b) (accepted_each AnswersOfBytes m (calls_of b.made) [] (messages_of b) (stream_of_bytes m b.got vs))
