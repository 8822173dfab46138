-- The bytes of messages, as those of their parts.
use Rattle.std.proofs.Common.{◌≡◌, refl, ℕ, ℤ, List, [], ◌∷◌, ◌++◌, append-nil}
use Rattle.bp_num.specs.Forms.{little_endian, written_int}
use Rattle.bp_value.specs.declared.value.Sexp.{Sexp}
use Rattle.bp_value.specs.declared.value.Value.TheVariants.{Num, Text, Parts, Case}
use Rattle.bp_value.proofs.Layers.{out_num, out_text, out_parts, out_case, out_sexp}
use Rattle.bp_value.specs.declared.value.Value.TheVariants as val
use Rattle.bp_grammar.specs.Written.{written, written_bytes, written_parts, written_case, written_sexp}
use Rattle.rpc_msg.specs.declared.message.Query.{Query}
use Rattle.rpc_msg.specs.declared.message.Response.{Response}
use Rattle.rpc_msg.specs.declared.message.Answer.TheVariants as answer
use Rattle.rpc_msg.specs.declared.message.RpcError.{RpcError}
use Rattle.rpc_msg.specs.declared.message.RpcError.TheVariants as error
use Rattle.rpc_msg.specs.declared.message.Message.TheVariants as message
use Rattle.rpc_msg.specs.Forms.{answer_form, error_form, message_form, query_form, response_form, unimplemented_parts}
use Rattle.rpc_msg.specs.Values.{answer_value, error_value, message_value, query_value, response_value, unimplemented_values}

-- ---- messages

pub bytes_heartbeat : written message_form (message_value message.Heartbeat) ≡ 0 ∷ []
unfolding written written_parts written_case
bytes_heartbeat = rw (out_case 0 []) refl

pub bytes_query : (q : Query) → written message_form (message_value (message.Query q)) ≡ 1 ∷ written query_form (query_value q)
unfolding written written_parts written_case
bytes_query q = rw (out_case 1 (query_value q ∷ [])) (append-nil (1 ∷ written query_form (query_value q)))

pub bytes_response : (r : Response) → written message_form (message_value (message.Response r)) ≡ 2 ∷ written response_form (response_value r)
unfolding written written_parts written_case
bytes_response r = rw (out_case 2 (response_value r ∷ [])) (append-nil (2 ∷ written response_form (response_value r)))

pub bytes_of_query : (q : Query)
    → written query_form (query_value q) ≡ written_bytes q.tag ++ (written_int q.version ++ (written_int q.id ++ written_bytes q.body))
unfolding written written_parts
bytes_of_query q =
    rw (out_parts (Text q.tag ∷ Num q.version ∷ Num q.id ∷ Text q.body ∷ []), out_text q.tag, out_num q.version, out_num q.id, out_text q.body)
    (rw (append-nil (written_bytes q.body)) refl)

pub bytes_of_response : (r : Response) → written response_form (response_value r) ≡ written_int r.id ++ written answer_form (answer_value r.result)
unfolding written written_parts
bytes_of_response r =
    rw (out_parts (Num r.id ∷ answer_value r.result ∷ []), out_num r.id) (rw (append-nil (written answer_form (answer_value r.result))) refl)

-- ---- answers

pub bytes_ok : (body : List ℕ) → written answer_form (answer_value (answer.Ok body)) ≡ 0 ∷ written_bytes body
unfolding written written_parts written_case
bytes_ok body = rw (out_case 0 (Text body ∷ []), out_text body) (append-nil (0 ∷ written_bytes body))

pub bytes_error : (e : RpcError) → written answer_form (answer_value (answer.Error e)) ≡ 1 ∷ written error_form (error_value e)
unfolding written written_parts written_case
bytes_error e = rw (out_case 1 (error_value e ∷ [])) (append-nil (1 ∷ written error_form (error_value e)))

-- ---- errors

pub bytes_bin_io : (s : Sexp) → written error_form (error_value (error.BinIo s)) ≡ 0 ∷ written_sexp s
unfolding written written_parts written_case
bytes_bin_io s = rw (out_case 0 (val.Sexp s ∷ []), out_sexp s) (append-nil (0 ∷ written_sexp s))

pub bytes_closed : written error_form (error_value error.ConnectionClosed) ≡ 1 ∷ []
unfolding written written_parts written_case
bytes_closed = rw (out_case 1 []) refl

pub bytes_write_error : (s : Sexp) → written error_form (error_value (error.WriteError s)) ≡ 2 ∷ written_sexp s
unfolding written written_parts written_case
bytes_write_error s = rw (out_case 2 (val.Sexp s ∷ []), out_sexp s) (append-nil (2 ∷ written_sexp s))

pub bytes_uncaught : (s : Sexp) → written error_form (error_value (error.Uncaught s)) ≡ 3 ∷ written_sexp s
unfolding written written_parts written_case
bytes_uncaught s = rw (out_case 3 (val.Sexp s ∷ []), out_sexp s) (append-nil (3 ∷ written_sexp s))

pub bytes_unimplemented : (tag : List ℕ) (version : ℤ)
    → written error_form (error_value (error.Unimplemented tag version)) ≡ 4 ∷ written_parts unimplemented_parts (unimplemented_values (tag, version))
unfolding written written_parts written_case
bytes_unimplemented tag version = rw (out_case 4 (unimplemented_values (tag, version))) refl

pub bytes_unknown : (id : ℤ) → written error_form (error_value (error.UnknownId id)) ≡ 5 ∷ written_int id
unfolding written written_parts written_case
bytes_unknown id = rw (out_case 5 (Num id ∷ []), out_num id) (append-nil (5 ∷ written_int id))

pub bytes_of_unimplemented : (tag : List ℕ) (version : ℤ)
    → written_parts unimplemented_parts (unimplemented_values (tag, version))
    ≡ written_bytes tag ++ (little_endian 4 0x94861DF1 ++ written_int version)
unfolding written written_parts written_case
bytes_of_unimplemented tag version =
    rw (out_text tag, out_case 0 (Num version ∷ []), out_num version, append-nil (written_int version)) (rw (append-nil (written_int version)) refl)
