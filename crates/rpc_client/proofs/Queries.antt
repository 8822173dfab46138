-- The bytes of queries, and how many they are.
use Rattle.std.proofs.Common.{◌≡◌, refl, sym, ap, ◌∙◌, subst, inl, inr, ◌⊎◌, ℕ, suc, ◌+◌, ◌-◌, ◌^◌, ◌<◌, ◌≤◌, min, ℤ, Bool, true, false, nat_le, List, [], ◌∷◌, ◌++◌, length, append-nil, append_assoc, arith}
use Rattle.std.proofs.lemmas.List.{length-append}
use Rattle.std.proofs.lemmas.Bool.{lt-leb}
use Rattle.std.proofs.lemmas.Bool.Decides.{leb_tells}
use Rattle.std.specs.Prelude.{Result, Ok, Err, IfErr, IfOk}
use Rattle.std.specs.Result.{IsErrAnd}
use Rattle.bp_num.specs.Forms.{little_endian, written_int, written_nat}
use Rattle.bp_value.specs.declared.value.Value.{Value}
use Rattle.bp_value.specs.declared.value.Value.TheVariants.{Text}
use Rattle.bp_value.specs.Form.{form_of}
use Rattle.bp_value.proofs.Layers.{out_text, out_case}
use Rattle.bp_grammar.specs.Written.{written, written_bytes, written_parts, written_case}
use Rattle.rpc_msg.specs.declared.data.StreamQuery.TheVariants as stream
use Rattle.rpc_msg.specs.declared.message.Query.{Query}
use Rattle.rpc_msg.specs.declared.message.Message.TheVariants as message
use Rattle.rpc_msg.specs.declared.message.Answer.TheVariants as answer
use Rattle.rpc_msg.specs.declared.message.RpcError.TheVariants as error
use Rattle.rpc_msg.specs.Forms.{answer_form, stream_query_form, unimplemented_parts}
use Rattle.rpc_msg.specs.Values.{answer_value, stream_query_value, unimplemented_values}
use Rattle.rpc_msg.proofs.Bytes.{bytes_query, bytes_of_query, bytes_response, bytes_of_response, bytes_error, bytes_unimplemented, bytes_of_unimplemented}
use Rattle.rpc_schema.specs.declared.desc.RpcDesc.{RpcDesc}
use Rattle.rpc_talk.specs.Acts.{body_of, is_short, response, unimplemented}
use Rattle.rpc_talk.specs.Parts.{is_stream}
use Rattle.rpc_client.specs.Data.{query_head, IsDataRefused}
use Rattle.rpc_client.specs.Tables.{abort_data, data_by, next_call_id, query_data}
use Rattle.rpc_client.specs.declared.error.DispatchError.{DispatchError}
use Rattle.rpc_client.specs.declared.error.DispatchError.TheVariants as dispatch
use Rattle.rpc_client.specs.Clients.{ClientState, IsLong}

-- ---- the data of streams

pub stream_bytes : (text : List ℕ) → written stream_query_form (stream_query_value (stream.Query text)) ≡ little_endian 4 0xE22FF5D1 ++ written_bytes text
unfolding written written_parts written_case
stream_bytes text = rw (out_case 0 (Text text ∷ []), out_text text, append-nil (written_bytes text)) refl

pub abort_bytes : written stream_query_form (stream_query_value stream.Abort) ≡ little_endian 4 0x5C4E7721
unfolding written written_parts written_case
abort_bytes = rw (out_case 1 [], append-nil (little_endian 4 0x5C4E7721)) refl

-- the head, and then the text
pub headed_bytes : (count : ℕ) (text : List ℕ) → count ≡ length text → query_head count ++ text ≡ written stream_query_form (stream_query_value (stream.Query text))
headed_bytes count text is =
    append_assoc (little_endian 4 0xE22FF5D1) (written_nat count) text
    ∙ (ap (λ n. little_endian 4 0xE22FF5D1 ++ (written_nat n ++ text)) is ∙ sym (stream_bytes text))

-- ---- lengths

pub query_length : (q : Query) → length (body_of (message.Query q))
    ≡ 1 + (length (written_bytes q.tag) + (length (written_int q.version) + (length (written_int q.id) + length (written_bytes q.body))))
query_length q =
    let tag = written_bytes q.tag in
    let version = written_int q.version in
    let id = written_int q.id in
    let body = written_bytes q.body in
    let whole : length (body_of (message.Query q)) ≡ length (1 ∷ (tag ++ (version ++ (id ++ body)))) = ap length (bytes_query q) ∙ ap (λ s. length (1 ∷ s)) (bytes_of_query q) in
    omega (arith, whole, length-append tag (version ++ (id ++ body)), length-append version (id ++ body), length-append id body)

pub refusal_length : (id : ℤ) (tag : List ℕ) (version : ℤ) → length (body_of (response id (unimplemented tag version)))
    ≡ 7 + (length (written_int id) + (length (written_bytes tag) + length (written_int version)))
refusal_length id tag version =
    let number = written_int id in
    let text = written_bytes tag in
    let word = little_endian 4 0x94861DF1 in
    let last = written_int version in
    let error_is : written answer_form (answer_value (unimplemented tag version)) ≡ 1 ∷ 4 ∷ (text ++ (word ++ last)) =
    bytes_error (error.Unimplemented tag version) ∙ (ap (λ s. 1 ∷ s) (bytes_unimplemented tag version) ∙ ap (λ s. 1 ∷ 4 ∷ s) (bytes_of_unimplemented tag version)) in
    let whole : length (body_of (response id (unimplemented tag version))) ≡ length (2 ∷ (number ++ (1 ∷ 4 ∷ (text ++ (word ++ last))))) =
    ap length (bytes_response (record { id = id; result = unimplemented tag version }))
    ∙ (ap (λ s. length (2 ∷ s)) (bytes_of_response (record { id = id; result = unimplemented tag version })) ∙ ap (λ s. length (2 ∷ (number ++ s))) error_is) in
    let four : length word ≡ 4 = refl in
    omega (arith, whole, four, length-append number (1 ∷ 4 ∷ (text ++ (word ++ last))), length-append text (word ++ last), length-append word last)

-- ---- whether a message is short enough, by numbers that stay at the last value of a u64

abbrev last_word : ℕ
last_word = 18446744073709551615

same_test : (m r n : ℕ) → (r ≤ m → n ≤ m) → (n ≤ m → r ≤ m) → nat_le r m ≡ nat_le n m
same_test m r n there back = by (leb_tells r m) (leb_tells n m)
  where
    by : ((nat_le r m ≡ true) × (r ≤ m)) ⊎ ((nat_le r m ≡ false) × (m < r)) → ((nat_le n m ≡ true) × (n ≤ m)) ⊎ ((nat_le n m ≡ false) × (m < n)) → nat_le r m ≡ nat_le n m
    by (inl (e, le)) (inl (h, few)) = e ∙ sym h
    by (inl (e, le)) (inr (h, more)) = absurd (let few = there le in omega (arith, more, few))
    by (inr (e, lt)) (inl (h, few)) = absurd (let le = back few in omega (arith, lt, le))
    by (inr (e, lt)) (inr (h, more)) = e ∙ sym h

pub short_query : (q : Query) (m t b v i s r : ℕ) → m ≤ 2 ^ 30 → t ≡ min (length (written_bytes q.tag)) last_word → b ≡ min (length (written_bytes q.body)) last_word
    → v ≡ length (written_int q.version) → i ≡ length (written_int q.id) → s ≡ min (t + b) last_word → r ≡ min (s + (1 + (v + i))) last_word
    → nat_le r m ≡ is_short m (message.Query q)
short_query q m t b v i s r low is_t is_b is_v is_i is_s is_r =
    let count = query_length q in
    same_test m r (length (body_of (message.Query q))) (λ le. omega (arith, le, low, is_t, is_b, is_v, is_i, is_s, is_r, count)) (λ le. omega (arith, le, low, is_t, is_b, is_v, is_i, is_s, is_r, count))

pub short_refusal : (id : ℤ) (tag : List ℕ) (version : ℤ) (m t v i s r : ℕ) → m ≤ 2 ^ 30 → t ≡ min (length (written_bytes tag)) last_word
    → v ≡ length (written_int version) → i ≡ length (written_int id) → s ≡ min (t + 7) last_word → r ≡ min (s + (v + i)) last_word
    → nat_le r m ≡ is_short m (response id (unimplemented tag version))
short_refusal id tag version m t v i s r low is_t is_v is_i is_s is_r =
    let count = refusal_length id tag version in
    same_test m r (length (body_of (response id (unimplemented tag version)))) (λ le. omega (arith, le, low, is_t, is_v, is_i, is_s, is_r, count))
    (λ le. omega (arith, le, low, is_t, is_v, is_i, is_s, is_r, count))

-- ---- what is made of them

pub abort_is : 33 ∷ 119 ∷ 78 ∷ 92 ∷ [] ≡ abort_data
abort_is = sym abort_bytes

pub ok_is : {E : Type 0} (r : Result (List ℕ) E) (x y : List ℕ) → x ≡ y → IfOk r (λ b. b ≡ x) → IfOk r (λ b. b ≡ y)
ok_is (Ok b) x y e is = is ∙ e
ok_is (Err w) x y e is = tt

pub plain_data : (d : RpcDesc) (v : Value) → false ≡ is_stream d.kind → written (form_of d.query) v ≡ query_data d v
plain_data d v is = ap (λ b. data_by b (written (form_of d.query) v)) is

pub stream_data : (d : RpcDesc) (v : Value) (count : ℕ) → true ≡ is_stream d.kind → count ≡ length (written (form_of d.query) v)
    → query_head count ++ written (form_of d.query) v ≡ query_data d v
stream_data d v count is count_is =
    headed_bytes count (written (form_of d.query) v) count_is ∙ ap (λ b. data_by b (written (form_of d.query) v)) is

-- ---- a query whose spelling alone is too long

data_longer : (b : Bool) (text : List ℕ) → length text ≤ length (data_by b text)
data_longer false text = omega arith
data_longer true text =
    let whole : length (data_by true text) ≡ length (little_endian 4 0xE22FF5D1 ++ written_bytes text) = ap length (stream_bytes text) in
    omega (arith, whole, length-append (little_endian 4 0xE22FF5D1) (written_bytes text), length-append (written_nat (length text)) text)

pub data_long : (c : ClientState) (d : RpcDesc) (v : Value) (max : ℕ) (e : DispatchError) → max ≡ c.limits.max_message → IsDataRefused max d v e → IsLong c d v e
data_long c d v max dispatch.Closed is no_way = absurd no_way
data_long c d v max dispatch.NotOpen is no_way = absurd no_way
data_long c d v max dispatch.BadValue is no_way = absurd no_way
data_long c d v max (dispatch.TooManyOpen count) is no_way = absurd no_way
data_long c d v max (dispatch.IdsSpent id) is no_way = absurd no_way
data_long c d v max dispatch.OutOfMemory is free = tt
data_long c d v max (dispatch.TooLong most) is (same, long) =
    let text = written (form_of d.query) v in
    let q : Query = record { tag = d.name; version = d.version; id = next_call_id d.kind c.rows; body = query_data d v } in
    let count = query_length q in
    let more = data_longer (is_stream d.kind) text in
    let whole = length-append (written_nat (length (query_data d v))) (query_data d v) in
    (lt-leb (length (body_of (message.Query q))) c.limits.max_message (omega (arith, count, more, whole, long, is)), same ∙ is)

pub err_is : {A : Type 0} (r : Result A DispatchError) (e : DispatchError) (P : DispatchError → Type 0) → IsErrAnd r (λ x. x ≡ e) → P e → IfErr r P
err_is (Ok a) e P is holds = absurd is
err_is (Err x) e P is holds = subst P (sym is) holds
