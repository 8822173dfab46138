-- What an end writes by itself can be spelled and is short, and so what it writes is read back.
use Rattle.std.proofs.Common.{◌≡◌, refl, ap, ◌∙◌, ℕ, ◌+◌, ◌<◌, ◌≤◌, ◌^◌, ℤ, pos, negsuc, Bool, true, false, if◌then◌else◌, Some, List, [], ◌∷◌, ◌++◌, length, length-append, append-nil, arith}
use Rattle.std.specs.Prelude.{nat_lt}
use Rattle.bp_num.specs.Forms.{extent, signed_bytes, wide_int, written_int}
use Rattle.bp_num.proofs.SignedBytes.{length-signed_bytes}
use Rattle.bp_value.specs.declared.value.Sexp.TheVariants as sx
use Rattle.bp_value.specs.declared.value.Value.TheVariants as val
use Rattle.bp_value.specs.Fits.{InRange}
use Rattle.bp_value.proofs.Layers.{out_num, out_parts, out_case, out_sexp}
use Rattle.bp_grammar.specs.Written.{written, written_parts, written_case}
use Rattle.bp_grammar.proofs.Written.{written_sexp-Atom}
use Rattle.rpc_msg.specs.declared.message.Answer.{Answer}
use Rattle.rpc_msg.specs.declared.message.RpcError.TheVariants as error
use Rattle.rpc_msg.specs.Forms.{answer_form}
use Rattle.rpc_msg.specs.Values.{error_value, answer_value, response_value}
use Rattle.rpc_log.specs.Readings.{message_in}
use Rattle.rpc_schema.specs.declared.desc.RpcDesc.{RpcDesc}
use Rattle.rpc_talk.specs.Acts.{Act, answer_by, answer_too_long, body_of, failed_with, fitting, is_short, response}
use Rattle.rpc_talk.specs.Acts as acts
use Rattle.rpc_talk.specs.Spellable.{IsSpellableAnswer}
use Rattle.rpc_talk.proofs.Messages.{failed_spellable, message_reads}

-- ---- each can be spelled

pub act_spellable : (d : RpcDesc) (act : Act) → IsSpellableAnswer (answer_by d act)
act_spellable d (acts.Reply v) = tt
act_spellable d (acts.Fail text) = failed_spellable text
act_spellable d (acts.Begin v) = tt
act_spellable d (acts.Decline v) = tt
act_spellable d (acts.Give v) = tt
act_spellable d acts.End = tt
act_spellable d acts.Stop = tt

pub fitting_spellable : (m : ℕ) (id : ℤ) (a : Answer) → IsSpellableAnswer a → IsSpellableAnswer (fitting m id a)
fitting_spellable m id a is = by (is_short m (response id a))
  where
    by : (b : Bool) → IsSpellableAnswer (if b then a else failed_with answer_too_long)
    by true = is
    by false = failed_spellable answer_too_long

-- ---- an answer that it is too long

either_most : (b : Bool) (k : ℕ) (s t : List ℕ) → length s ≤ k → length t ≤ k → length (if b then s else t) ≤ k
either_most true k s t first second = first
either_most false k s t first second = second

bytes_most : (k code : ℕ) (n : ℤ) → k ≤ 8 → length (code ∷ signed_bytes k n) ≤ 9
bytes_most k code n le = rw (length-signed_bytes k n) (omega arith)

wide_most : (n : ℤ) → length (wide_int n) ≤ 9
wide_most n =
    either_most (nat_lt (extent n) (2 ^ 15)) 9 (254 ∷ signed_bytes 2 n) _ (bytes_most 2 254 n (omega arith))
    (either_most (nat_lt (extent n) (2 ^ 31)) 9 (253 ∷ signed_bytes 4 n) (252 ∷ signed_bytes 8 n) (bytes_most 4 253 n (omega arith))
    (bytes_most 8 252 n (omega arith)))

int_most : (n : ℤ) → length (written_int n) ≤ 9
int_most (pos n) = either_most (nat_lt n 128) 9 (n ∷ []) (wide_int (pos n)) (omega arith) (wide_most (pos n))
int_most (negsuc n) =
    either_most (nat_lt n 128) 9 (255 ∷ signed_bytes 1 (negsuc n)) (wide_int (negsuc n)) (bytes_most 1 255 (negsuc n) (omega arith))
    (wide_most (negsuc n))

too_long_bytes : written answer_form (answer_value (failed_with answer_too_long)) ≡ 1 ∷ 3 ∷ 0 ∷ 15 ∷ answer_too_long
unfolding written written_case written_parts
too_long_bytes =
    let why = sx.Atom answer_too_long in
    let told = written_sexp-Atom answer_too_long in
    rw (out_case 1 (error_value (error.Uncaught why) ∷ []), out_case 3 (val.Sexp why ∷ []), out_sexp why, told) refl

response_bytes : (id : ℤ) (a : Answer)
    → body_of (response id a) ≡ 2 ∷ ((written_int id ++ (written answer_form (answer_value a) ++ [])) ++ [])
unfolding written written_case written_parts
response_bytes id a =
    rw (out_case 2 (response_value (record { id = id; result = a }) ∷ []), out_parts (val.Num id ∷ answer_value a ∷ []), out_num id) refl

too_long_body : (id : ℤ) → body_of (response id (failed_with answer_too_long)) ≡ 2 ∷ (written_int id ++ 1 ∷ 3 ∷ 0 ∷ 15 ∷ answer_too_long)
too_long_body id =
    let said = written answer_form (answer_value (failed_with answer_too_long)) in
    response_bytes id (failed_with answer_too_long)
    ∙ (ap (λ s. 2 ∷ s) (append-nil (written_int id ++ (said ++ [])))
    ∙ ap (λ s. 2 ∷ (written_int id ++ s)) (append-nil said ∙ too_long_bytes))

too_long_short : (m : ℕ) (id : ℤ) → 64 ≤ m → is_short m (response id (failed_with answer_too_long)) ≡ true
too_long_short m id le =
    let most = int_most id in
    let long : length (written_int id ++ 1 ∷ 3 ∷ 0 ∷ 15 ∷ answer_too_long) ≡ length (written_int id) + 19
    = length-append (written_int id) (1 ∷ 3 ∷ 0 ∷ 15 ∷ answer_too_long) in
    let few : length (body_of (response id (failed_with answer_too_long))) ≤ m = rw (too_long_body id) (omega (arith, most, long)) in
    grind arith

pub fitting_short : (m : ℕ) (id : ℤ) (a : Answer) → 64 ≤ m → is_short m (response id (fitting m id a)) ≡ true
fitting_short m id a le = by (is_short m (response id a)) refl
  where
    by : (b : Bool) → is_short m (response id a) ≡ b → is_short m (response id (if b then a else failed_with answer_too_long)) ≡ true
    by true short = short
    by false long = too_long_short m id le

-- ---- and so is read back

pub act_back : (m : ℕ) (d : RpcDesc) (id : ℤ) (act : Act) → m < 2 ^ 64 → InRange 62 id → is_short m (response id (answer_by d act)) ≡ true
    → message_in m (body_of (response id (answer_by d act))) ≡ Some (response id (answer_by d act))
act_back m d id act small within short = message_reads m (response id (answer_by d act)) small (within, act_spellable d act) short

pub fitting_back : (m : ℕ) (id : ℤ) (a : Answer) → 64 ≤ m → m < 2 ^ 64 → InRange 62 id → IsSpellableAnswer a
    → message_in m (body_of (response id (fitting m id a))) ≡ Some (response id (fitting m id a))
fitting_back m id a le small within is =
    message_reads m (response id (fitting m id a)) small (within, fitting_spellable m id a is) (fitting_short m id a le)
