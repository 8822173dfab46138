-- What a body reads as is the message or the header whose spelling it is.
use Rattle.std.proofs.Common.{◌≡◌, refl, sym, ap, ◌∙◌, subst, ℕ, zero, suc, ◌-◌, ◌<◌, ℤ, List, [], ◌∷◌, length, drop, map, append-nil, arith}
use Rattle.std.proofs.lemmas.List.{length-drop}
use Rattle.std.specs.Prelude.{Option, Some, None}
use Rattle.std.specs.Option.{option_map, option_and_then}
use Rattle.readers.specs.Reader.{Outcome, whole, more, bad, after, mapped, one, count, Each, IsByte, Any, Right}
use Rattle.readers.specs.Keys.{key_at}
use Rattle.readers.proofs.Places.{told_whole, told_more, told_bad, only_whole, only_more, only_bad}
use Rattle.bp_num.specs.declared.number.Why.{Why}
use Rattle.bp_num.specs.declared.number.Why.TheVariants.{Case, Tag}
use Rattle.bp_num.specs.declared.number.IntKind.TheVariants.{Int63}
use Rattle.bp_num.specs.NumberAt.{int_at, nat_at}
use Rattle.bp_value.specs.declared.value.Sexp.{Sexp}
use Rattle.bp_value.specs.declared.value.Value.{Value}
use Rattle.bp_value.specs.declared.value.Value.TheVariants as val
use Rattle.bp_value.specs.declared.value.Value.TheVariants.{Num, Text, Parts}
use Rattle.bp_value.specs.Form.{Form, sexp}
use Rattle.bp_value.proofs.Layers.{out_num, out_text, out_items, out_parts, out_case, out_sexp}
use Rattle.bp_grammar.specs.Spells.{Spells, place_of}
use Rattle.bp_codec.specs.Plan.{keys_in}
use Rattle.bp_grammar.specs.Reasons.{FaultWhy}
use Rattle.bp_grammar.proofs.Right.{IsRead}
use Rattle.bp_grammar.proofs.Telling.{tells_form}
use Rattle.bp_grammar.specs.Reading.{read, read_parts, sized_at}
use Rattle.rpc_msg.specs.declared.message.Header.{Header}
use Rattle.rpc_msg.specs.declared.message.Query.{Query}
use Rattle.rpc_msg.specs.declared.message.Response.{Response}
use Rattle.rpc_msg.specs.declared.message.Answer.{Answer}
use Rattle.rpc_msg.specs.declared.message.Answer.TheVariants as answer
use Rattle.rpc_msg.specs.declared.message.RpcError.{RpcError}
use Rattle.rpc_msg.specs.declared.message.RpcError.TheVariants as error
use Rattle.rpc_msg.specs.declared.message.Message.{Message}
use Rattle.rpc_msg.specs.declared.message.Message.TheVariants as message
use Rattle.rpc_msg.specs.Values.{header_value, error_value, unimplemented_values, answer_value, query_value, response_value, message_value}
use Rattle.rpc_msg.specs.declared.fault.MsgFault.{MsgFault}
use Rattle.rpc_msg.specs.declared.fault.MsgFault.TheVariants as fault
use Rattle.rpc_msg.specs.Bodies.{IsMsgFault}
use Rattle.rpc_msg.specs.Forms.{header_form, unimplemented_parts, error_form, query_form, answer_form, response_form, message_form}
use Rattle.rpc_log.specs.Readings.{number_by, text_by, items_by, parts_by, case_by, sexp_by, number_told, text_told, items_told, parts_told, case_told, sexp_told}
use Rattle.rpc_log.specs.Readings.{both_of, version_by, unimplemented_by, error_at, error_told, answer_at, answer_told, query_by, query_from, query_told, response_by, response_from, response_told}
use Rattle.rpc_log.specs.Readings.{message_at, message_of, numbers_told, header_by, header_of, whole_value, value_in, whole_fault, fault_in, message_in, header_in}
use Rattle.rpc_msg.proofs.Bodies.{right_read, sexp_value}
use Rattle.rpc_msg.proofs.Directs.{query_reads, response_reads, answer_case, answer_reads, message_case, message_reads, version_part, unimplemented_reads, error_case, error_reads, header_reads}
use Rattle.rpc_msg.proofs.Readable.{header_read, message_read}

-- ---- the content of a value

pub number_back : (n : ℤ) → number_told (Num n) ≡ Some n
number_back n = ap number_by (out_num n)

pub text_back : (t : List ℕ) → text_told (Text t) ≡ Some t
text_back t = ap text_by (out_text t)

items_back : (vs : List Value) → items_told (val.Items vs) ≡ Some vs
items_back vs = ap items_by (out_items vs)

parts_back : (vs : List Value) → parts_told (Parts vs) ≡ Some vs
parts_back vs = ap parts_by (out_parts vs)

case_back : (place : ℕ) (vs : List Value) → case_told (val.Case place vs) ≡ Some (place, vs)
case_back place vs = ap case_by (out_case place vs)

sexp_back : (s : Sexp) → sexp_told (val.Sexp s) ≡ Some s
sexp_back s = ap sexp_by (out_sexp s)

-- a function of both
both_back : {A B C : Type 0} (f : A × B → C) (x : Option A) (y : Option B) (a : A) (b : B) → x ≡ Some a → y ≡ Some b → option_map f (both_of x y) ≡ Some (f (a, b))
both_back f x y a b e h = ap (λ o. option_map f (both_of o y)) e ∙ ap (λ o. option_map f (both_of (Some a) o)) h

-- ---- each message is told by its value

error_back : (e : RpcError) → error_told (error_value e) ≡ Some e
error_back e = by e
  where
    at : (place : ℕ) (vs : List Value) → error_told (val.Case place vs) ≡ error_at place vs
    at place vs = ap (option_and_then (λ c. error_at c.0 c.1)) (case_back place vs)

    by : (e : RpcError) → error_told (error_value e) ≡ Some e
    by (error.BinIo s) = at 0 (val.Sexp s ∷ []) ∙ ap (option_map error.BinIo) (sexp_back s)
    by error.ConnectionClosed = at 1 []
    by (error.WriteError s) = at 2 (val.Sexp s ∷ []) ∙ ap (option_map error.WriteError) (sexp_back s)
    by (error.Uncaught s) = at 3 (val.Sexp s ∷ []) ∙ ap (option_map error.Uncaught) (sexp_back s)
    by (error.Unimplemented tag version) =
        at 4 (unimplemented_values (tag, version))
        ∙ both_back unimplemented_by (text_told (Text tag)) (option_and_then version_by (case_told (val.Case 0 (Num version ∷ [])))) tag version (text_back tag)
        (ap (option_and_then version_by) (case_back 0 (Num version ∷ [])) ∙ number_back version)
    by (error.UnknownId id) = at 5 (Num id ∷ []) ∙ ap (option_map error.UnknownId) (number_back id)

answer_back : (a : Answer) → answer_told (answer_value a) ≡ Some a
answer_back a = by a
  where
    at : (place : ℕ) (vs : List Value) → answer_told (val.Case place vs) ≡ answer_at place vs
    at place vs = ap (option_and_then (λ c. answer_at c.0 c.1)) (case_back place vs)

    by : (a : Answer) → answer_told (answer_value a) ≡ Some a
    by (answer.Ok body) = at 0 (Text body ∷ []) ∙ ap (option_map answer.Ok) (text_back body)
    by (answer.Error e) = at 1 (error_value e ∷ []) ∙ ap (option_map answer.Error) (error_back e)

query_back : (q : Query) → query_told (query_value q) ≡ Some q
query_back q =
    ap (option_and_then query_from) (parts_back (Text q.tag ∷ Num q.version ∷ Num q.id ∷ Text q.body ∷ []))
    ∙ both_back query_by (both_of (text_told (Text q.tag)) (number_told (Num q.version))) (both_of (number_told (Num q.id)) (text_told (Text q.body))) (q.tag, q.version) (q.id, q.body)
    (pair_back (text_back q.tag) (number_back q.version)) (pair_back (number_back q.id) (text_back q.body))
  where
    pair_back : {A B : Type 0} {x : Option A} {y : Option B} {a : A} {b : B} → x ≡ Some a → y ≡ Some b → both_of x y ≡ Some (a, b)
    pair_back {x = x} {y = y} {a = a} {b = b} e h = ap (λ o. both_of o y) e ∙ ap (λ o. both_of (Some a) o) h

response_back : (r : Response) → response_told (response_value r) ≡ Some r
response_back r =
    ap (option_and_then response_from) (parts_back (Num r.id ∷ answer_value r.result ∷ []))
    ∙ both_back response_by (number_told (Num r.id)) (answer_told (answer_value r.result)) r.id r.result (number_back r.id) (answer_back r.result)

pub message_back : (a : Message) → message_of (message_value a) ≡ Some a
message_back a = by a
  where
    at : (place : ℕ) (vs : List Value) → message_of (val.Case place vs) ≡ message_at place vs
    at place vs = ap (option_and_then (λ c. message_at c.0 c.1)) (case_back place vs)

    by : (a : Message) → message_of (message_value a) ≡ Some a
    by message.Heartbeat = at 0 []
    by (message.Query q) = at 1 (query_value q ∷ []) ∙ ap (option_map message.Query) (query_back q)
    by (message.Response r) = at 2 (response_value r ∷ []) ∙ ap (option_map message.Response) (response_back r)

numbers_back : (ns : List ℤ) → numbers_told (map Num ns) ≡ Some ns
numbers_back [] = refl
numbers_back (n ∷ ns) = both_back (λ p. p.0 ∷ p.1) (number_told (Num n)) (numbers_told (map Num ns)) n ns (number_back n) (numbers_back ns)

pub header_back : (h : Header) → header_of (header_value h) ≡ Some h
header_back h = ap (λ o. option_map header_by (option_and_then numbers_told o)) (items_back (map Num h.versions)) ∙ ap (option_map header_by) (numbers_back h.versions)

-- ---- what a reading gives is the value of a message

abbrev Out : Type 0 → Type 0
Out A = Outcome ℕ Why A

more_whole : {A : Type 0} (a : A) (u : List ℕ) → ◌≡◌ {A = Outcome ℕ Why A} more (whole a u) → ⊥
more_whole a u e = cc

bad_whole : {A : Type 0} (n : ℕ) (w : Why) (a : A) (u : List ℕ) → ◌≡◌ {A = Outcome ℕ Why A} (bad n w) (whole a u) → ⊥
bad_whole n w a u e = cc

-- what is whole is whole at each step
after_there : {A B : Type 0} (o : Out A) (f : A → List ℕ → Out B) (b : B) (u : List ℕ) → after o f ≡ whole b u → (a : A) × (t : List ℕ) × (o ≡ whole a t) × (f a t ≡ whole b u)
after_there (whole a t) f b u e = (a, t, refl, e)
after_there more f b u e = absurd (more_whole b u e)
after_there (bad n w) f b u e = absurd (bad_whole n w b u e)

mapped_there : {A B : Type 0} (g : A → B) (o : Out A) (b : B) (u : List ℕ) → mapped g o ≡ whole b u → (a : A) × (o ≡ whole a u) × (b ≡ g a)
mapped_there g (whole a t) b u e = let same : t ≡ u = cc in let is : b ≡ g a = cc in (a, ap (whole a) same, is)
mapped_there g more b u e = absurd (more_whole b u e)
mapped_there g (bad n w) b u e = absurd (bad_whole n w b u e)

whole_is : {A : Type 0} (a b : A) (t u : List ℕ) → ◌≡◌ {A = Outcome ℕ Why A} (whole a t) (whole b u) → b ≡ a
whole_is a b t u e = cc

query_there : (m : ℕ) (s u : List ℕ) (v : Value) → read m query_form s ≡ whole v u → (q : Query) × (v ≡ query_value q)
query_there m s u v e =
    let (tag, t, e0, f0) = after_there (sized_at m s) _ v u (sym (query_reads m s) ∙ e) in
    let (version, x, e1, f1) = after_there (int_at Int63 t) _ v u f0 in
    let (id, y, e2, f2) = after_there (int_at Int63 x) _ v u f1 in
    let (body, e3, is) = mapped_there (λ body. Parts (Text tag ∷ Num version ∷ Num id ∷ Text body ∷ [])) (sized_at m y) v u f2 in
    (record { tag = tag; version = version; id = id; body = body }, is)

unimplemented_there : (m : ℕ) (s u : List ℕ) (vs : List Value) → read_parts m unimplemented_parts s ≡ whole vs u → (p : List ℕ × ℤ) × (vs ≡ unimplemented_values p)
unimplemented_there m s u vs e =
    let (tag, t, e0, f0) = after_there (sized_at m s) _ vs u (sym (unimplemented_reads m s) ∙ e) in
    let (place, x, e1, f1) = after_there (key_at Tag 4 (keys_in 0 (0x94861DF1 ∷ [])) t) (version_part tag) vs u f0 in
    by tag place x f1
  where
    by : (tag : List ℕ) (place : ℕ) (x : List ℕ) → version_part tag place x ≡ whole vs u → (p : List ℕ × ℤ) × (vs ≡ unimplemented_values p)
    by tag zero x f = let (n, e, is) = mapped_there (λ n. unimplemented_values (tag, n)) (int_at Int63 x) vs u f in ((tag, n), is)
    by tag (suc place) x f = absurd (more_whole vs u f)

error_there : (m : ℕ) (s u : List ℕ) (v : Value) → read m error_form s ≡ whole v u → (e : RpcError) × (v ≡ error_value e)
error_there m s u v e =
    let (place, t, e0, f0) = after_there (one (place_of 6) Case s) (error_case m) v u (sym (error_reads m s) ∙ e) in by place t f0
  where
    sexp_case : (place : ℕ) (t : List ℕ) → mapped (λ x. val.Case place (x ∷ [])) (read m sexp t) ≡ whole v u → (x : Sexp) × (v ≡ val.Case place (val.Sexp x ∷ []))
    sexp_case place t f =
        let (w, e, is) = mapped_there (λ x. val.Case place (x ∷ [])) (read m sexp t) v u f in
        let (x, same) = sexp_value m t u w e in
        (x, is ∙ ap (λ y. val.Case place (y ∷ [])) same)

    by : (place : ℕ) (t : List ℕ) → error_case m place t ≡ whole v u → (e : RpcError) × (v ≡ error_value e)
    by zero t f = let (x, is) = sexp_case 0 t f in (error.BinIo x, is)
    by (suc zero) t f = (error.ConnectionClosed, whole_is (val.Case 1 []) v t u f)
    by (suc (suc zero)) t f = let (x, is) = sexp_case 2 t f in (error.WriteError x, is)
    by (suc (suc (suc zero))) t f = let (x, is) = sexp_case 3 t f in (error.Uncaught x, is)
    by (suc (suc (suc (suc zero)))) t f =
        let (vs, e, is) = mapped_there (val.Case 4) (read_parts m unimplemented_parts t) v u f in
        let (p, same) = unimplemented_there m t u vs e in
        (error.Unimplemented p.0 p.1, is ∙ ap (val.Case 4) same)
    by (suc (suc (suc (suc (suc zero))))) t f =
        let (n, e, is) = mapped_there (λ n. val.Case 5 (Num n ∷ [])) (int_at Int63 t) v u f in (error.UnknownId n, is)
    by (suc (suc (suc (suc (suc (suc place)))))) t f = absurd (more_whole v u f)

answer_there : (m : ℕ) (s u : List ℕ) (v : Value) → read m answer_form s ≡ whole v u → (a : Answer) × (v ≡ answer_value a)
answer_there m s u v e =
    let (place, t, e0, f0) = after_there (one (place_of 2) Case s) (answer_case m) v u (sym (answer_reads m s) ∙ e) in by place t f0
  where
    by : (place : ℕ) (t : List ℕ) → answer_case m place t ≡ whole v u → (a : Answer) × (v ≡ answer_value a)
    by zero t f = let (body, e, is) = mapped_there (λ body. val.Case 0 (Text body ∷ [])) (sized_at m t) v u f in (answer.Ok body, is)
    by (suc zero) t f =
        let (w, e, is) = mapped_there (λ e. val.Case 1 (e ∷ [])) (read m error_form t) v u f in
        let (why, same) = error_there m t u w e in
        (answer.Error why, is ∙ ap (λ y. val.Case 1 (y ∷ [])) same)
    by (suc (suc place)) t f = absurd (more_whole v u f)

response_there : (m : ℕ) (s u : List ℕ) (v : Value) → read m response_form s ≡ whole v u → (r : Response) × (v ≡ response_value r)
response_there m s u v e =
    let (id, t, e0, f0) = after_there (int_at Int63 s) _ v u (sym (response_reads m s) ∙ e) in
    let (w, e1, is) = mapped_there (λ v. Parts (Num id ∷ v ∷ [])) (read m answer_form t) v u f0 in
    let (a, same) = answer_there m t u w e1 in
    (record { id = id; result = a }, is ∙ ap (λ y. Parts (Num id ∷ y ∷ [])) same)

message_there : (m : ℕ) (s u : List ℕ) (v : Value) → read m message_form s ≡ whole v u → (a : Message) × (v ≡ message_value a)
message_there m s u v e =
    let (place, t, e0, f0) = after_there (one (place_of 3) Case s) (message_case m) v u (sym (message_reads m s) ∙ e) in by place t f0
  where
    by : (place : ℕ) (t : List ℕ) → message_case m place t ≡ whole v u → (a : Message) × (v ≡ message_value a)
    by zero t f = (message.Heartbeat, whole_is (val.Case 0 []) v t u f)
    by (suc zero) t f =
        let (w, e, is) = mapped_there (λ q. val.Case 1 (q ∷ [])) (read m query_form t) v u f in
        let (q, same) = query_there m t u w e in
        (message.Query q, is ∙ ap (λ y. val.Case 1 (y ∷ [])) same)
    by (suc (suc zero)) t f =
        let (w, e, is) = mapped_there (λ r. val.Case 2 (r ∷ [])) (read m response_form t) v u f in
        let (r, same) = response_there m t u w e in
        (message.Response r, is ∙ ap (λ y. val.Case 2 (y ∷ [])) same)
    by (suc (suc (suc place))) t f = absurd (more_whole v u f)

header_there : (m : ℕ) (s u : List ℕ) (v : Value) → read m header_form s ≡ whole v u → (h : Header) × (v ≡ header_value h)
header_there m s u v e =
    let (n, t, e0, f0) = after_there (nat_at m s) _ v u (sym (header_reads m s) ∙ e) in
    let (vs, e1, is) = mapped_there (λ vs. val.Items (map Num vs)) (count (int_at Int63) n t) v u f0 in
    (record { versions = vs }, is)

-- ---- whole bodies, of a form whose values are those of things of a kind

module _ {A : Type 0} (g : A → Value) (of : Value → Option A) (m : ℕ) (f : Form) (is : IsRead f)
    (back : (a : A) → of (g a) ≡ Some a) (there : (s u : List ℕ) (v : Value) → read m f s ≡ whole v u → (a : A) × (v ≡ g a)) where
  abbrev right : Right IsByte Any (Spells m f) (FaultWhy m f) (read m f)
  right = right_read m f is

  abbrev told : List ℕ → Option A
  told body = option_and_then of (value_in m f body)

  -- a spelling reads as what it is a spelling of
  spelled_told : (body : List ℕ) (a : A) → Spells m f (g a) body → told body ≡ Some a
  spelled_told body a spelled =
      let e : read m f body ≡ whole (g a) [] = ap (read m f) (sym (append-nil body)) ∙ right.complete (g a) body [] spelled tt in
      ap (λ o. option_and_then of (whole_value o)) e ∙ back a

  -- and nothing else reads so
  told_spelled : (body : List ℕ) (a : A) → Each IsByte body → told body ≡ Some a → Spells m f (g a) body
  told_spelled body a vs e = by (read m f body) refl e
    where
      none_some : ◌≡◌ {A = Option A} None (Some a) → ⊥
      none_some e = cc

      some_is : (b : A) → Some b ≡ Some a → b ≡ a
      some_is b e = cc

      by : (o : Out Value) → read m f body ≡ o → option_and_then of (whole_value o) ≡ Some a → Spells m f (g a) body
      by (whole v []) e h =
          let (b, same) = there body [] v e in
          let alike : b ≡ a = some_is b (sym (ap of same ∙ back b) ∙ h) in
          let (t, cut, spelled, follows) = right.sound body v [] vs e in
          subst (λ x. Spells m f x body) (same ∙ ap g alike) (subst (λ x. Spells m f v x) (sym (cut ∙ append-nil t)) spelled)
      by (whole v (b ∷ u)) e h = absurd (none_some h)
      by more e h = absurd (none_some h)
      by (bad n w) e h = absurd (none_some h)

  -- what is at fault reads as nothing
  fault_told : (body : List ℕ) (why : MsgFault) → Each IsByte body → IsMsgFault m f body why → told body ≡ None
  fault_told body (fault.Bad at w) vs here =
      let (n, sum, e) = only_bad IsByte (Spells m f) (FaultWhy m f) (read m f) right body at w vs here (tells_form m f is).one in
      ap (λ o. option_and_then of (whole_value o)) e
  fault_told body (fault.Cut at) vs (place, front) =
      ap (λ o. option_and_then of (whole_value o)) (only_more IsByte (Spells m f) (FaultWhy m f) (read m f) right body vs front)
  fault_told body (fault.Trailing at) vs ((v, stands), lt) =
      ap (λ o. option_and_then of (whole_value o)) (only_whole IsByte (Spells m f) (FaultWhy m f) (read m f) right body v at stands)
      ∙ left (drop at body) (omega (arith, length-drop at body))
    where
      left : (u : List ℕ) → 0 < length u → option_and_then of (whole_value (whole v u)) ≡ None
      left [] lt = absurd (omega arith)
      left (b ∷ u) lt = refl

-- ---- faults, of any form that can be read

module _ (m : ℕ) (f : Form) (is : IsRead f) where
  abbrev reads : Right IsByte Any (Spells m f) (FaultWhy m f) (read m f)
  reads = right_read m f is

  -- the fault of a body is told
  pub told_fault : (body : List ℕ) (why : MsgFault) → Each IsByte body → IsMsgFault m f body why → fault_in m f body ≡ Some why
  told_fault body (fault.Bad at w) vs here =
      let (n, sum, e) = only_bad IsByte (Spells m f) (FaultWhy m f) (read m f) reads body at w vs here (tells_form m f is).one in
      let place : length body - n ≡ at = omega (arith, sum) in
      ap (whole_fault (length body)) e ∙ ap (λ k. Some (fault.Bad k w)) place
  told_fault body (fault.Cut at) vs (place, front) =
      ap (whole_fault (length body)) (only_more IsByte (Spells m f) (FaultWhy m f) (read m f) reads body vs front) ∙ ap (λ k. Some (fault.Cut k)) (sym place)
  told_fault body (fault.Trailing at) vs ((v, stands), lt) =
      ap (whole_fault (length body)) (only_whole IsByte (Spells m f) (FaultWhy m f) (read m f) reads body v at stands)
      ∙ left (drop at body) (length-drop at body)
    where
      left : (u : List ℕ) → length u ≡ length body - at → whole_fault (length body) (whole v u) ≡ Some (fault.Trailing at)
      left [] e = absurd (omega arith)
      left (b ∷ u) e = let place : length body - length (b ∷ u) ≡ at = omega (arith, lt) in ap (λ k. Some (fault.Trailing k)) place

  -- and no other
  pub fault_is : (body : List ℕ) (why : MsgFault) → Each IsByte body → fault_in m f body ≡ Some why → IsMsgFault m f body why
  fault_is body why vs e = by (read m f body) refl e
    where
      none_some : ◌≡◌ {A = Option MsgFault} None (Some why) → ⊥
      none_some e = cc

      some_is : (x : MsgFault) → Some x ≡ Some why → x ≡ why
      some_is x e = cc

      by : (o : Out Value) → read m f body ≡ o → whole_fault (length body) o ≡ Some why → IsMsgFault m f body why
      by (whole v []) e h = absurd (none_some h)
      by (whole v (b ∷ u)) e h =
          let (k, stands, left) = told_whole IsByte (Spells m f) (FaultWhy m f) (read m f) reads body v (b ∷ u) vs e in
          let few : length (b ∷ u) ≡ length body - k = ap length left ∙ length-drop k body in
          let place : length body - length (b ∷ u) ≡ k = omega (arith, few, stands.0) in
          let within : k < length body = omega (arith, few) in
          subst (IsMsgFault m f body) (ap fault.Trailing (sym place) ∙ some_is (fault.Trailing (length body - length (b ∷ u))) h) ((v, stands), within)
      by more e h =
          subst (IsMsgFault m f body) (some_is (fault.Cut (length body)) h) (refl, told_more IsByte (Spells m f) (FaultWhy m f) (read m f) reads body vs e)
      by (bad n w) e h =
          let (k, sum, at) = told_bad IsByte (Spells m f) (FaultWhy m f) (read m f) reads body n w vs e in
          let place : k ≡ length body - n = omega (arith, sum) in
          subst (IsMsgFault m f body) (ap (λ j. fault.Bad j w) place ∙ some_is (fault.Bad (length body - n) w) h) at

-- ---- messages and headers

pub spelled_message : (m : ℕ) (body : List ℕ) (a : Message) → Spells m message_form (message_value a) body → message_in m body ≡ Some a
spelled_message m body a spelled = spelled_told message_value message_of m message_form message_read message_back (message_there m) body a spelled

pub message_spelled : (m : ℕ) (body : List ℕ) (a : Message) → Each IsByte body → message_in m body ≡ Some a → Spells m message_form (message_value a) body
message_spelled m body a vs e = told_spelled message_value message_of m message_form message_read message_back (message_there m) body a vs e

pub no_message : (m : ℕ) (body : List ℕ) (why : MsgFault) → Each IsByte body → IsMsgFault m message_form body why → message_in m body ≡ None
no_message m body why vs at = fault_told message_value message_of m message_form message_read message_back (message_there m) body why vs at

pub spelled_header : (m : ℕ) (body : List ℕ) (h : Header) → Spells m header_form (header_value h) body → header_in m body ≡ Some h
spelled_header m body h spelled = spelled_told header_value header_of m header_form header_read header_back (header_there m) body h spelled

pub header_spelled : (m : ℕ) (body : List ℕ) (h : Header) → Each IsByte body → header_in m body ≡ Some h → Spells m header_form (header_value h) body
header_spelled m body h vs e = told_spelled header_value header_of m header_form header_read header_back (header_there m) body h vs e

pub no_header : (m : ℕ) (body : List ℕ) (why : MsgFault) → Each IsByte body → IsMsgFault m header_form body why → header_in m body ≡ None
no_header m body why vs at = fault_told header_value header_of m header_form header_read header_back (header_there m) body why vs at
