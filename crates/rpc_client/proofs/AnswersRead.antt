-- What the data of an answer says is what it was read as.
use Rattle.std.proofs.Common.{◌≡◌, refl, sym, ap, ◌∙◌, subst, inl, inr, ℕ, zero, suc, ◌+◌, ◌-◌, ℤ, List, [], ◌∷◌, ◌++◌, length, append-nil, arith}
use Rattle.std.specs.Prelude.{Option, Some, None, Result, Ok, Err}
use Rattle.std.proofs.lemmas.List.{length-append}
use Rattle.std.specs.Option.{option_map, option_and_then}
use Rattle.readers.specs.Reader.{Outcome, whole, more, bad, Each, IsByte, Any, Right}
use Rattle.bp_num.specs.declared.number.Why.{Why}
use Rattle.bp_value.specs.declared.value.Value.{Value}
use Rattle.bp_value.specs.declared.value.Value.TheVariants as val
use Rattle.bp_value.specs.Faults.{IsGood}
use Rattle.bp_value.specs.Form.{Form}
use Rattle.bp_value.proofs.Layers.{out_text, out_parts, out_case}
use Rattle.bp_grammar.specs.Reading.{read}
use Rattle.bp_grammar.specs.Reasons.{FaultWhy}
use Rattle.bp_grammar.specs.Spells.{Spells}
use Rattle.bp_grammar.proofs.Good.{good_read}
use Rattle.bp_grammar.proofs.Right.{IsRead}
use Rattle.rpc_msg.specs.declared.data.First.{First}
use Rattle.rpc_msg.specs.declared.data.First.TheVariants as first
use Rattle.rpc_msg.specs.declared.data.StreamPart.{StreamPart}
use Rattle.rpc_msg.specs.declared.data.StreamPart.TheVariants as stream
use Rattle.rpc_msg.specs.declared.fault.MsgFault.{MsgFault}
use Rattle.rpc_msg.specs.declared.fault.MsgFault.TheVariants as fault
use Rattle.rpc_msg.specs.Bodies.{behind, IsMsgFault, IsFirst, IsStreamPart, IsPartFault}
use Rattle.rpc_msg.specs.Forms.{first_form, part_form}
use Rattle.rpc_msg.specs.Values.{first_value, result_value, item_value, eof_value}
use Rattle.rpc_msg.proofs.Bodies.{right_read}
use Rattle.rpc_msg.proofs.Readable.{first_read, part_read}
use Rattle.rpc_log.specs.Readings.{whole_fault, fault_in, case_by, parts_by, text_by, case_told, parts_told, text_told, only_told}
use Rattle.rpc_log.proofs.Told.{told_fault}
use Rattle.readers.proofs.Readers.{each-rest}
use Rattle.rpc_talk.specs.Said.{Said, Reply, Begun, Declined, Item, Eof, Unreadable, all_read, value_read, said_by, said_or_none, plain_said, result_at, result_in, first_told, first_said, item_said, text_said, part_case, part_told, part_said}

-- ---- values

-- a spelling is read as its value
value_spelled : (m : ℕ) (f : Form) (body : List ℕ) (v : Value) → IsRead f → Spells m f v body → value_read m f body ≡ Ok v
value_spelled m f body v is spelled =
    let whole_is : read m f body ≡ whole v [] = ap (read m f) (sym (append-nil body)) ∙ (right_read m f is).complete v body [] spelled tt in
    ap (all_read (length body)) whole_is

fault_read : (count : ℕ) (o : Outcome ℕ Why Value) (why : MsgFault) → whole_fault count o ≡ Some why → all_read count o ≡ Err why
fault_read count (whole v []) why e = absurd cc
fault_read count (whole v (b ∷ u)) why e = let is : fault.Trailing (count - length (b ∷ u)) ≡ why = cc in ap Err is
fault_read count more why e = let is : fault.Cut count ≡ why = cc in ap Err is
fault_read count (bad n w) why e = let is : fault.Bad (count - n) w ≡ why = cc in ap Err is

-- and what is at fault is told
value_fault : (m : ℕ) (f : Form) (body : List ℕ) (why : MsgFault) → IsRead f → Each IsByte body → IsMsgFault m f body why → value_read m f body ≡ Err why
value_fault m f body why is vs at = fault_read (length body) (read m f body) why (told_fault m f is body why vs at)

-- ---- the answer of a plain procedure

pub plain_reply : (m : ℕ) (f : Form) (body : List ℕ) (v : Value) → IsGood f → Spells m f v body → plain_said m f body ≡ Reply v
plain_reply m f body v good spelled = ap (said_by Reply) (value_spelled m f body v (good_read f good) spelled)

pub plain_fault : (m : ℕ) (f : Form) (body : List ℕ) (why : MsgFault) → IsGood f → Each IsByte body → IsMsgFault m f body why → plain_said m f body ≡ Unreadable why
plain_fault m f body why good vs at = ap (said_by Reply) (value_fault m f body why (good_read f good) vs at)

-- ---- the first answer of a stream

case_is : (place : ℕ) (vs : List Value) → case_told (val.Case place vs) ≡ Some (place, vs)
case_is place vs = ap case_by (out_case place vs)

abbrev pub said_first : First → Said
said_first (first.Begun v) = Begun v
said_first (first.Declined v) = Declined v

result_told : (r : First) → option_and_then (λ c. result_at c.0 c.1) (case_told (result_value r)) ≡ Some (said_first r)
result_told (first.Begun v) = ap (option_and_then (λ c. result_at c.0 c.1)) (case_is 0 (v ∷ []))
result_told (first.Declined v) = ap (option_and_then (λ c. result_at c.0 c.1)) (case_is 1 (v ∷ []))

first_is : (unused : ℤ) (r : First) → first_told (first_value unused r) ≡ said_first r
first_is unused r =
    ap (λ o. said_or_none (option_and_then result_in (parts_by o))) (out_parts (val.Num unused ∷ result_value r ∷ []))
    ∙ ap said_or_none (result_told r)

pub first_says : (m : ℕ) (begun declined : Form) (body : List ℕ) (r : First) → IsGood begun → IsGood declined → IsFirst m begun declined r body
    → first_said m begun declined body ≡ said_first r
first_says m begun declined body r good_begun good_declined (unused, spelled) =
    ap (said_by first_told)
    (value_spelled m (first_form begun declined) body (first_value unused r) (first_read begun declined (good_read begun good_begun) (good_read declined good_declined)) spelled)
    ∙ first_is unused r

pub first_fault : (m : ℕ) (begun declined : Form) (body : List ℕ) (why : MsgFault) → IsGood begun → IsGood declined → Each IsByte body
    → IsMsgFault m (first_form begun declined) body why → first_said m begun declined body ≡ Unreadable why
first_fault m begun declined body why good_begun good_declined vs at =
    ap (said_by first_told)
    (value_fault m (first_form begun declined) body why (first_read begun declined (good_read begun good_begun) (good_read declined good_declined)) vs at)

-- ---- a later answer

text_at : (m count : ℕ) (item : Form) (text : List ℕ) → part_told m item count (item_value text) ≡ text_said m item count text
text_at m count item text =
    ap (λ o. said_or_none (option_and_then (λ c. part_case m item count c.0 c.1) o)) (case_is 0 (val.Text text ∷ []))
    ∙ ap (λ o. said_or_none (option_map (text_said m item count) (text_by o))) (out_text text)

pub item_says : (m : ℕ) (item : Form) (body text : List ℕ) (v : Value) → IsGood item → Spells m part_form (item_value text) body → Spells m item v text
    → part_said m item body ≡ Item v
item_says m item body text v good spelled inner =
    ap (said_by (part_told m item (length body))) (value_spelled m part_form body (item_value text) part_read spelled)
    ∙ (text_at m (length body) item text
    ∙ ap (item_said m item (length body - length text)) (value_spelled m item text v (good_read item good) inner))

pub eof_says : (m : ℕ) (item : Form) (body : List ℕ) → Spells m part_form eof_value body → part_said m item body ≡ Eof
eof_says m item body spelled =
    ap (said_by (part_told m item (length body))) (value_spelled m part_form body eof_value part_read spelled)
    ∙ ap (λ o. said_or_none (option_and_then (λ c. part_case m item (length body) c.0 c.1) o)) (case_is 1 [])

pub part_fault : (m : ℕ) (item : Form) (body : List ℕ) (why : MsgFault) → IsGood item → Each IsByte body → IsPartFault m item body why
    → part_said m item body ≡ Unreadable why
part_fault m item body why good vs (inl at) = ap (said_by (part_told m item (length body))) (value_fault m part_form body why part_read vs at)
part_fault m item body why good vs (inr (front, text, inner, cut, spelled, at, is)) =
    let count : length body - length text ≡ length front = omega (arith, ap length cut ∙ length-append front text) in
    let bytes : Each IsByte text = each-rest IsByte front text (subst (Each IsByte) cut vs) in
    ap (said_by (part_told m item (length body))) (value_spelled m part_form body (item_value text) part_read spelled)
    ∙ (text_at m (length body) item text
    ∙ (ap (item_said m item (length body - length text)) (value_fault m item text inner (good_read item good) bytes at)
    ∙ (ap (λ n. Unreadable (behind n inner)) count ∙ ap Unreadable (sym is))))
