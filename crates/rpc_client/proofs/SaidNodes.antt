-- What an answer says has no more nodes than its data have bytes, and what all answers make of a call has no more than they have together.
use Rattle.std.proofs.Common.{◌≡◌, refl, sym, ap, ◌∙◌, subst, ◌⊎◌, inl, inr, ℕ, zero, suc, ◌+◌, ◌-◌, ◌≤◌, List, [], ◌∷◌, length, map, append-nil, arith}
use Rattle.std.specs.Prelude.{Result, Ok, Err}
use Rattle.std.specs.List.{sum_by}
use Rattle.std.specs.Option.{option_map, option_and_then}
use Rattle.std.proofs.lemmas.List.Sums.{sum_by-cons, sum-map}
use Rattle.readers.specs.Reader.{Outcome, whole, more, bad, Each, IsByte}
use Rattle.bp_num.specs.declared.number.Why.{Why}
use Rattle.bp_value.specs.declared.value.Value.{Value}
use Rattle.bp_value.specs.declared.value.Value.TheVariants as val
use Rattle.bp_value.specs.Form.{Form, form_of}
use Rattle.bp_value.proofs.Layers.{out_text, out_parts, out_case}
use Rattle.bp_grammar.specs.Nodes.{node_count}
use Rattle.bp_grammar.specs.Reading.{read}
use Rattle.bp_grammar.specs.Spells.{Spells, SpellParts}
use Rattle.bp_grammar.proofs.NodeCounts.{node_count-parts, node_count-case}
use Rattle.bp_grammar.proofs.Nodes.{nodes_spelled}
use Rattle.bp_grammar.proofs.Good.{good_read}
use Rattle.bp_grammar.proofs.Right.{IsRead}
use Rattle.rpc_msg.specs.declared.fault.MsgFault.{MsgFault}
use Rattle.rpc_msg.specs.declared.message.Answer.{Answer}
use Rattle.rpc_msg.specs.declared.message.Answer.TheVariants as answer
use Rattle.rpc_msg.specs.declared.shared.Part.TheVariants as part
use Rattle.rpc_msg.specs.Forms.{first_form, part_form}
use Rattle.rpc_msg.specs.Values.{item_value}
use Rattle.rpc_msg.proofs.Bodies.{right_read}
use Rattle.rpc_msg.proofs.Readable.{first_read, part_read}
use Rattle.rpc_log.specs.Readings.{case_by, parts_by, text_by, only_told}
use Rattle.rpc_talk.specs.Parts.{Fate, Goes_on, Ends, Broken, CallParts, later_parts, stream_parts, plain_parts, kind_parts, parts_of}
use Rattle.rpc_talk.specs.Said.{Said, Reply, Begun, Declined, Item, Eof, Unreadable, Failed, all_read, value_read, said_by, said_or_none, plain_said, result_at, result_in, first_told, first_said, item_said, text_said, part_case, part_told, part_said, answer_said, first_by, later_by, says_in}
use Rattle.rpc_schema.specs.declared.desc.Kind.{Kind}
use Rattle.rpc_schema.specs.declared.desc.Kind.TheVariants.{Plain, OneWay, Pipe, State}
use Rattle.rpc_schema.specs.declared.desc.RpcDesc.{RpcDesc}
use Rattle.rpc_client.specs.Rows.{IsCallable}
use Rattle.rpc_client.specs.Nodes.{error_nodes, stream_part_nodes, ending_nodes}
use Rattle.rpc_client.proofs.Inside.{LiesIn, inside_bytes, inside_long, item_inside}

abbrev pub said_nodes : Said → ℕ
said_nodes (Reply v) = node_count v
said_nodes (Begun v) = node_count v
said_nodes (Declined v) = node_count v
said_nodes (Item v) = node_count v
said_nodes Eof = 0
said_nodes (Unreadable why) = 0
said_nodes (Failed e) = error_nodes e

-- the bytes of an answer's data, or the nodes of its error
abbrev pub answer_size : Answer → ℕ
answer_size (answer.Ok body) = length body
answer_size (answer.Error e) = error_nodes e

-- ---- one reading

-- what is read of some bytes is spelled by them
read_spelled : (m : ℕ) (f : Form) (body : List ℕ) (v : Value) → IsRead f → Each IsByte body → value_read m f body ≡ Ok v → Spells m f v body
read_spelled m f body v is vs e = by (read m f body) refl e
  where
    by : (o : Outcome ℕ Why Value) → read m f body ≡ o → all_read (length body) o ≡ Ok v → Spells m f v body
    by (whole w []) reads h =
        let same : w ≡ v = cc in
        let (t, cut, spelled, follows) = (right_read m f is).sound body w [] vs reads in
        subst (λ s. Spells m f v s) (sym (cut ∙ append-nil t)) (subst (λ x. Spells m f x t) same spelled)
    by (whole w (b ∷ u)) reads h = absurd cc
    by more reads h = absurd cc
    by (bad n w) reads h = absurd cc

-- what is told of a reading, where each value tells few nodes
told_few : (tell : Value → Said) (r : Result Value MsgFault) (n : ℕ) → ((v : Value) → r ≡ Ok v → said_nodes (tell v) ≤ n)
    → said_nodes (said_by tell r) ≤ n
told_few tell (Ok v) n each = each v refl
told_few tell (Err why) n each = omega arith

plain_few : (m : ℕ) (f : Form) (body : List ℕ) → IsRead f → Each IsByte body → said_nodes (plain_said m f body) ≤ length body
plain_few m f body is vs =
    told_few Reply (value_read m f body) (length body) (λ v e. nodes_spelled m f v body (read_spelled m f body v is vs e))

-- ---- a first answer

only_few : (tell : Value → Said) (vs : List Value) → ((v : Value) → said_nodes (tell v) ≡ node_count v)
    → said_nodes (said_or_none (option_map tell (only_told vs))) ≤ sum_by node_count vs
only_few tell [] each = omega arith
only_few tell (v ∷ []) each = omega (arith, each v)
only_few tell (v ∷ w ∷ vs) each = omega arith

result_few : (place : ℕ) (vs : List Value) → said_nodes (said_or_none (result_at place vs)) ≤ sum_by node_count vs
result_few zero vs = only_few Begun vs (λ v. refl)
result_few (suc place) vs = only_few Declined vs (λ v. refl)

-- a first answer of any form is a number and a case
first_there : (m : ℕ) (begun declined : Form) (v : Value) (s : List ℕ) → Spells m (first_form begun declined) v s
    → (unused : Value) × (place : ℕ) × (vs : List Value) × (v ≡ val.Parts (unused ∷ val.Case place vs ∷ []))
unfolding Spells SpellParts
first_there m begun declined v s (vs, is, (unused, t, u, cut, l, (ws, vs_is, (result, x, y, next, chosen, (rest, ws_is, (none, nil)))))) =
    let (place, c, d, choice, last_cut, (args, result_is, a)) = chosen in
    let last : ws ≡ val.Case place args ∷ [] = ws_is ∙ (ap (λ ys. result ∷ ys) none ∙ ap (λ y. y ∷ []) result_is) in
    (unused, place, args, is ∙ ap val.Parts (vs_is ∙ ap (λ ys. unused ∷ ys) last))

-- and tells no more nodes than it has
abbrev TellsFew : Value → Type 0
TellsFew v = said_nodes (first_told v) ≤ node_count v

first_told_few : (unused : Value) (place : ℕ) (vs : List Value) → TellsFew (val.Parts (unused ∷ val.Case place vs ∷ []))
first_told_few unused place vs =
    let both : List Value = unused ∷ val.Case place vs ∷ [] in
    let told : first_told (val.Parts both) ≡ said_or_none (result_at place vs) =
    ap (λ o. said_or_none (option_and_then result_in (parts_by o))) (out_parts both)
    ∙ ap (λ o. said_or_none (option_and_then (λ c. result_at c.0 c.1) (case_by o))) (out_case place vs) in
    let few : said_nodes (said_or_none (result_at place vs)) ≤ sum_by node_count vs = result_few place vs in
    let args : node_count (val.Case place vs) ≡ suc (sum_by node_count vs) = node_count-case place vs ∙ ap suc (sum-map node_count vs) in
    let all : node_count (val.Parts both) ≡ sum_by node_count both = node_count-parts both ∙ sum-map node_count both in
    rw told (omega (arith, few, args, all))

first_few : (m : ℕ) (begun declined : Form) (body : List ℕ) → IsRead begun → IsRead declined → Each IsByte body
    → said_nodes (first_said m begun declined body) ≤ length body
first_few m begun declined body one other vs = told_few first_told (value_read m (first_form begun declined) body) (length body) each
  where
    each : (v : Value) → value_read m (first_form begun declined) body ≡ Ok v → said_nodes (first_told v) ≤ length body
    each v e =
        let spelled = read_spelled m (first_form begun declined) body v (first_read begun declined one other) vs e in
        let (unused, place, args, is) = first_there m begun declined v body spelled in
        let long : node_count v ≤ length body = nodes_spelled m (first_form begun declined) v body spelled in
        let few : TellsFew v = subst TellsFew (sym is) (first_told_few unused place args) in
        omega (arith, long, few)

-- ---- a later answer

item_few : (m : ℕ) (item : Form) (count : ℕ) (t : List ℕ) → IsRead item → Each IsByte t → said_nodes (text_said m item count t) ≤ length t
item_few m item count t is vs = by (value_read m item t) refl
  where
    by : (r : Result Value MsgFault) → value_read m item t ≡ r → said_nodes (item_said m item (count - length t) r) ≤ length t
    by (Ok v) e = nodes_spelled m item v t (read_spelled m item t v is vs e)
    by (Err why) e = omega arith

part_few : (m : ℕ) (item : Form) (body : List ℕ) → IsRead item → Each IsByte body → said_nodes (part_said m item body) ≤ length body
part_few m item body is vs = told_few (part_told m item (length body)) (value_read m part_form body) (length body) each
  where
    case_is : (count place : ℕ) (ws : List Value)
        → part_told m item count (val.Case place ws) ≡ said_or_none (part_case m item count place ws)
    case_is count place ws = ap (λ o. said_or_none (option_and_then (λ c. part_case m item count c.0 c.1) (case_by o))) (out_case place ws)

    text_is : (count : ℕ) (t : List ℕ) → part_told m item count (item_value t) ≡ text_said m item count t
    text_is count t =
        case_is count 0 (val.Text t ∷ [])
        ∙ ap (λ o. said_or_none (option_map (text_said m item count) (text_by o))) (out_text t)

    each : (v : Value) → value_read m part_form body ≡ Ok v → said_nodes (part_told m item (length body) v) ≤ length body
    each v e = by (item_inside m v body (read_spelled m part_form body v part_read vs e))
      where
        by : ((t : List ℕ) × (v ≡ item_value t) × LiesIn t body) ⊎ ((place : ℕ) × (ws : List Value) × (v ≡ val.Case (suc place) ws))
            → said_nodes (part_told m item (length body) v) ≤ length body
        by (inl (t, same, within)) =
            let few = item_few m item (length body) t is (inside_bytes t body within vs) in
            let long : length t ≤ length body = inside_long t body within in
            rw (same, text_is (length body) t) (omega (arith, few, long))
        by (inr (place, ws, same)) = rw (same, case_is (length body) (suc place) ws) (omega arith)

-- ---- what answers make of a call

abbrev pub fate_nodes : Fate → ℕ
fate_nodes Goes_on = 0
fate_nodes (Ends e) = ending_nodes e
fate_nodes Broken = 0

abbrev pub parts_nodes : CallParts → ℕ
parts_nodes p = sum_by stream_part_nodes p.parts + fate_nodes p.mark

later_few : (says : List Said) → parts_nodes (later_parts says) ≤ sum_by said_nodes says
later_few [] = omega arith
later_few (Failed e ∷ says) = omega (arith, sum_by-cons said_nodes (Failed e) says)
later_few (Item v ∷ says) =
    let rest = later_few says in
    let front = sum_by-cons stream_part_nodes (part.Item v) (later_parts says).parts in
    omega (arith, sum_by-cons said_nodes (Item v) says, rest, front)
later_few (Eof ∷ says) = omega arith
later_few (Reply v ∷ says) = omega arith
later_few (Begun v ∷ says) = omega arith
later_few (Declined v ∷ says) = omega arith
later_few (Unreadable why ∷ says) = omega arith

stream_few : (says : List Said) → parts_nodes (stream_parts says) ≤ sum_by said_nodes says
stream_few [] = omega arith
stream_few (Failed e ∷ says) = omega (arith, sum_by-cons said_nodes (Failed e) says)
stream_few (Begun v ∷ says) =
    let rest = later_few says in
    let front = sum_by-cons stream_part_nodes (part.First v) (later_parts says).parts in
    omega (arith, sum_by-cons said_nodes (Begun v) says, rest, front)
stream_few (Declined v ∷ says) = omega (arith, sum_by-cons said_nodes (Declined v) says)
stream_few (Reply v ∷ says) = omega arith
stream_few (Item v ∷ says) = omega arith
stream_few (Eof ∷ says) = omega arith
stream_few (Unreadable why ∷ says) = omega arith

plain_parts_few : (says : List Said) → parts_nodes (plain_parts says) ≤ sum_by said_nodes says
plain_parts_few [] = omega arith
plain_parts_few (Failed e ∷ says) = omega (arith, sum_by-cons said_nodes (Failed e) says)
plain_parts_few (Reply v ∷ says) = omega (arith, sum_by-cons said_nodes (Reply v) says)
plain_parts_few (Unreadable why ∷ says) = omega arith
plain_parts_few (Begun v ∷ says) = omega arith
plain_parts_few (Declined v ∷ says) = omega arith
plain_parts_few (Item v ∷ says) = omega arith
plain_parts_few (Eof ∷ says) = omega arith

kind_few : (kind : Kind) (says : List Said) → parts_nodes (kind_parts kind says) ≤ sum_by said_nodes says
kind_few Plain says = plain_parts_few says
kind_few OneWay says = omega arith
kind_few Pipe says = stream_few says
kind_few State says = stream_few says

-- ---- all answers, each read so that it says few nodes

abbrev pub HasBytes : Answer → Type 0
HasBytes (answer.Ok body) = Each IsByte body
HasBytes (answer.Error e) = Unit {0}

abbrev pub SaysFew : (List ℕ → Said) → Type 0
SaysFew reads = (body : List ℕ) → Each IsByte body → said_nodes (reads body) ≤ length body

answer_few : (reads : List ℕ → Said) (a : Answer) → SaysFew reads → HasBytes a → said_nodes (answer_said reads a) ≤ answer_size a
answer_few reads (answer.Ok body) few vs = few body vs
answer_few reads (answer.Error e) few vs = omega arith

answers_few : (reads : List ℕ → Said) (answers : List Answer) → SaysFew reads → Each HasBytes answers
    → sum_by said_nodes (map (answer_said reads) answers) ≤ sum_by answer_size answers
answers_few reads [] few vs = omega arith
answers_few reads (a ∷ answers) few (here, there) =
    let one = answer_few reads a few here in
    let rest = answers_few reads answers few there in
    let said = sum_by-cons said_nodes (answer_said reads a) (map (answer_said reads) answers) in
    omega (arith, one, rest, said, sum_by-cons answer_size a answers)

-- ---- the procedure of a call

whole_reads : (m : ℕ) (d : RpcDesc) → IsCallable d → SaysFew (plain_said m (form_of d.first))
whole_reads m d good body vs = plain_few m (form_of d.first) body (good_read (form_of d.first) good.first) vs

begin_reads : (m : ℕ) (d : RpcDesc) → IsCallable d → SaysFew (first_said m (form_of d.first) (form_of d.error))
begin_reads m d good body vs =
    let declines : IsRead (form_of d.error) = good_read (form_of d.error) good.error in
    first_few m (form_of d.first) (form_of d.error) body (good_read (form_of d.first) good.first) declines vs

part_reads : (m : ℕ) (d : RpcDesc) → IsCallable d → SaysFew (part_said m (form_of d.item))
part_reads m d good body vs = part_few m (form_of d.item) body (good_read (form_of d.item) good.item) vs

first_reads : (kind : Kind) (m : ℕ) (d : RpcDesc) → IsCallable d → SaysFew (first_by kind m d)
first_reads Plain m d good = whole_reads m d good
first_reads OneWay m d good = whole_reads m d good
first_reads Pipe m d good = begin_reads m d good
first_reads State m d good = begin_reads m d good

later_reads : (kind : Kind) (m : ℕ) (d : RpcDesc) → IsCallable d → SaysFew (later_by kind m d)
later_reads Plain m d good = whole_reads m d good
later_reads OneWay m d good = whole_reads m d good
later_reads Pipe m d good = part_reads m d good
later_reads State m d good = part_reads m d good

says_few : (m : ℕ) (d : RpcDesc) (answers : List Answer) → IsCallable d → Each HasBytes answers
    → sum_by said_nodes (says_in m d answers) ≤ sum_by answer_size answers
says_few m d [] good vs = omega arith
says_few m d (a ∷ later) good (here, there) =
    let one = answer_few (first_by d.kind m d) a (first_reads d.kind m d good) here in
    let rest = answers_few (later_by d.kind m d) later (later_reads d.kind m d good) there in
    let said = sum_by-cons said_nodes (answer_said (first_by d.kind m d) a) (map (answer_said (later_by d.kind m d)) later) in
    omega (arith, one, rest, said, sum_by-cons answer_size a later)

pub parts_few : (m : ℕ) (d : RpcDesc) (answers : List Answer) → IsCallable d → Each HasBytes answers
    → parts_nodes (parts_of m d answers) ≤ sum_by answer_size answers
parts_few m d answers good vs =
    let made = kind_few d.kind (says_in m d answers) in
    let said = says_few m d answers good vs in
    omega (arith, made, said)
