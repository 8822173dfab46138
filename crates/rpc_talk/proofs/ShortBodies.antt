-- The texts of a short message are short, and so is the text in some data.
use Rattle.std.proofs.Common.{◌≡◌, refl, ℕ, ℤ, ◌≤◌, true, List, [], ◌∷◌, length, arith}
use Rattle.std.specs.Prelude.{codes}
use Rattle.bp_value.specs.declared.value.Value.{Value}
use Rattle.bp_value.specs.declared.value.Value.TheVariants as val
use Rattle.bp_value.specs.Form.{Parts, int, text, part, end}
use Rattle.bp_grammar.specs.Written.{written, written_parts}
use Rattle.rpc_msg.specs.declared.data.StreamQuery.TheVariants as stream
use Rattle.rpc_msg.specs.declared.message.Answer.{Answer}
use Rattle.rpc_msg.specs.declared.message.Answer.TheVariants as answer
use Rattle.rpc_msg.specs.declared.message.Query.{Query}
use Rattle.rpc_msg.specs.declared.message.Response.{Response}
use Rattle.rpc_msg.specs.declared.message.Message.{Message}
use Rattle.rpc_msg.specs.declared.message.Message.TheVariants as message
use Rattle.rpc_msg.specs.Forms.{only, query_form, answer_form, response_form, part_form}
use Rattle.rpc_msg.specs.Values.{query_value, answer_value, response_value, message_value, stream_query_value, item_value}
use Rattle.rpc_talk.specs.Acts.{body_of, response, is_short}
use Rattle.rpc_talk.proofs.AskBack.{query_data}
use Rattle.rpc_talk.proofs.Lengths.{text_long, fields_long, part_long, parts_long, zero_long, one_long, two_long, tag_long}

pub short_body : (m : ℕ) (a : Message) → is_short m a ≡ true → length (body_of a) ≤ m
short_body m a short = grind arith

-- the one text of an argument
only_long : (t : List ℕ) → length t ≤ length (written_parts (only text) (val.Text t ∷ []))
only_long t =
    let inner : length t ≤ length (written text (val.Text t)) = text_long (val.Text t) t refl in
    let outer : length (written text (val.Text t)) ≤ length (written_parts (only text) (val.Text t ∷ []))
    = part_long _ text _ (val.Text t) [] in
    omega arith

-- ---- data

pub item_text_long : (t : List ℕ) → length t ≤ length (written part_form (item_value t))
item_text_long t =
    let inner = only_long t in
    let outer : length (written_parts (only text) (val.Text t ∷ [])) ≤ length (written part_form (item_value t))
    = tag_long _ _ _ (item_value t) (val.Text t ∷ []) refl in
    omega (arith, inner, outer)

pub query_text_long : (t : List ℕ) → length t ≤ length (query_data t)
query_text_long t =
    let inner = only_long t in
    let outer : length (written_parts (only text) (val.Text t ∷ [])) ≤ length (query_data t)
    = tag_long _ _ _ (stream_query_value (stream.Query t)) (val.Text t ∷ []) refl in
    omega (arith, inner, outer)

-- ---- responses

abbrev result_parts : Parts
result_parts = part (codes "result") answer_form end

abbrev response_parts : Parts
response_parts = part (codes "id") int result_parts

abbrev body_parts : Parts
body_parts = part (codes "body") text end

abbrev id_parts : Parts
id_parts = part (codes "id") int body_parts

abbrev version_parts : Parts
version_parts = part (codes "version") int id_parts

abbrev query_parts : Parts
query_parts = part (codes "tag") text version_parts

abbrev query_values : Query → List Value
query_values q = val.Text q.tag ∷ val.Num q.version ∷ val.Num q.id ∷ val.Text q.body ∷ []

-- the data of an answer
ok_long : (body : List ℕ) → length body ≤ length (written answer_form (answer_value (answer.Ok body)))
ok_long body =
    let inner = only_long body in
    let outer : length (written_parts (only text) (val.Text body ∷ [])) ≤ length (written answer_form (answer_value (answer.Ok body)))
    = zero_long _ _ _ (answer_value (answer.Ok body)) (val.Text body ∷ []) refl in
    omega (arith, inner, outer)

answer_long : (id : ℤ) (a : Answer) → length (written answer_form (answer_value a)) ≤ length (body_of (response id a))
answer_long id a =
    let r : Response = record { id = id; result = a } in
    let vs : List Value = answer_value a ∷ [] in
    let inner : length (written answer_form (answer_value a)) ≤ length (written_parts result_parts vs)
    = part_long _ answer_form _ (answer_value a) [] in
    let second : length (written_parts result_parts vs) ≤ length (written_parts response_parts (val.Num id ∷ vs))
    = parts_long _ int result_parts (val.Num id) vs in
    let whole : length (written_parts response_parts (val.Num id ∷ vs)) ≤ length (written response_form (response_value r))
    = fields_long response_parts (response_value r) (val.Num id ∷ vs) refl in
    let argument : length (written response_form (response_value r)) ≤ length (written_parts (only response_form) (response_value r ∷ []))
    = part_long _ response_form _ (response_value r) [] in
    let outer : length (written_parts (only response_form) (response_value r ∷ [])) ≤ length (body_of (response id a))
    = two_long _ _ _ _ _ _ _ (message_value (response id a)) (response_value r ∷ []) refl in
    omega (arith, inner, second, whole, argument, outer)

pub ok_body_long : (id : ℤ) (body : List ℕ) → length body ≤ length (body_of (response id (answer.Ok body)))
ok_body_long id body =
    let inner = ok_long body in
    let outer = answer_long id (answer.Ok body) in
    omega (arith, inner, outer)

-- the data of a short answer is short
pub short_answer : (m : ℕ) (id : ℤ) (body : List ℕ) → is_short m (response id (answer.Ok body)) ≡ true → length body ≤ m
short_answer m id body short =
    let inner = ok_body_long id body in
    let outer = short_body m (response id (answer.Ok body)) short in
    omega (arith, inner, outer)

-- ---- queries

query_long : (q : Query) → length (written_parts query_parts (query_values q)) ≤ length (body_of (message.Query q))
query_long q =
    let whole : length (written_parts query_parts (query_values q)) ≤ length (written query_form (query_value q))
    = fields_long query_parts (query_value q) (query_values q) refl in
    let argument : length (written query_form (query_value q)) ≤ length (written_parts (only query_form) (query_value q ∷ []))
    = part_long _ query_form _ (query_value q) [] in
    let outer : length (written_parts (only query_form) (query_value q ∷ [])) ≤ length (body_of (message.Query q))
    = one_long _ _ _ _ _ (message_value (message.Query q)) (query_value q ∷ []) refl in
    omega (arith, whole, argument, outer)

pub query_tag_long : (q : Query) → length q.tag ≤ length (body_of (message.Query q))
query_tag_long q =
    let inner : length q.tag ≤ length (written text (val.Text q.tag)) = text_long (val.Text q.tag) q.tag refl in
    let first : length (written text (val.Text q.tag)) ≤ length (written_parts query_parts (query_values q))
    = part_long _ text _ (val.Text q.tag) _ in
    let outer = query_long q in
    omega (arith, inner, first, outer)

pub query_body_long : (q : Query) → length q.body ≤ length (body_of (message.Query q))
query_body_long q =
    let body : List Value = val.Text q.body ∷ [] in
    let ids : List Value = val.Num q.id ∷ body in
    let versions : List Value = val.Num q.version ∷ ids in
    let inner : length q.body ≤ length (written text (val.Text q.body)) = text_long (val.Text q.body) q.body refl in
    let last : length (written text (val.Text q.body)) ≤ length (written_parts body_parts body) = part_long _ text _ (val.Text q.body) [] in
    let third : length (written_parts body_parts body) ≤ length (written_parts id_parts ids)
    = parts_long _ int body_parts (val.Num q.id) body in
    let second : length (written_parts id_parts ids) ≤ length (written_parts version_parts versions)
    = parts_long _ int id_parts (val.Num q.version) ids in
    let first : length (written_parts version_parts versions) ≤ length (written_parts query_parts (query_values q))
    = parts_long _ text version_parts (val.Text q.tag) versions in
    let outer = query_long q in
    omega (arith, inner, last, third, second, first, outer)

-- the name and the data of a short query are short
pub short_query : (m : ℕ) (q : Query) → is_short m (message.Query q) ≡ true → (length q.tag ≤ m) × (length q.body ≤ m)
short_query m q short =
    let name = query_tag_long q in
    let body = query_body_long q in
    let outer = short_body m (message.Query q) short in
    (omega (arith, name, outer), omega (arith, body, outer))
