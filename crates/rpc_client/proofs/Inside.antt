-- The text in a message or in the data of a stream stands in its spelling, and so does the answer in a response.
use Rattle.std.proofs.Common.{◌≡◌, refl, sym, ap, ◌∙◌, subst, ◌⊎◌, inl, inr, ℕ, zero, suc, ◌≤◌, List, [], ◌∷◌, ◌++◌, length, append-nil, append_assoc, arith}
use Rattle.std.specs.Prelude.{codes}
use Rattle.std.proofs.lemmas.List.{length-append}
use Rattle.readers.specs.Reader.{Each, IsByte}
use Rattle.readers.proofs.Readers.{each-front, each-rest}
use Rattle.bp_value.specs.declared.value.Value.{Value}
use Rattle.bp_value.specs.declared.value.Value.TheVariants as val
use Rattle.bp_value.specs.Form.{Form, Parts, Cases, text, int, fields, sum, part, case, end, end_cases}
use Rattle.bp_value.proofs.Layers.{text_is, parts_is, case_place, case_is}
use Rattle.bp_grammar.specs.Spells.{Spells, SpellParts, SpellCase}
use Rattle.rpc_msg.specs.declared.message.Answer.TheVariants as answer
use Rattle.rpc_msg.specs.declared.message.Response.{Response}
use Rattle.rpc_msg.specs.declared.message.Message.TheVariants as message
use Rattle.rpc_msg.specs.Forms.{only, part_form, query_form, error_form, answer_form, response_form, message_form}
use Rattle.rpc_msg.specs.Values.{answer_value, response_value, message_value, item_value}

-- some bytes stand somewhere in others
abbrev pub LiesIn : List ℕ → List ℕ → Type 0
LiesIn t s = (a : List ℕ) × (b : List ℕ) × (s ≡ a ++ (t ++ b))

pub inside_bytes : (t s : List ℕ) → LiesIn t s → Each IsByte s → Each IsByte t
inside_bytes t s (a, b, is) vs = each-front IsByte t b (each-rest IsByte a (t ++ b) (subst (Each IsByte) is vs))

pub inside_long : (t s : List ℕ) → LiesIn t s → length t ≤ length s
inside_long t s (a, b, is) = rw (is, length-append a (t ++ b), length-append t b) (omega arith)

in_front : (t u x s : List ℕ) → s ≡ u ++ x → LiesIn t u → LiesIn t s
in_front t u x s cut (a, b, is) =
    (a, b ++ x, cut ∙ (ap (λ l. l ++ x) is ∙ (append_assoc a (t ++ b) x ∙ ap (λ l. a ++ l) (append_assoc t b x))))

in_rest : (t u x s : List ℕ) → s ≡ x ++ u → LiesIn t u → LiesIn t s
in_rest t u x s cut (a, b, is) = (x ++ a, b, cut ∙ (ap (λ l. x ++ l) is ∙ sym (append_assoc x a (t ++ b))))

-- ---- one layer of a spelling

text_inside : (m : ℕ) (v : Value) (s : List ℕ) → Spells m text v s → (t : List ℕ) × (v ≡ val.Text t) × LiesIn t s
unfolding Spells
text_inside m v s (t, is, (n, x, u, cut, nat, (same, len, each))) = (t, is, (x, [], cut ∙ ap (λ l. x ++ l) (sym same ∙ sym (append-nil t))))

fields_spelled : (m : ℕ) (fs : Parts) (vs : List Value) (s : List ℕ) → Spells m (fields fs) (val.Parts vs) s → SpellParts m fs vs s
unfolding Spells
fields_spelled m fs vs s (ws, is, l) = subst (λ ys. SpellParts m fs ys s) (sym (parts_is vs ws is)) l

sum_spelled : (m : ℕ) (cs : Cases) (place : ℕ) (vs : List Value) (s : List ℕ) → Spells m (sum cs) (val.Case place vs) s
    → (x : List ℕ) × (u : List ℕ) × (s ≡ x ++ u) × SpellCase m cs place vs u
unfolding Spells
sum_spelled m cs place vs s (p, x, u, cut, choice, (ws, is, l)) =
    let there : SpellCase m cs p vs u = subst (λ ys. SpellCase m cs p ys u) (sym (case_is place p vs ws is)) l in
    (x, u, cut, subst (λ k. SpellCase m cs k vs u) (sym (case_place place p vs ws is)) there)

part_spelled : (m : ℕ) (name : List ℕ) (f : Form) (fs : Parts) (v : Value) (vs : List Value) (s : List ℕ)
    → SpellParts m (part name f fs) (v ∷ vs) s
    → (t : List ℕ) × (u : List ℕ) × (s ≡ t ++ u) × Spells m f v t × SpellParts m fs vs u
unfolding SpellParts
part_spelled m name f fs v vs s (w, t, u, cut, l, (ws, is, rest)) =
    let first : v ≡ w = cc in
    let others : vs ≡ ws = cc in
    (t, u, cut, subst (λ y. Spells m f y t) (sym first) l, subst (λ ys. SpellParts m fs ys u) (sym others) rest)

only_spelled : (m : ℕ) (f : Form) (vs : List Value) (s : List ℕ) → SpellParts m (only f) vs s
    → (v : Value) × (t : List ℕ) × (vs ≡ v ∷ []) × LiesIn t s × Spells m f v t
unfolding SpellParts
only_spelled m f vs s (v, t, u, cut, l, (ws, is, (none, nil))) = (v, t, is ∙ ap (λ ys. v ∷ ys) none, ([], u, cut), l)

only_text : (m : ℕ) (vs : List Value) (s : List ℕ) → SpellParts m (only text) vs s → (t : List ℕ) × (vs ≡ val.Text t ∷ []) × LiesIn t s
only_text m vs s l =
    let (v, x, is, (a, b, at), inner) = only_spelled m text vs s l in
    let (t, same, within) = text_inside m v x inner in
    (t, is ∙ ap (λ y. y ∷ []) same, in_rest t (x ++ b) a s at (in_front t x b (x ++ b) refl within))

-- ---- the data of a stream's later answer

pub item_inside : (m : ℕ) (v : Value) (s : List ℕ) → Spells m part_form v s
    → ((t : List ℕ) × (v ≡ item_value t) × LiesIn t s) ⊎ ((place : ℕ) × (vs : List Value) × (v ≡ val.Case (suc place) vs))
unfolding Spells SpellCase
item_inside m v s (zero, x, u, cut, choice, (ws, is, l)) =
    let (t, same, within) = only_text m ws u l in
    inl (t, is ∙ ap (val.Case 0) same, in_rest t u x s cut within)
item_inside m v s (suc place, x, u, cut, choice, (ws, is, l)) = inr (place, ws, is)

-- ---- the answer in a response

abbrev result_parts : Parts
result_parts = part (codes "result") answer_form end

abbrev response_parts : Parts
response_parts = part (codes "id") int result_parts

abbrev message_cases : Cases
message_cases =
    case (codes "Heartbeat") end (case (codes "Query") (only query_form) (case (codes "Response") (only response_form) end_cases))

abbrev answer_cases : Cases
answer_cases = case (codes "Ok") (only text) (case (codes "Error") (only error_form) end_cases)

-- the spelling of an answer stands in that of its response
pub answer_inside : (m : ℕ) (r : Response) (s : List ℕ) → Spells m message_form (message_value (message.Response r)) s
    → (x : List ℕ) × LiesIn x s × Spells m answer_form (answer_value r.result) x
unfolding SpellCase
answer_inside m r s spelled =
    let (x, u, cut, l) = sum_spelled m message_cases 2 (response_value r ∷ []) s spelled in
    let (a, b, first, inner, none) = part_spelled m [] response_form end (response_value r) [] u l in
    let behind : List Value = answer_value r.result ∷ [] in
    let parts = fields_spelled m response_parts (val.Num r.id ∷ behind) a inner in
    let (c, d, second, id, rest) = part_spelled m (codes "id") int result_parts (val.Num r.id) behind a parts in
    let (y, z, third, its, over) = part_spelled m (codes "result") answer_form end (answer_value r.result) [] d rest in
    (y, in_rest y u x s cut (in_front y a b u first (in_rest y d c a second ([], z, third))), its)

-- and so do its data
pub data_inside : (m : ℕ) (body : List ℕ) (s : List ℕ) → Spells m answer_form (answer_value (answer.Ok body)) s → LiesIn body s
unfolding SpellCase
data_inside m body s spelled =
    let (x, u, cut, l) = sum_spelled m answer_cases 0 (val.Text body ∷ []) s spelled in
    let (t, is, within) = only_text m (val.Text body ∷ []) u l in
    let one : val.Text body ≡ val.Text t = cc in
    in_rest body u x s cut (subst (λ y. LiesIn y u) (sym (text_is body t one)) within)
