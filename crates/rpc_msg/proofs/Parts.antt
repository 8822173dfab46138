-- The parts of streams: the variant around an item, and the item that its text spells.
use Rattle.std.proofs.Common.{◌≡◌, refl, sym, ap, ◌∙◌, subst, ℕ, zero, suc, ◌+◌, ◌-◌, ◌≤◌, Option, Some, None, inl, List, [], ◌∷◌, ◌++◌, length, take, drop, append_assoc, append-nil, length-append, arith}
use Rattle.std.proofs.Math.Seq.{drop-append_seam}
use Rattle.std.proofs.lemmas.List.{take_all}
use Rattle.std.specs.Prelude.{Result, Ok, Err}
use Rattle.std.specs.Result.{IsErrAnd}
use Rattle.readers.specs.Reader.{Outcome, whole, more, bad, after, mapped, symbols, Each, IsByte}
use Rattle.bp_num.specs.NumberAt.{nat_at}
use Rattle.bp_num.specs.declared.number.Why.{Why}
use Rattle.bp_value.specs.declared.value.Value.{Value}
use Rattle.bp_value.specs.declared.value.Value.TheVariants as val
use Rattle.bp_value.specs.Form.{Form}
use Rattle.bp_value.proofs.Layers.{case_is, case_place, text_is}
use Rattle.bp_grammar.specs.Reading.{sized_at, read}
use Rattle.bp_grammar.specs.Spells.{Spells, SpellParts, SpellCase}
use Rattle.bp_codec.specs.declared.stop.Stop.{Stop}
use Rattle.bp_codec.specs.declared.stop.Stop.TheVariants as stop
use Rattle.rpc_msg.specs.declared.fault.MsgError.{MsgError}
use Rattle.rpc_msg.specs.declared.fault.MsgError.TheVariants as error
use Rattle.rpc_msg.specs.declared.fault.MsgFault.TheVariants as fault
use Rattle.rpc_msg.specs.Bodies.{IsMsgFault, IsBody, IsPartFault}
use Rattle.rpc_msg.specs.Forms.{part_form}
use Rattle.rpc_msg.specs.Taken.{Halts, TakesPart, ended_at}
use Rattle.rpc_msg.specs.Values.{item_value, eof_value}
use Rattle.rpc_msg.proofs.Bodies.{body_told}
use Rattle.rpc_msg.proofs.Readable.{part_read}

Out : Type 0
Out = Outcome ℕ Why Value

-- ---- the variant

pub part_err : (r : List ℕ → Outcome ℕ Why Value) (old new : List ℕ) (result : Result (Option ℕ) Stop) (e : Stop)
    → IsErrAnd result (λ x. x ≡ e) → Halts e (r old) new → TakesPart r old new result
part_err r old new (Ok a) e is h = absurd is
part_err r old new (Err x) e is h = subst (λ y. Halts y (r old) new) (sym is) h

-- a length was read, and its bytes follow
pub sized_after : {A : Type 0} (m : ℕ) (h : List ℕ → A) (s : List ℕ) → mapped h (sized_at m s) ≡ after (nat_at m s) (λ n t. mapped h (symbols n t))
sized_after m h s = by (nat_at m s)
  where
    by : (o : Outcome ℕ Why ℕ) → mapped h (after o symbols) ≡ after o (λ n t. mapped h (symbols n t))
    by (whole n t) = refl
    by more = refl
    by (bad n w) = refl

-- what is read of a body that is a part
abbrev pub IsVariant : ℕ → Option ℕ → List ℕ → Type 0
IsVariant m None body = Spells m part_form eof_value body
IsVariant m (Some size) body = (text : List ℕ) × (size ≡ length text) × Spells m part_form (item_value text) body

pub variant_told : (m : ℕ) (body rest : List ℕ) (r : Result (Option ℕ) Stop) → Each IsByte body → TakesPart (read m part_form) body rest r
    → IsBody (IsVariant m) (IsMsgFault m part_form) body (ended_at (length body) (length rest) r)
variant_told m body [] (Ok None) vs reads = body_told {A = Unit {0}} (λ u. eof_value) m part_form body [] (Ok tt) part_read vs reads
variant_told m body (b ∷ rest) (Ok None) vs reads = body_told {A = Unit {0}} (λ u. eof_value) m part_form body (b ∷ rest) (Ok tt) part_read vs reads
variant_told m body [] (Ok (Some size)) vs (text, is, reads) = (text, is, body_told {A = List ℕ} item_value m part_form body [] (Ok text) part_read vs reads)
variant_told m body (b ∷ rest) (Ok (Some size)) vs (text, is, reads) = body_told {A = List ℕ} item_value m part_form body (b ∷ rest) (Ok text) part_read vs reads
variant_told m body [] (Err stop.More) vs reads = body_told {A = List ℕ} item_value m part_form body [] (Err stop.More) part_read vs reads
variant_told m body (b ∷ rest) (Err stop.More) vs reads = body_told {A = List ℕ} item_value m part_form body (b ∷ rest) (Err stop.More) part_read vs reads
variant_told m body [] (Err (stop.Bad w)) vs reads = body_told {A = List ℕ} item_value m part_form body [] (Err (stop.Bad w)) part_read vs reads
variant_told m body (b ∷ rest) (Err (stop.Bad w)) vs reads = body_told {A = List ℕ} item_value m part_form body (b ∷ rest) (Err (stop.Bad w)) part_read vs reads
variant_told m body [] (Err stop.OutOfMemory) vs reads = tt
variant_told m body (b ∷ rest) (Err stop.OutOfMemory) vs reads = tt

-- ---- the text

-- the text of an item ends the body
pub item_ends : (m : ℕ) (text body : List ℕ) → Spells m part_form (item_value text) body → (front : List ℕ) × (body ≡ front ++ text)
unfolding Spells SpellCase SpellParts
item_ends m text body (zero, key, u, cut, keyed, (args, same, (v, x, y, parts, (w, is, (n, l, b, halves, number, (bytes, count, any))), (ws, all, (none, over))))) =
    let one : val.Text text ∷ [] ≡ v ∷ ws = case_is 0 0 (val.Text text ∷ []) args same ∙ all in
    let value : val.Text text ≡ v = cc in
    let text_is : text ≡ b = text_is text w (value ∙ is) ∙ bytes in
    (key ++ l, cut ∙ (ap (λ z. key ++ z) (parts ∙ (ap (λ z. x ++ z) over ∙ (append-nil x ∙ (halves ∙ ap (λ z. l ++ z) (sym text_is))))) ∙ sym (append_assoc key l text)))
item_ends m text body (suc place, key, u, cut, keyed, (args, same, spelled)) = absurd (apart same)
  where
    apart : val.Case 0 (val.Text text ∷ []) ≡ val.Case (suc place) args → ⊥
    apart e = let zeros : 0 ≡ suc place = case_place 0 (suc place) (val.Text text ∷ []) args e in omega (arith, zeros)

-- and so it is the last of its bytes
pub item_last : (front text : List ℕ) → drop (length (front ++ text) - length text) (front ++ text) ≡ text
item_last front text =
    let count : length (front ++ text) - length text ≡ length front = let sum = length-append front text in omega (arith, sum) in
    ap (λ n. drop n (front ++ text)) count ∙ drop-append_seam front text

-- ---- errors that are passed on

pub body_err : {A B : Type 0} (L : A → List ℕ → Type 0) (M : B → List ℕ → Type 0) (F : List ℕ → fault.the_data → Type 0) (body : List ℕ) (result : Result B MsgError) (e : MsgError)
    → IsErrAnd result (λ x. x ≡ e) → IsBody L F body (Err e) → IsBody M F body result
body_err L M F body (Ok b) e is h = absurd is
body_err L M F body (Err (error.Fault x)) e is h = subst (λ y. IsBody L F body (Err y)) (sym is) h
body_err L M F body (Err error.OutOfMemory) e is h = tt

-- a fault of the variant
pub variant_fault : {A B : Type 0} (m : ℕ) (item : Form) (L : A → List ℕ → Type 0) (M : B → List ℕ → Type 0) (body : List ℕ) (e : MsgError)
    → IsBody L (IsMsgFault m part_form) body (Err e) → IsBody M (IsPartFault m item) body (Err e)
variant_fault m item L M body (error.Fault x) told = inl told
variant_fault m item L M body error.OutOfMemory told = tt

-- where the text of an item stands
pub text_stands : (m size : ℕ) (body text : List ℕ) → size ≡ length text → Spells m part_form (item_value text) body
    → (front : List ℕ) × (body ≡ front ++ text) × (length front ≡ length body - size) × (take (length body - (length body - size)) (drop (length body - size) body) ≡ text)
text_stands m size body text is spelled =
    let (front, cut) = item_ends m text body spelled in
    let sum : length body ≡ length front + length text = ap length cut ∙ length-append front text in
    let at : length body - size ≡ length front = omega (arith, sum, is) in
    let left : length body - length front ≡ length text = omega (arith, sum) in
    let dropped : drop (length front) body ≡ text = ap (drop (length front)) cut ∙ drop-append_seam front text in
    (front, cut, sym at, ap (λ n. take (length body - n) (drop n body)) at ∙ (ap (λ t. take (length body - length front) t) dropped ∙ take_all (length body - length front) text (omega (arith, left))))

pub text_within : (m size : ℕ) (body text : List ℕ) → size ≡ length text → Spells m part_form (item_value text) body → size ≤ length body
text_within m size body text is spelled =
    let (front, cut) = item_ends m text body spelled in
    let sum : length body ≡ length front + length text = ap length cut ∙ length-append front text in
    omega (arith, sum, is)
