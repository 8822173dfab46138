-- A new call: its id is that of no other, and the bytes that came answer it nothing.
use Rattle.std.proofs.Common.{◌≡◌, ◌≢◌, refl, sym, ap, ◌∙◌, subst, ℕ, ◌+◌, ◌*◌, ◌<◌, ◌≤◌, ◌^◌, ℤ, pos, Bool, true, false, not, if◌then◌else◌, List, [], ◌∷◌, ◌++◌, map, arith}
use Rattle.std.specs.Prelude.{Option, Some, None}
use Rattle.std.specs.List.{count_by, find}
use Rattle.std.specs.Option.{is_some, option_map}
use Rattle.std.specs.Ordering.{int_eq}
use Rattle.std.proofs.lemmas.Bool.Decides.{Decides-int_eq}
use Rattle.std.proofs.lemmas.List.{map-append}
use Rattle.readers.specs.Reader.{Each, IsByte}
use Rattle.rpc_frame.specs.Streams.{bodies}
use Rattle.rpc_msg.specs.declared.message.Message.{Message}
use Rattle.rpc_log.specs.Logs.{log_in, log_of, responses_of}
use Rattle.rpc_schema.specs.declared.desc.RpcDesc.{RpcDesc}
use Rattle.rpc_talk.specs.Parts.{is_tracked}
use Rattle.rpc_talk.specs.Welcome.{Call, accepted, find_call}
use Rattle.rpc_talk.proofs.Accepting.{accepted_calls, no_responses, IsTaken}
use Rattle.rpc_talk.proofs.Opening.{opened_log}
use Rattle.rpc_talk.proofs.StreamCauses.{no_frame_cause}
use Rattle.rpc_end.specs.Ends.{EndState, is_closed, said}
use Rattle.rpc_end.specs.Taken.{HasTaken}
use Rattle.rpc_end.proofs.Taken.{limit_few}
use Rattle.rpc_client.specs.Clients.{ClientState}
use Rattle.rpc_client.specs.Kept.{accepted_of, row_call, row_calls, HaveOwnIds, AreCalls, HasGot, IsGoing, IsKept, IsNumberedBy}
use Rattle.rpc_client.specs.Rows.{Row, new_row, IsCallable}
use Rattle.rpc_client.specs.Tables.{find_row, has_row_id, is_answered, is_unanswered, next_call_id, call_number}
use Rattle.rpc_client.proofs.GotSteps.{new_kept}
use Rattle.rpc_client.proofs.Places.{count_push}
use Rattle.rpc_client.proofs.TableSteps.{each_map, found_call}

-- ---- lists

pub each_push : {X : Type 0} (P : X → Type 0) (xs : List X) (x : X) → Each P xs → P x → Each P (xs ++ x ∷ [])
each_push P [] x all here = (here, tt)
each_push P (y ∷ xs) x (first, all) here = (first, each_push P xs x all here)

apart_push : (rows : List Row) (new : Row) → HaveOwnIds rows → Each (λ row. row.id ≢ new.id) rows → HaveOwnIds (rows ++ new ∷ [])
apart_push [] new apart differ = (tt, tt)
apart_push (row ∷ rows) new (here, apart) (differs, differ) =
    (each_push (λ other. other.id ≢ row.id) rows new here (λ e. differs (sym e)), apart_push rows new apart differ)

-- ---- ids

pos_is : (a b : ℕ) → pos a ≡ pos b → a ≡ b
pos_is a b e = cc

more_numbers : (b : Bool) (t o t2 o2 : ℕ) (id : ℤ) → t ≤ t2 → o ≤ o2 → IsNumberedBy b t o id → IsNumberedBy b t2 o2 id
more_numbers true t o t2 o2 id le le2 (k, lt, is) = (k, omega (arith, le, lt), is)
more_numbers false t o t2 o2 id le le2 (k, lt, is) = (k, omega (arith, le2, lt), is)

-- an id that was given is not the next
differs_by : (b c : Bool) (rows : List Row) (id : ℤ) → IsNumberedBy b (count_by is_answered rows) (count_by is_unanswered rows) id → id ≢ pos (call_number c rows)
differs_by true true rows id (k, lt, is) e = let same = pos_is (2 * k) (2 * count_by is_answered rows) (sym is ∙ e) in omega (arith, lt, same)
differs_by true false rows id (k, lt, is) e = let same = pos_is (2 * k) (2 * count_by is_unanswered rows + 1) (sym is ∙ e) in omega (arith, same)
differs_by false true rows id (k, lt, is) e = let same = pos_is (2 * k + 1) (2 * count_by is_answered rows) (sym is ∙ e) in omega (arith, same)
differs_by false false rows id (k, lt, is) e = let same = pos_is (2 * k + 1) (2 * count_by is_unanswered rows + 1) (sym is ∙ e) in omega (arith, lt, same)

pub fresh : (rows : List Row) (c : Bool) → AreCalls rows → Each (λ row. row.id ≢ pos (call_number c rows)) rows
fresh rows c calls =
    each_map (λ row. IsNumberedBy (is_tracked row.desc.kind) (count_by is_answered rows) (count_by is_unanswered rows) row.id) (λ row. row.id ≢ pos (call_number c rows)) rows
    (λ row by. differs_by (is_tracked row.desc.kind) c rows row.id by) calls.each

new_number : (rows : List Row) (d : RpcDesc) (b : Bool) → is_tracked d.kind ≡ b
    → IsNumberedBy b (count_by is_answered (rows ++ new_row (pos (call_number b rows)) d ∷ [])) (count_by is_unanswered (rows ++ new_row (pos (call_number b rows)) d ∷ [])) (pos (call_number b rows))
new_number rows d true is = (
  count_by is_answered rows,
  (let more = count_push is_answered rows (new_row (pos (2 * count_by is_answered rows)) d) in
      let one : ◌≡◌ {A = ℕ} (if is_tracked d.kind then 1 else 0) 1 = ap (λ b. if b then 1 else 0) is in omega (arith, more, one)),
  refl,
)
new_number rows d false is = (
  count_by is_unanswered rows,
  (let more = count_push is_unanswered rows (new_row (pos (2 * count_by is_unanswered rows + 1)) d) in
      let one : ◌≡◌ {A = ℕ} (if not (is_tracked d.kind) then 1 else 0) 1 = ap (λ b. if not b then 1 else 0) is in omega (arith, more, one)),
  refl,
)

pub dispatch_calls : (rows : List Row) (d : RpcDesc) → IsCallable d → AreCalls rows → AreCalls (rows ++ new_row (next_call_id d.kind rows) d ∷ [])
dispatch_calls rows d callable calls =
    let new = new_row (next_call_id d.kind rows) d in
    let few : count_by is_answered rows ≤ count_by is_answered (rows ++ new ∷ []) = let more = count_push is_answered rows new in omega (arith, more) in
    let few_one_way : count_by is_unanswered rows ≤ count_by is_unanswered (rows ++ new ∷ []) = let more = count_push is_unanswered rows new in omega (arith, more) in
    record {
      callable = each_push (λ row. IsCallable row.desc) rows new calls.callable callable;
      each = each_push (λ row. IsNumberedBy (is_tracked row.desc.kind) (count_by is_answered (rows ++ new ∷ [])) (count_by is_unanswered (rows ++ new ∷ [])) row.id) rows new
          (each_map (λ row. IsNumberedBy (is_tracked row.desc.kind) (count_by is_answered rows) (count_by is_unanswered rows) row.id)
          (λ row. IsNumberedBy (is_tracked row.desc.kind) (count_by is_answered (rows ++ new ∷ [])) (count_by is_unanswered (rows ++ new ∷ [])) row.id) rows
          (λ row by. more_numbers (is_tracked row.desc.kind) _ _ _ _ row.id few few_one_way by) calls.each)
          (new_number rows d (is_tracked d.kind) refl);
      apart = apart_push rows new calls.apart (fresh rows (is_tracked d.kind) calls);
    }

-- ---- what was accepted

-- the log of an end that took some bytes
pub taken_log : (e : EndState) (got : List ℕ) (bs : List (List ℕ)) (log : List Message) → e.max ≤ 2 ^ 30 → Each IsByte got → HasTaken e got bs log → log_of e.max got ≡ log
taken_log e got bs log limit bytes took =
    ap (log_in e.max) (no_frame_cause e.max (limit_few e.max limit) got bs e.held bytes took.bodies_are).1 ∙ opened_log e.max bs log took.read

-- a client that is not closed accepted all of it
pub all_accepted : (c : ClientState) (got : List ℕ) → c.link.max ≤ 2 ^ 30 → Each IsByte got → (going : IsGoing c got) → accepted_of c.link.max c.rows got ≡ going.log
all_accepted c got limit bytes going = ap (accepted c.link.max (row_calls c.rows)) (taken_log c.link got going.bodies going.log limit bytes going.took) ∙ going.all

pub no_call : (id : ℤ) (rows : List Row) → Each (λ row. row.id ≢ id) rows → find_row id rows ≡ None
no_call id [] differ = refl
no_call id (row ∷ rows) (differs, differ) = by (int_eq row.id id) refl (no_call id rows differ)
  where
    by : (b : Bool) → int_eq row.id id ≡ b → find_row id rows ≡ None → (if b then Some row else find_row id rows) ≡ None
    by true e none = absurd (differs ((Decides-int_eq row.id id).0 e))
    by false e none = none

more_calls : (rows : List Row) (new : Row) → row_calls (rows ++ new ∷ []) ≡ row_calls rows ++ row_call new ∷ []
more_calls rows new = map-append row_call rows (new ∷ [])

-- what goes out changes nothing that was taken
pub said_taken : (e : EndState) (a : Message) (got : List ℕ) (bs : List (List ℕ)) (log : List Message) → HasTaken e got bs log → HasTaken (said e a) got bs log
said_taken e a got bs log took = record {
  bodies_are = took.bodies_are;
  place = took.place;
  start = took.start;
  greeted = took.greeted;
  read = took.read;
}

pub dispatch_got : (c : ClientState) (d : RpcDesc) (query : Message) (got : List ℕ) → IsCallable d → c.link.cause ≡ None → HasGot c got
    → HasGot (record c { rows = c.rows ++ new_row (next_call_id d.kind c.rows) d ∷ []; link = said c.link query }) got
dispatch_got c d query got callable open_ has =
    let going = has.going open_ in
    let new = new_row (next_call_id d.kind c.rows) d in
    let m = c.link.max in
    let differ = fresh c.rows (is_tracked d.kind) has.calls in
    let none : find_call new.id (row_calls c.rows) ≡ None = found_call new.id c.rows ∙ ap (option_map row_call) (no_call new.id c.rows differ) in
    let all : accepted m (row_calls (c.rows ++ new ∷ [])) going.log ≡ going.log =
    ap (λ calls. accepted m calls going.log) (more_calls c.rows new) ∙ accepted_calls m (row_calls c.rows) (row_call new ∷ []) [] going.log going.all in
    let log_is = taken_log c.link got going.bodies going.log has.limit has.bytes going.took in
    let now : accepted_of m (c.rows ++ new ∷ []) got ≡ going.log = ap (accepted m (row_calls (c.rows ++ new ∷ []))) log_is ∙ all in
    let before : accepted_of m c.rows got ≡ going.log = all_accepted c got has.limit has.bytes going in
    let same : accepted_of m c.rows got ≡ accepted_of m (c.rows ++ new ∷ []) got = before ∙ sym now in
    let closed : is_closed c.link ≡ false = ap (λ o. is_some o) open_ in
    record {
      max = has.max;
      limit = has.limit;
      bytes = has.bytes;
      kept = each_push (λ row. IsKept m (is_closed c.link) (responses_of row.id (accepted_of m (c.rows ++ new ∷ []) got)) row) c.rows new
          (subst (λ acc. Each (λ row. IsKept m (is_closed c.link) (responses_of row.id acc) row) c.rows) same has.kept)
          (subst (λ b. IsKept m b (responses_of new.id (accepted_of m (c.rows ++ new ∷ []) got)) new) (sym closed)
          (subst (λ acc. IsKept m false (responses_of new.id acc) new) (sym now)
          (subst (λ answers. IsKept m false answers new) (sym (no_responses m new.id (row_calls c.rows) [] going.log none going.all)) (new_kept m new.id d))));
      calls = dispatch_calls c.rows d callable has.calls;
      going = λ e. record { bodies = going.bodies; log = going.log; took = said_taken c.link query got going.bodies going.log going.took; all = all };
    }
