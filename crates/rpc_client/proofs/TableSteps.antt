-- One more message: what it makes of all calls.
use Rattle.std.proofs.Common.{◌≡◌, ◌≢◌, refl, sym, ap, ◌∙◌, subst, ℕ, ℤ, Bool, true, false, if◌then◌else◌, List, [], ◌∷◌, ◌++◌, append-nil}
use Rattle.std.specs.Prelude.{Option, Some, None, Result, Ok, Err}
use Rattle.std.specs.List.{cons_option, filter_map}
use Rattle.std.specs.Option.{option_map}
use Rattle.std.specs.Ordering.{int_eq}
use Rattle.std.proofs.lemmas.Bool.Decides.{Decides-int_eq}
use Rattle.std.proofs.lemmas.List.Elements.{filter_map-append}
use Rattle.readers.specs.Reader.{Each}
use Rattle.rpc_msg.specs.declared.message.Answer.{Answer}
use Rattle.rpc_msg.specs.declared.message.Message.{Message}
use Rattle.rpc_msg.specs.declared.message.Message.TheVariants as message
use Rattle.rpc_msg.specs.declared.shared.CloseCause.{CloseCause}
use Rattle.rpc_log.specs.Logs.{response_for, responses_of}
use Rattle.rpc_talk.specs.Acts.{response}
use Rattle.rpc_talk.specs.Causes.{answer_cause, response_cause, unwelcome}
use Rattle.rpc_talk.specs.Welcome.{Call, find_call, is_welcome, is_welcome_to}
use Rattle.rpc_client.specs.Kept.{row_call, row_calls, HaveOwnIds, IsKept}
use Rattle.rpc_client.specs.Rows.{Row, row_answered}
use Rattle.rpc_client.specs.Tables.{find_row, has_row_id, rows_with, row_heard, rows_heard, with_row}
use Rattle.rpc_client.proofs.Places.{Stays}
use Rattle.rpc_client.proofs.Welcomes.{row_steps, Steps}

-- ---- each

pub each_map : {X : Type 0} (P Q : X → Type 0) (xs : List X) → ((x : X) → P x → Q x) → Each P xs → Each Q xs
each_map P Q [] f all = tt
each_map P Q (x ∷ xs) f (here, all) = (f x here, each_map P Q xs f all)

each_both : {X : Type 0} (P R Q : X → Type 0) (xs : List X) → ((x : X) → P x → R x → Q x) → Each P xs → Each R xs → Each Q xs
each_both P R Q [] f all also = tt
each_both P R Q (x ∷ xs) f (here, all) (there, also) = (f x here there, each_both P R Q xs f all also)

-- ---- ids

same_id : (i j : ℤ) → i ≡ j → int_eq i j ≡ true
same_id i j is = (Decides-int_eq i j).1 is

other_id : (i j : ℤ) → i ≢ j → int_eq i j ≡ false
other_id i j apart = by (int_eq i j) refl
  where
    by : (b : Bool) → int_eq i j ≡ b → int_eq i j ≡ false
    by true e = absurd (apart ((Decides-int_eq i j).0 e))
    by false e = e

pub found_id : (id : ℤ) (rows : List Row) (row : Row) → find_row id rows ≡ Some row → row.id ≡ id
found_id id [] row found = absurd cc
found_id id (r ∷ rows) row found = by (has_row_id id r) refl found (found_id id rows row)
  where
    by : (b : Bool) → has_row_id id r ≡ b → (if b then Some r else find_row id rows) ≡ Some row → (find_row id rows ≡ Some row → row.id ≡ id) → row.id ≡ id
    by true e is later = let same : r ≡ row = cc in ap (λ x. x.id) (sym same) ∙ (Decides-int_eq r.id id).0 e
    by false e is later = later is

-- a call of these is what its row is
pub found_call : (id : ℤ) (rows : List Row) → find_call id (row_calls rows) ≡ option_map row_call (find_row id rows)
found_call id [] = refl
found_call id (row ∷ rows) = by (has_row_id id row) (found_call id rows)
  where
    by : (b : Bool) → find_call id (row_calls rows) ≡ option_map row_call (find_row id rows)
        → (if b then Some (row_call row) else find_call id (row_calls rows)) ≡ option_map row_call (if b then Some row else find_row id rows)
    by true is = refl
    by false is = is

-- ---- responses

more_responses : (id : ℤ) (log : List Message) (a : Message) (o : Option Answer) → response_for id a ≡ o → responses_of id (log ++ a ∷ []) ≡ responses_of id log ++ cons_option o []
more_responses id log a o is = filter_map-append (response_for id) log (a ∷ []) ∙ ap (λ x. responses_of id log ++ cons_option x []) is

-- a message that is none changes no call
pub no_more : (id : ℤ) (log : List Message) (a : Message) → response_for id a ≡ None → responses_of id (log ++ a ∷ []) ≡ responses_of id log
no_more id log a is = more_responses id log a None is ∙ append-nil (responses_of id log)

one_more : (id : ℤ) (log : List Message) (id0 : ℤ) (a : Answer) → id0 ≡ id → responses_of id (log ++ response id0 a ∷ []) ≡ responses_of id log ++ a ∷ []
one_more id log id0 a is = more_responses id log (response id0 a) (Some a) (ap (λ b. if b then Some a else None) (same_id id0 id is))

other_more : (id : ℤ) (log : List Message) (id0 : ℤ) (a : Answer) → id0 ≢ id → responses_of id (log ++ response id0 a ∷ []) ≡ responses_of id log
other_more id log id0 a apart = no_more id log (response id0 a) (ap (λ b. if b then Some a else None) (other_id id0 id apart))

-- ---- one call hears, and the others stay

pub kept_others : (m : ℕ) (log : List Message) (id : ℤ) (a : Answer) (rows : List Row) → Each (λ row. row.id ≢ id) rows
    → Each (λ row. IsKept m false (responses_of row.id log) row) rows → Each (λ row. IsKept m false (responses_of row.id (log ++ response id a ∷ [])) row) rows
kept_others m log id a rows apart kept =
    each_both (λ row. row.id ≢ id) (λ row. IsKept m false (responses_of row.id log) row) (λ row. IsKept m false (responses_of row.id (log ++ response id a ∷ [])) row) rows
    (λ row differs keeps. subst (λ before. IsKept m false before row) (sym (other_more row.id log id a (λ e. differs (sym e)))) keeps) apart kept

pub kept_heard : (m : ℕ) (log : List Message) (id : ℤ) (a : Answer) (rows : List Row) (row new : Row) → HaveOwnIds rows
    → Each (λ row. IsKept m false (responses_of row.id log) row) rows → find_row id rows ≡ Some row → new.id ≡ id → IsKept m false (responses_of id log ++ a ∷ []) new
    → Each (λ row. IsKept m false (responses_of row.id (log ++ response id a ∷ [])) row) (with_row new rows)
kept_heard m log id a [] row new apart kept found same keeps = absurd cc
kept_heard m log id a (r ∷ rows) row new (differs, apart) (here, kept) found same keeps = by (has_row_id id r) refl found (λ is. kept_heard m log id a rows row new apart kept is same keeps)
  where
    by : (b : Bool) → has_row_id id r ≡ b → (if b then Some r else find_row id rows) ≡ Some row
        → (find_row id rows ≡ Some row → Each (λ row. IsKept m false (responses_of row.id (log ++ response id a ∷ [])) row) (with_row new rows))
        → Each (λ row. IsKept m false (responses_of row.id (log ++ response id a ∷ [])) row) (with_row new (r ∷ rows))
    by true e is later =
        let its : r.id ≡ id = (Decides-int_eq r.id id).0 e in
        subst (λ b. Each (λ row. IsKept m false (responses_of row.id (log ++ response id a ∷ [])) row) (if b then new ∷ rows else r ∷ with_row new rows))
        (sym (same_id r.id new.id (its ∙ sym same))) (
          subst (λ before. IsKept m false before new) (sym (ap (λ i. responses_of i (log ++ response id a ∷ [])) same ∙ one_more id log id a refl)) keeps,
          kept_others m log id a rows (subst (λ i. Each (λ other. other.id ≢ i) rows) its differs) kept,
        )
    by false e is later =
        let apart_here : r.id ≢ id = λ s. (let line : true ≡ false = sym (same_id r.id id s) ∙ e in cc) in
        subst (λ b. Each (λ row. IsKept m false (responses_of row.id (log ++ response id a ∷ [])) row) (if b then new ∷ rows else r ∷ with_row new rows))
        (sym (ap (λ i. int_eq r.id i) same ∙ e)) (
          subst (λ before. IsKept m false before r) (sym (other_more r.id log id a (λ s. apart_here (sym s)))) here,
          later is,
        )

-- ---- all calls hear a response

-- the rows of a client that accepted a log hear one more response: it is welcome and they are kept, or it is not and why the client closes
abbrev pub Hears : ℕ → List Row → List Message → ℤ → Answer → Result (List Row) CloseCause → Type 0
Hears m rows log id a (Ok new) =
    (is_welcome m (row_calls rows) log (response id a) ≡ true) × (row_calls new ≡ row_calls rows)
    × Each (λ row. IsKept m false (responses_of row.id (log ++ response id a ∷ [])) row) new
Hears m rows log id a (Err why) =
    (is_welcome m (row_calls rows) log (response id a) ≡ false) × (unwelcome m (row_calls rows) log (response id a) ≡ Some why)

-- a row of the same id and procedure changes no call
pub same_calls : (rows : List Row) (row new : Row) → find_row new.id rows ≡ Some row → Stays row new → row_calls (with_row new rows) ≡ row_calls rows
same_calls [] row new found stays = refl
same_calls (r ∷ rows) row new found stays = by (has_row_id new.id r) refl found (λ is. same_calls rows row new is stays)
  where
    by : (b : Bool) → has_row_id new.id r ≡ b → (if b then Some r else find_row new.id rows) ≡ Some row → (find_row new.id rows ≡ Some row → row_calls (with_row new rows) ≡ row_calls rows)
        → row_calls (if b then new ∷ rows else r ∷ with_row new rows) ≡ row_calls (r ∷ rows)
    by true e is later =
        let same : r ≡ row = cc in
        let call : row_call new ≡ row_call r =
        ap (λ i. record { id = i; desc = new.desc }) (stays.0 ∙ ap (λ x. x.id) (sym same)) ∙ ap (λ d. record { id = r.id; desc = d }) (stays.1 ∙ ap (λ x. x.desc) (sym same)) in
        ap (λ c. c ∷ row_calls rows) call
    by false e is later = ap (λ cs. row_call r ∷ cs) (later is)

found_kept : (m : ℕ) (log : List Message) (id : ℤ) (rows : List Row) (row : Row) → Each (λ row. IsKept m false (responses_of row.id log) row) rows → find_row id rows ≡ Some row
    → IsKept m false (responses_of id log) row
found_kept m log id [] row kept found = absurd cc
found_kept m log id (r ∷ rows) row (here, kept) found = by (has_row_id id r) refl found (found_kept m log id rows row kept)
  where
    by : (b : Bool) → has_row_id id r ≡ b → (if b then Some r else find_row id rows) ≡ Some row → (find_row id rows ≡ Some row → IsKept m false (responses_of id log) row)
        → IsKept m false (responses_of id log) row
    by true e is later =
        let same : r ≡ row = cc in
        subst (IsKept m false (responses_of id log)) same (subst (λ i. IsKept m false (responses_of i log) r) ((Decides-int_eq r.id id).0 e) here)
    by false e is later = later is

pub rows_hear : (m : ℕ) (log : List Message) (rows : List Row) (id : ℤ) (a : Answer) → HaveOwnIds rows → Each (λ row. IsKept m false (responses_of row.id log) row) rows
    → Hears m rows log id a (rows_heard m rows id a)
rows_hear m log rows id a apart kept = by (find_row id rows) refl
  where
    by_row : (row : Row) → find_row id rows ≡ Some row → (r : Result Row CloseCause) → Steps m row (responses_of id log) a r → Hears m rows log id a (rows_with rows r)
    by_row row found (Ok new) (welcome, keeps, same, desc) =
        let its : new.id ≡ id = same ∙ found_id id rows row found in (
          ap (λ o. is_welcome_to m o (responses_of id log) a) (found_call id rows ∙ ap (option_map row_call) found) ∙ welcome,
          same_calls rows row new (ap (λ i. find_row i rows) its ∙ found) (same, desc),
          kept_heard m log id a rows row new apart kept found its keeps,
        )
    by_row row found (Err why) (not_welcome, is) =
        let call = found_call id rows ∙ ap (option_map row_call) found in (
          ap (λ o. is_welcome_to m o (responses_of id log) a) call ∙ not_welcome,
          ap (λ o. Some (response_cause m id o (responses_of id log) a)) call
              ∙ ap (λ w. Some w) (ap (λ i. answer_cause m i row.desc (responses_of id log) a) (sym (found_id id rows row found)) ∙ sym is),
        )

    by : (o : Option Row) → find_row id rows ≡ o → Hears m rows log id a (row_heard m rows id a o)
    by None none =
        let call = found_call id rows ∙ ap (option_map row_call) none in
        (ap (λ o. is_welcome_to m o (responses_of id log) a) call, ap (λ o. Some (response_cause m id o (responses_of id log) a)) call)
    by (Some row) found = by_row row found (row_answered m row a) (row_steps m row (responses_of id log) a (found_kept m log id rows row kept found))
