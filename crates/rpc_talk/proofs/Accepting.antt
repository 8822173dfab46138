-- A log of welcome messages is accepted whole, and more calls change nothing of it.
use Rattle.std.proofs.Common.{◌≡◌, refl, sym, ap, ◌∙◌, ℕ, ℤ, Bool, true, false, if◌then◌else◌, List, [], ◌∷◌, ◌++◌, append_assoc}
use Rattle.std.specs.Prelude.{Option, Some, None}
use Rattle.std.specs.List.{cons_option}
use Rattle.std.specs.Ordering.{int_eq}
use Rattle.std.proofs.lemmas.Bool.Decides.{Decides-int_eq}
use Rattle.std.proofs.lemmas.List.{append-nil}
use Rattle.rpc_msg.specs.declared.message.Answer.{Answer}
use Rattle.rpc_msg.specs.declared.message.Message.{Message}
use Rattle.rpc_msg.specs.declared.message.Message.TheVariants as message
use Rattle.rpc_log.specs.Logs.{responses_of, response_for}
use Rattle.rpc_talk.specs.Welcome.{Call, has_id, find_call, is_welcome, is_welcome_to, accepted_after}

abbrev pub IsTaken : ℕ → List Call → List Message → List Message → Type 0
IsTaken m calls before log = accepted_after m calls before log ≡ log

-- the first message of a log that is accepted whole is welcome, and those behind it are accepted whole behind it
pub taken_first : (m : ℕ) (calls : List Call) (before : List Message) (a : Message) (log : List Message) → IsTaken m calls before (a ∷ log)
    → (is_welcome m calls before a ≡ true) × IsTaken m calls (before ++ a ∷ []) log
taken_first m calls before a log all = by (is_welcome m calls before a) refl
  where
    by : (b : Bool) → is_welcome m calls before a ≡ b → (is_welcome m calls before a ≡ true) × IsTaken m calls (before ++ a ∷ []) log
    by true e = (
      e,
      let line : a ∷ accepted_after m calls (before ++ a ∷ []) log ≡ a ∷ log
          = ap (λ b. if b then a ∷ accepted_after m calls (before ++ a ∷ []) log else []) (sym e) ∙ all in cc,
    )
    by false e = absurd (let line : [] ≡ a ∷ log = ap (λ b. if b then a ∷ accepted_after m calls (before ++ a ∷ []) log else []) (sym e) ∙ all in cc)

step_true : (m : ℕ) (calls : List Call) (before : List Message) (a : Message) (log : List Message) → is_welcome m calls before a ≡ true
    → accepted_after m calls before (a ∷ log) ≡ a ∷ accepted_after m calls (before ++ a ∷ []) log
step_true m calls before a log e = ap (λ b. if b then a ∷ accepted_after m calls (before ++ a ∷ []) log else []) e

-- what follows a log that is accepted whole is accepted behind it
pub accepted_on : (m : ℕ) (calls : List Call) (before log later : List Message) → IsTaken m calls before log
    → accepted_after m calls before (log ++ later) ≡ log ++ accepted_after m calls (before ++ log) later
accepted_on m calls before [] later all = ap (λ bs. accepted_after m calls bs later) (sym (append-nil before))
accepted_on m calls before (a ∷ log) later all =
    let (welcome, rest) = taken_first m calls before a log all in
    step_true m calls before a (log ++ later) welcome
    ∙ ap (λ xs. a ∷ xs) (accepted_on m calls (before ++ a ∷ []) log later rest ∙ ap (λ bs. log ++ accepted_after m calls bs later) (append_assoc before (a ∷ []) log))

-- one more welcome message
pub accepted_more : (m : ℕ) (calls : List Call) (log : List Message) (a : Message) → IsTaken m calls [] log → is_welcome m calls log a ≡ true
    → IsTaken m calls [] (log ++ a ∷ [])
accepted_more m calls log a all welcome =
    accepted_on m calls [] log (a ∷ []) all ∙ ap (λ xs. log ++ xs) (step_true m calls log a [] welcome)

-- one that is not
pub accepted_not : (m : ℕ) (calls : List Call) (log later : List Message) (a : Message) → IsTaken m calls [] log → is_welcome m calls log a ≡ false
    → accepted_after m calls [] (log ++ a ∷ later) ≡ log
accepted_not m calls log later a all not_welcome =
    accepted_on m calls [] log (a ∷ later) all
    ∙ (ap (λ b. log ++ (if b then a ∷ accepted_after m calls (log ++ a ∷ []) later else [])) not_welcome ∙ append-nil log)

-- ---- more calls

-- a call that is found is found among more
pub find_more : (id : ℤ) (calls more : List Call) (call : Call) → find_call id calls ≡ Some call → find_call id (calls ++ more) ≡ Some call
find_more id [] more call found = absurd cc
find_more id (c ∷ calls) more call found = by (has_id id c) found (find_more id calls more call)
  where
    by : (b : Bool) → (if b then Some c else find_call id calls) ≡ Some call → (find_call id calls ≡ Some call → find_call id (calls ++ more) ≡ Some call)
        → (if b then Some c else find_call id (calls ++ more)) ≡ Some call
    by true here later = here
    by false here later = later here

welcome_found : (m : ℕ) (found : Option Call) (before : List Answer) (a : Answer) → is_welcome_to m found before a ≡ true → (call : Call) × (found ≡ Some call)
welcome_found m None before a welcome = absurd cc
welcome_found m (Some call) before a welcome = (call, refl)

-- what is welcome stays so
pub welcome_more : (m : ℕ) (calls more : List Call) (before : List Message) (a : Message) → is_welcome m calls before a ≡ true → is_welcome m (calls ++ more) before a ≡ true
welcome_more m calls more before message.Heartbeat welcome = refl
welcome_more m calls more before (message.Query q) welcome = refl
welcome_more m calls more before (message.Response r) welcome =
    let (call, found) = welcome_found m (find_call r.id calls) (responses_of r.id before) r.result welcome in
    ap (λ c. is_welcome_to m c (responses_of r.id before) r.result) (find_more r.id calls more call found ∙ sym found) ∙ welcome

pub accepted_calls : (m : ℕ) (calls more : List Call) (before log : List Message) → IsTaken m calls before log → IsTaken m (calls ++ more) before log
accepted_calls m calls more before [] all = refl
accepted_calls m calls more before (a ∷ log) all =
    let (welcome, rest) = taken_first m calls before a log all in
    step_true m (calls ++ more) before a log (welcome_more m calls more before a welcome) ∙ ap (λ xs. a ∷ xs) (accepted_calls m calls more (before ++ a ∷ []) log rest)

-- ---- an id that no call has

no_response : (m : ℕ) (id : ℤ) (calls : List Call) (before : List Message) (a : Message) → find_call id calls ≡ None → is_welcome m calls before a ≡ true → response_for id a ≡ None
no_response m id calls before message.Heartbeat none welcome = refl
no_response m id calls before (message.Query q) none welcome = refl
no_response m id calls before (message.Response r) none welcome = by (int_eq r.id id) refl
  where
    by : (b : Bool) → int_eq r.id id ≡ b → (if b then Some r.result else None) ≡ None
    by true e = absurd (
        let (call, found) = welcome_found m (find_call r.id calls) (responses_of r.id before) r.result welcome in
        let line : find_call id calls ≡ Some call = ap (λ i. find_call i calls) (sym ((Decides-int_eq r.id id).0 e)) ∙ found in cc)
    by false e = refl

-- nothing that was accepted answers it
pub no_responses : (m : ℕ) (id : ℤ) (calls : List Call) (before log : List Message) → find_call id calls ≡ None → IsTaken m calls before log → responses_of id log ≡ []
no_responses m id calls before [] none all = refl
no_responses m id calls before (a ∷ log) none all =
    let (welcome, rest) = taken_first m calls before a log all in
    ap (λ o. cons_option o (responses_of id log)) (no_response m id calls before a none welcome) ∙ no_responses m id calls (before ++ a ∷ []) log none rest
