-- The messages that come down are welcome to the client, whatever has come before of what was sent.
use Rattle.std.proofs.Common.{◌≡◌, refl, sym, ap, ◌∙◌, subst, ℤ, Bool, true, false, if◌then◌else◌, List, [], ◌∷◌, ◌++◌, append_assoc}
use Rattle.std.specs.Prelude.{Option, Some, None}
use Rattle.std.specs.Option.{option_map}
use Rattle.std.specs.Ordering.{int_eq}
use Rattle.rpc_msg.specs.declared.message.Answer.{Answer}
use Rattle.rpc_msg.specs.declared.message.Response.{Response}
use Rattle.rpc_msg.specs.declared.message.Message.{Message}
use Rattle.rpc_msg.specs.declared.message.Message.TheVariants as message
use Rattle.rpc_log.specs.Logs.{responses_of}
use Rattle.rpc_talk.specs.Welcome.{accepted, accepted_after, find_call, is_welcome, is_welcome_to}
use Rattle.rpc_meeting.specs.Talks.{Common, Dispatch, Talk, called_by, all_called, find_made, find_query}
use Rattle.rpc_meeting.proofs.Calls.{AreWelcome, IsLine, asks_of}
use Rattle.rpc_meeting.proofs.Filters.{answers_join, answers_same}
use Rattle.rpc_meeting.proofs.Lines.{most}
use Rattle.rpc_meeting.proofs.Sound.{IsSound}
use Rattle.rpc_meeting.proofs.Welcomed.{welcome_at}

-- the calls of dispatches are found where they are
pub find_called : (id : ℤ) (made : List Dispatch) → find_call id (all_called made) ≡ option_map called_by (find_made id made)
find_called id [] = refl
find_called id (d ∷ made) = by (int_eq d.id id) (find_called id made)
  where
    by : (b : Bool) → find_call id (all_called made) ≡ option_map called_by (find_made id made)
        → (if b then Some (called_by d) else find_call id (all_called made)) ≡ option_map called_by (if b then Some d else find_made id made)
    by true later = refl
    by false later = later

module _ (r : Common) (t : Talk) (came : List Message) (s : IsSound r t came) where
  -- what came down of it, this answer, and the rest
  answers_at : (come rest : List Message) (a : Response) → come ++ message.Response a ∷ rest ≡ t.downs
      → responses_of a.id t.downs ≡ responses_of a.id come ++ a.result ∷ responses_of a.id rest
  answers_at come rest a cut =
      ap (responses_of a.id) (sym cut ∙ sym (append_assoc come (message.Response a ∷ []) rest))
      ∙ (answers_join a.id (come ++ message.Response a ∷ []) rest
      ∙ (ap (λ xs. xs ++ responses_of a.id rest) (answers_same a.id come a.result)
      ∙ append_assoc (responses_of a.id come) (a.result ∷ []) (responses_of a.id rest)))

  some_answer : (xs ys : List Answer) (a : Answer) → xs ++ a ∷ ys ≡ [] → ⊥
  some_answer [] ys a e = cc
  some_answer (x ∷ xs) ys a e = cc

  -- its dispatch was made, and it is welcome to it
  line_welcome : (o : Option Dispatch) (come rest : List Message) (a : Response) → come ++ message.Response a ∷ rest ≡ t.downs
      → IsLine r o (asks_of r.entries a.id t.ups) (asks_of r.entries a.id came) (find_query a.id t.queries) (responses_of a.id t.downs)
      → is_welcome_to (most r) (option_map called_by o) (responses_of a.id come) a.result ≡ true
  line_welcome None come rest a cut (no_asks, no_query, no_answers) =
      absurd (some_answer (responses_of a.id come) (responses_of a.id rest) a.result (sym (answers_at come rest a cut) ∙ no_answers))
  line_welcome (Some d) come rest a cut call =
      welcome_at (most r) d.desc [] (responses_of a.id come) (responses_of a.id rest) a.result
      (subst (λ xs. AreWelcome (most r) d.desc [] xs) (answers_at come rest a cut) call.welcome)

  pub next_welcome : (come rest : List Message) (a : Message) → come ++ a ∷ rest ≡ t.downs → is_welcome (most r) (all_called t.made) come a ≡ true
  next_welcome come rest message.Heartbeat cut = refl
  next_welcome come rest (message.Query q) cut = refl
  next_welcome come rest (message.Response a) cut =
      ap (λ o. is_welcome_to (most r) o (responses_of a.id come) a.result) (find_called a.id t.made)
      ∙ line_welcome (find_made a.id t.made) come rest a cut (s.lines a.id)

  -- all that came is accepted
  all_after : (before log rest : List Message) → before ++ (log ++ rest) ≡ t.downs → accepted_after (most r) (all_called t.made) before log ≡ log
  all_after before [] rest cut = refl
  all_after before (a ∷ log) rest cut =
      ap (λ b. if b then a ∷ accepted_after (most r) (all_called t.made) (before ++ a ∷ []) log else []) (next_welcome before (log ++ rest) a cut)
      ∙ ap (λ xs. a ∷ xs) (all_after (before ++ a ∷ []) log rest (append_assoc before (a ∷ []) (log ++ rest) ∙ cut))

  pub all_welcome : (come rest : List Message) → come ++ rest ≡ t.downs → accepted (most r) (all_called t.made) come ≡ come
  all_welcome come rest cut = all_after [] come rest cut
