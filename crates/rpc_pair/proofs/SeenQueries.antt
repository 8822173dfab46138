-- Which queries a server is closed by, and what the others leave of those that are open.
use Rattle.std.proofs.Common.{◌≡◌, refl, sym, ap, ◌∙◌, subst, ℕ, ◌+◌, ◌≤◌, ℤ, Bool, true, false, nat_le, if◌then◌else◌, List, [], ◌∷◌, ◌++◌, arith, inl, inr, ◌⊎◌}
use Rattle.std.specs.Prelude.{Option, Some, None, slice_get}
use Rattle.std.specs.List.{count_by}
use Rattle.std.specs.Ordering.{int_eq}
use Rattle.std.proofs.lemmas.Bool.{leb-true}
use Rattle.std.proofs.lemmas.Bool.Decides.{Decides-int_eq}
use Rattle.std.proofs.lemmas.List.Sums.{sum_by-append, sum_by_push}
use Rattle.bp_value.specs.declared.value.Value.{Value}
use Rattle.rpc_msg.specs.declared.message.Message.{Message}
use Rattle.rpc_msg.specs.declared.message.Message.TheVariants as message
use Rattle.rpc_msg.specs.declared.message.Query.{Query}
use Rattle.rpc_msg.specs.declared.shared.CloseCause.{CloseCause}
use Rattle.rpc_msg.specs.declared.shared.CloseCause.TheVariants as cause
use Rattle.rpc_schema.specs.declared.desc.Entry.{Entry}
use Rattle.rpc_talk.specs.Acts.{Owner, Menu, Nobody, Line, owner}
use Rattle.rpc_talk.specs.Asks.{Asks, Calls, Aborts, Unclear, asks_in, asks_menu}
use Rattle.rpc_talk.specs.Parts.{is_tracked}
use Rattle.rpc_server.specs.Hearing.{aborts_some, heard_asks, heard_by, heard_call, heard_menu, heard_open, heard_query, heard_some}
use Rattle.rpc_server.specs.Rules.{Rules}
use Rattle.rpc_server.specs.Tables.{IsPut, is_to_answer, open_count, standing, unfinished}
use Rattle.rpc_server.specs.declared.hearing.Heard.{Heard}
use Rattle.rpc_server.specs.declared.hearing.Heard.TheVariants as heard
use Rattle.rpc_server.specs.declared.table.Standing.{Standing}
use Rattle.rpc_server.specs.declared.table.Standing.TheVariants.{Nowhere, Open, Stopped}
use Rattle.rpc_server.specs.declared.table.Tracked.{Tracked}
use Rattle.rpc_pair.specs.Seen.{is_asked, is_asked_as}

-- ---- faults

-- its id is open, or as many are open as may
abbrev pub IsQueryFault : Rules → Standing → ℕ → Query → CloseCause → Type 0
IsQueryFault r st count q why =
    ((why ≡ cause.DuplicateQuery q.id) × (is_to_answer st ≡ true)) ⊎ ((why ≡ cause.TooManyOpen r.limits.max_open) × (r.limits.max_open ≤ count))

-- what is heard is a fault only if it is one of these
abbrev FaultsOf : Rules → Standing → ℕ → Query → Heard → Type 0
FaultsOf r st count q (heard.Faulty why) = IsQueryFault r st count q why
FaultsOf r st count q _ = Unit {0}

module _ (r : Rules) (count : ℕ) (q : Query) where
  call_faults : (st : Standing) (place : ℕ) (v : Value) → FaultsOf r st count q (heard_call r count place v)
  call_faults st place v = by (nat_le r.limits.max_open count) refl
    where
      by : (b : Bool) → nat_le r.limits.max_open count ≡ b
          → FaultsOf r st count q (if b then heard.Faulty (cause.TooManyOpen r.limits.max_open) else heard.Asked place v)
      by true is = inr (refl, leb-true r.limits.max_open count is)
      by false is = tt

  asks_faults : (st : Standing) (place : ℕ) (tracked : Bool) (asks : Asks) → FaultsOf r st count q (heard_asks tracked r count q.id place asks)
  asks_faults st place true Aborts = tt
  asks_faults st place false Aborts = tt
  asks_faults st place true (Calls v) = call_faults st place v
  asks_faults st place false (Calls v) = tt
  asks_faults st place true Unclear = tt
  asks_faults st place false Unclear = tt

  some_faults : (st : Standing) (place : ℕ) (o : Option Entry) → FaultsOf r st count q (heard_some r count q place o)
  some_faults st place None = tt
  some_faults st place (Some e) = asks_faults st place (is_tracked e.desc.kind) (asks_in r.limits.max_message e.desc q.body)

  menu_faults : (st : Standing) (asks : Asks) → FaultsOf r st count q (heard_menu r q.id asks)
  menu_faults st (Calls v) = tt
  menu_faults st Aborts = tt
  menu_faults st Unclear = tt

  new_faults : (st : Standing) (o : Owner) → FaultsOf r st count q (heard_by r count q o)
  new_faults st Menu = menu_faults st (asks_menu r.limits.max_message q.body)
  new_faults st Nobody = tt
  new_faults st (Line place) = some_faults st place (slice_get r.entries place)

  open_faults : (place : ℕ) (begun aborts : Bool) → FaultsOf r (Open place begun) count q (heard_open aborts begun q.id)
  open_faults place true true = tt
  open_faults place false true = tt
  open_faults place begun false = inl (refl, refl)

  query_faults : (st : Standing) → FaultsOf r st count q (heard_query r st count q)
  query_faults (Open place begun) = open_faults place begun (aborts_some r.limits.max_message q (slice_get r.entries place))
  query_faults Nowhere = new_faults Nowhere (owner r.entries q.tag q.version)
  query_faults Stopped = new_faults Stopped (owner r.entries q.tag q.version)

  pub query_fault : (st : Standing) (why : CloseCause) → heard_query r st count q ≡ heard.Faulty why → IsQueryFault r st count q why
  query_fault st why is = subst (FaultsOf r st count q) is (query_faults st)

-- ---- how many

pub count_push : (p : Message → Bool) (log : List Message) (a : Message) → count_by p (log ++ a ∷ []) ≡ count_by p log + (if p a then 1 else 0)
count_push p log a = sum_by_push (λ x. if p x then 1 else 0) log a

pub count_more : (p : Message → Bool) (log later : List Message) → count_by p log ≤ count_by p (log ++ later)
count_more p log later = omega (arith, sum_by-append (λ x. if p x then 1 else 0) log later)

pub few_open : (s : Standing) → open_count s ≤ 1
few_open Nowhere = omega arith
few_open (Open place begun) = omega arith
few_open Stopped = omega arith

-- the queries of a table are among those that came: as many are open at most, and each that is open has one
pub record AreAsked (log : List Message) (table : List Tracked) : Type 0 where
  pub few : unfinished table ≤ count_by is_asked log
  pub each : (id : ℤ) → is_to_answer (standing table id) ≡ true → 1 ≤ count_by (is_asked_as id) log

pub none_asked : (table : List Tracked) → table ≡ [] → AreAsked [] table
none_asked table none = subst (AreAsked []) (sym none) (record { few = omega arith; each = λ id open_. absurd cc })

-- a message that is no query changes none
pub asked_still : (log : List Message) (table : List Tracked) (a : Message) → AreAsked log table → AreAsked (log ++ a ∷ []) table
asked_still log table a are = record {
  few = omega (arith, are.few, count_more is_asked log (a ∷ []));
  each = λ id open_. omega (arith, are.each id open_, count_more (is_asked_as id) log (a ∷ []));
}

-- one query's standing is another
module _ (old new : List Tracked) (id : ℤ) (st : Standing) (put : IsPut old id st new) where
  pub put_asked : (log : List Message) (q : Query) → q.id ≡ id → AreAsked log old → AreAsked (log ++ message.Query q ∷ []) new
  put_asked log q its are = record {
    few = omega (arith, put.count, are.few, few_open st, count_push is_asked log (message.Query q));
    each = λ other open_. by other (int_eq other id) refl (ap is_to_answer (sym (put.each other)) ∙ open_);
  }
    where
      by : (other : ℤ) (b : Bool) → int_eq other id ≡ b → is_to_answer (if b then st else standing old other) ≡ true
          → 1 ≤ count_by (is_asked_as other) (log ++ message.Query q ∷ [])
      by other true same open_ =
          let here : int_eq q.id other ≡ true = (Decides-int_eq q.id other).1 (its ∙ sym ((Decides-int_eq other id).0 same)) in
          let one : count_by (is_asked_as other) (log ++ message.Query q ∷ []) ≡ count_by (is_asked_as other) log + 1
          = count_push (is_asked_as other) log (message.Query q) ∙ ap (λ c. count_by (is_asked_as other) log + (if c then 1 else 0)) here in
          omega (arith, one)
      by other false differs open_ = omega (arith, are.each other open_, count_more (is_asked_as other) log (message.Query q ∷ []))

  -- an act leaves no more open than were, and only what was
  pub act_asked : (log : List Message) → open_count st ≤ open_count (standing old id) → AreAsked log old → AreAsked log new
  act_asked log less are = record {
    few = omega (arith, put.count, are.few, less);
    each = λ other open_. by other (int_eq other id) refl (ap is_to_answer (sym (put.each other)) ∙ open_);
  }
    where
      still_open : (a b : Standing) → open_count a ≤ open_count b → is_to_answer a ≡ true → is_to_answer b ≡ true
      still_open a Nowhere le open_ = absurd (omega (arith, le, ap {B = ℕ} (λ c. if c then 1 else 0) open_))
      still_open a (Open place begun) le open_ = refl
      still_open a Stopped le open_ = absurd (omega (arith, le, ap {B = ℕ} (λ c. if c then 1 else 0) open_))

      by : (other : ℤ) (b : Bool) → int_eq other id ≡ b → is_to_answer (if b then st else standing old other) ≡ true → 1 ≤ count_by (is_asked_as other) log
      by other true same open_ =
          are.each other (subst (λ i. is_to_answer (standing old i) ≡ true) (sym ((Decides-int_eq other id).0 same)) (still_open st (standing old id) less open_))
      by other false differs open_ = are.each other open_
