-- What every server keeps, kept.
use Rattle.std.proofs.Common.{◌≡◌, refl, sym, ap, ◌∙◌, subst, ℕ, zero, suc, ◌+◌, ◌<◌, ◌≤◌, ℤ, Bool, true, false, ◌&&◌, cond, List, [], ◌∷◌, arith}
use Rattle.std.specs.Prelude.{Option, Some, None, Result, Ok, Err, slice_get, nat_le}
use Rattle.std.specs.Ordering.{int_eq}
use borrow.Author.Tests.{leb-false}
use Rattle.rpc_end.specs.Ends.{EndState}
use Rattle.rpc_msg.specs.declared.message.Query.{Query}
use Rattle.rpc_msg.specs.declared.shared.CloseCause.TheVariants as cause
use Rattle.rpc_schema.specs.declared.desc.Entry.{Entry}
use Rattle.rpc_schema.specs.declared.desc.Kind.{Kind}
use Rattle.rpc_schema.specs.declared.desc.Kind.TheVariants.{Plain, OneWay, Pipe, State}
use Rattle.rpc_talk.specs.Acts.{Act, Reply, Fail, Begin, Decline, Give, End, Stop, suits, finishes, Owner, Menu, Nobody, Line, owner, is_menu}
use Rattle.rpc_talk.specs.Asks.{Asks, Calls, Aborts, Unclear, asks_in, asks_menu}
use Rattle.rpc_talk.specs.Parts.{is_stream, is_tracked}
use Rattle.bp_value.specs.declared.value.Value.{Value}
use Rattle.rpc_server.specs.Hearing.{heard_open, heard_menu, heard_call, heard_asks, heard_some, heard_by, heard_new, heard_query, aborts_some}
use Rattle.rpc_server.specs.Rules.{Rules}
use Rattle.rpc_server.specs.Servers.{ServerState, IsOpenTo, IsStanding, IsServer, after_said, after_heard}
use Rattle.rpc_server.specs.Tables.{place_in_schema, forgotten, standing, is_to_answer, unfinished, open_count, IsPut}
use Rattle.rpc_server.specs.declared.hearing.Heard.{Heard}
use Rattle.rpc_server.specs.declared.hearing.Heard.TheVariants as heard
use Rattle.rpc_server.specs.declared.table.Standing.{Standing}
use Rattle.rpc_server.specs.declared.table.Standing.TheVariants.{Nowhere, Open, Stopped}
use Rattle.rpc_server.specs.declared.table.Tracked.{Tracked}

-- ---- what is asked of a handler

-- the entry at the place has answers, the query is new, and there is room for one more
pub record MayAsk (r : Rules) (s : Standing) (n place : ℕ) : Type 0 where
  pub entry : Entry
  pub at : slice_get r.entries place ≡ Some entry
  pub tracked : is_tracked entry.desc.kind ≡ true
  pub room : n + 1 ≤ r.limits.max_open
  pub fresh : open_count s ≡ 0

abbrev place_in : Heard → Option ℕ
place_in heard.Ignored = None
place_in (heard.Answered a) = None
place_in (heard.Asked place v) = Some place
place_in (heard.Noted place v) = None
place_in heard.Stopped = None
place_in (heard.Faulty why) = None

none_some : {A : Type 0} (a : A) → None ≡ Some a → ⊥
none_some a e = cc

some_is : {A : Type 0} (a b : A) → Some a ≡ Some b → a ≡ b
some_is a b e = cc

asked_call : (r : Rules) (s : Standing) (n at place : ℕ) (v : Value) (e : Entry) → slice_get r.entries at ≡ Some e → is_tracked e.desc.kind ≡ true
    → open_count s ≡ 0 → place_in (heard_call r n at v) ≡ Some place → MayAsk r s n place
asked_call r s n at place v e there tracked fresh h = by (nat_le r.limits.max_open n) refl h
  where
    by : (t : Bool) → nat_le r.limits.max_open n ≡ t → place_in (cond t (heard.Faulty (cause.TooManyOpen r.limits.max_open)) (heard.Asked at v)) ≡ Some place
        → MayAsk r s n place
    by true full h = absurd (none_some place h)
    by false few h =
        let same = some_is at place h in
        record {
          entry = e;
          at = subst (λ k. slice_get r.entries k ≡ Some e) same there;
          tracked = tracked;
          room = omega (arith, leb-false r.limits.max_open n few);
          fresh = fresh;
        }

asked_at : (t : Bool) (r : Rules) (s : Standing) (n : ℕ) (id : ℤ) (at place : ℕ) (a : Asks) (e : Entry) → slice_get r.entries at ≡ Some e
    → is_tracked e.desc.kind ≡ t → open_count s ≡ 0 → place_in (heard_asks t r n id at a) ≡ Some place → MayAsk r s n place
asked_at t r s n id at place Aborts e there tracked fresh h = absurd (none_some place h)
asked_at true r s n id at place (Calls v) e there tracked fresh h = asked_call r s n at place v e there tracked fresh h
asked_at false r s n id at place (Calls v) e there tracked fresh h = absurd (none_some place h)
asked_at true r s n id at place Unclear e there tracked fresh h = absurd (none_some place h)
asked_at false r s n id at place Unclear e there tracked fresh h = absurd (none_some place h)

asked_some : (r : Rules) (s : Standing) (n : ℕ) (q : Query) (at place : ℕ) (o : Option Entry) → slice_get r.entries at ≡ o
    → open_count s ≡ 0 → place_in (heard_some r n q at o) ≡ Some place → MayAsk r s n place
asked_some r s n q at place None there fresh h = absurd (none_some place h)
asked_some r s n q at place (Some e) there fresh h =
    asked_at (is_tracked e.desc.kind) r s n q.id at place (asks_in r.limits.max_message e.desc q.body) e there refl fresh h

asked_by : (r : Rules) (s : Standing) (n : ℕ) (q : Query) (place : ℕ) (o : Owner) → open_count s ≡ 0 → place_in (heard_by r n q o) ≡ Some place → MayAsk r s n place
asked_by r s n q place Menu fresh h = menu (asks_menu r.limits.max_message q.body) h
  where
    menu : (a : Asks) → place_in (heard_menu r q.id a) ≡ Some place → MayAsk r s n place
    menu (Calls v) h = absurd (none_some place h)
    menu Aborts h = absurd (none_some place h)
    menu Unclear h = absurd (none_some place h)
asked_by r s n q place Nobody fresh h = absurd (none_some place h)
asked_by r s n q place (Line at) fresh h = asked_some r s n q at place (slice_get r.entries at) refl fresh h

asked_open : (b begun : Bool) (id : ℤ) (place : ℕ) → place_in (heard_open b begun id) ≡ Some place → ⊥
asked_open true true id place h = none_some place h
asked_open true false id place h = none_some place h
asked_open false begun id place h = none_some place h

asked : (r : Rules) (s : Standing) (n : ℕ) (q : Query) (place : ℕ) → place_in (heard_query r s n q) ≡ Some place → MayAsk r s n place
asked r (Open at begun) n q place h = absurd (asked_open (aborts_some r.limits.max_message q (slice_get r.entries at)) begun q.id place h)
asked r Nowhere n q place h = asked_by r Nowhere n q place (owner r.entries q.tag q.version) refl h
asked r Stopped n q place h = asked_by r Stopped n q place (owner r.entries q.tag q.version) refl h

-- ---- a table that was changed at an id

abbrev Stands : Rules → List Tracked → Type 0
Stands r table = (id : ℤ) → IsStanding r.entries (standing table id)

stands_put : (r : Rules) (old new : List Tracked) (id : ℤ) (s : Standing) → Stands r old → IsPut old id s new → IsStanding r.entries s → Stands r new
stands_put r old new id s stands put good k = by (int_eq k id) refl
  where
    by : (t : Bool) → int_eq k id ≡ t → IsStanding r.entries (standing new k)
    by true e = subst (IsStanding r.entries) (sym (put.each k ∙ ap (λ t. cond t s (standing old k)) e)) good
    by false e = subst (IsStanding r.entries) (sym (put.each k ∙ ap (λ t. cond t s (standing old k)) e)) (stands k)

pub server_put : (r : Rules) (old new : List Tracked) (link link' : EndState) (id : ℤ) (s : Standing) → IsServer r old link → IsPut old id s new
    → IsStanding r.entries s → unfinished old + open_count s ≤ r.limits.max_open + open_count (standing old id) → link'.max ≡ link.max → IsServer r new link'
server_put r old new link link' id s kept put good few same = record {
  same_limit = same ∙ kept.same_limit;
  few = omega (arith, put.count, few);
  stands = stands_put r old new id s kept.stands put good;
}

pub same_server : (r : Rules) {old new : List Tracked} {link link' : EndState} → IsServer r old link → new ≡ old → link' ≡ link → IsServer r new link'
same_server r {old = old} {link' = link'} kept table link =
    subst (λ t. IsServer r t link') (sym table) (subst (λ l. IsServer r old l) (sym link) kept)

pub same_state : (old : ServerState) (table : List Tracked) (link : EndState) → table ≡ old.table → link ≡ old.link
    → ◌≡◌ {A = ServerState} (record { rules = old.rules; table = table; link = link }) old
same_state old table link kept left =
    ap (λ t. record { rules = old.rules; table = t; link = link }) kept ∙ ap (λ l. record { rules = old.rules; table = old.table; link = l }) left

-- ---- behind a query

forgotten_good : (es : List Entry) (s : Standing) → IsStanding es s → IsStanding es (forgotten s)
forgotten_good es Nowhere good = tt
forgotten_good es (Open place begun) good = good
forgotten_good es Stopped good = tt

forgotten_count : (s : Standing) → open_count (forgotten s) ≡ open_count s
forgotten_count Nowhere = refl
forgotten_count (Open place begun) = refl
forgotten_count Stopped = refl

same_max : (link : EndState) (id : ℤ) (h : Heard) → (after_said link id h).max ≡ link.max
same_max link id heard.Ignored = refl
same_max link id (heard.Answered a) = refl
same_max link id (heard.Asked place v) = refl
same_max link id (heard.Noted place v) = refl
same_max link id heard.Stopped = refl
same_max link id (heard.Faulty why) = refl

heard_good : (r : Rules) (s : Standing) (n : ℕ) (h : Heard) → ((place : ℕ) → place_in h ≡ Some place → MayAsk r s n place) → IsStanding r.entries s
    → n ≤ r.limits.max_open → IsStanding r.entries (after_heard s h) × (n + open_count (after_heard s h) ≤ r.limits.max_open + open_count s)
heard_good r s n heard.Ignored may good few = (forgotten_good r.entries s good, omega (arith, forgotten_count s))
heard_good r s n (heard.Answered a) may good few = (forgotten_good r.entries s good, omega (arith, forgotten_count s))
heard_good r s n (heard.Asked place v) may good few =
    let m = may place refl in
    ((m.entry, m.at, record { tracked = m.tracked; stream = λ e. absurd (false_true e) }), omega (arith, m.room))
  where
    false_true : false ≡ true → ⊥
    false_true e = cc
heard_good r s n (heard.Noted place v) may good few = (forgotten_good r.entries s good, omega (arith, forgotten_count s))
heard_good r s n heard.Stopped may good few = (tt, omega arith)
heard_good r s n (heard.Faulty why) may good few = (good, omega arith)

pub server_heard : (r : Rules) (old new : List Tracked) (link link' : EndState) (id : ℤ) (q : Query) (h : Heard) → IsServer r old link
    → h ≡ heard_query r (standing old id) (unfinished old) q → IsPut old id (after_heard (standing old id) h) new → link' ≡ after_said link id h → IsServer r new link'
server_heard r old new link link' id q h kept is put by_itself =
    let (good, few) = heard_good r (standing old id) (unfinished old) h
    (λ place e. asked r (standing old id) (unfinished old) q place (ap place_in (sym is) ∙ e)) (kept.stands id) kept.few in
    server_put r old new link link' id (after_heard (standing old id) h) kept put good few (ap (λ (l : EndState). l.max) by_itself ∙ same_max link id h)

-- ---- a stop comes of a query that is open

abbrev stops : Heard → Bool
stops heard.Ignored = false
stops (heard.Answered a) = false
stops (heard.Asked place v) = false
stops (heard.Noted place v) = false
stops heard.Stopped = true
stops (heard.Faulty why) = false

never_at : (t : Bool) (r : Rules) (n : ℕ) (id : ℤ) (at : ℕ) (a : Asks) → stops (heard_asks t r n id at a) ≡ false
never_at t r n id at Aborts = refl
never_at true r n id at (Calls v) = by (nat_le r.limits.max_open n)
  where
    by : (t : Bool) → stops (cond t (heard.Faulty (cause.TooManyOpen r.limits.max_open)) (heard.Asked at v)) ≡ false
    by true = refl
    by false = refl
never_at false r n id at (Calls v) = refl
never_at true r n id at Unclear = refl
never_at false r n id at Unclear = refl

never_some : (r : Rules) (n : ℕ) (q : Query) (at : ℕ) (o : Option Entry) → stops (heard_some r n q at o) ≡ false
never_some r n q at None = refl
never_some r n q at (Some e) = never_at (is_tracked e.desc.kind) r n q.id at (asks_in r.limits.max_message e.desc q.body)

never_new : (r : Rules) (n : ℕ) (q : Query) (o : Owner) → stops (heard_by r n q o) ≡ false
never_new r n q Menu = menu (asks_menu r.limits.max_message q.body)
  where
    menu : (a : Asks) → stops (heard_menu r q.id a) ≡ false
    menu (Calls v) = refl
    menu Aborts = refl
    menu Unclear = refl
never_new r n q Nobody = refl
never_new r n q (Line at) = never_some r n q at (slice_get r.entries at)

pub stopped_open : (r : Rules) (s : Standing) (n : ℕ) (q : Query) → heard_query r s n q ≡ heard.Stopped → s ≡ Nowhere → ⊥
stopped_open r s n q e nowhere =
    false_true (sym (never_new r n q (owner r.entries q.tag q.version)) ∙ (ap (λ s. stops (heard_query r s n q)) (sym nowhere) ∙ ap stops e))
  where
    false_true : false ≡ true → ⊥
    false_true e = cc

-- ---- behind an act

pub after_good : (r : Rules) (s : Standing) (act : Act) (place : ℕ) (e : Entry) → place_in_schema s ≡ Some place → slice_get r.entries place ≡ Some e
    → IsStanding r.entries s → suits act e.desc.kind ≡ true → IsStanding r.entries (cond (finishes act) Nowhere (Open place true))
after_good r Nowhere act place e at there good fit = absurd (none_some place at)
after_good r Stopped act place e at there good fit = absurd (none_some place at)
after_good r (Open k begun) act place e at there (other, here, opened) fit =
    by act fit
  where
    same : other ≡ e
    same = some_is other e (sym here ∙ (ap (slice_get r.entries) (some_is k place at) ∙ there))

    tracked : is_tracked e.desc.kind ≡ true
    tracked = subst (λ (x : Entry). is_tracked x.desc.kind ≡ true) same opened.tracked

    by : (act : Act) → suits act e.desc.kind ≡ true → IsStanding r.entries (cond (finishes act) Nowhere (Open place true))
    by (Reply v) fit = tt
    by (Fail text) fit = tt
    by (Begin v) fit = (e, there, record { tracked = tracked; stream = λ x. fit })
    by (Decline v) fit = tt
    by (Give v) fit = (e, there, record { tracked = tracked; stream = λ x. fit })
    by End fit = tt
    by Stop fit = tt
